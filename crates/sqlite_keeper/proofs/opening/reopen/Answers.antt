use Rattle.std.proofs.Common.{sym, ◌∙◌}
use Rattle.sqlite_keeper.proofs.ReadyLemmas.{reopened_if}
use Rattle.sqlite_keeper.proofs.opening.reopen.Goals as goal

pub returns-clause-kept : goal.returns-clause-kept
returns-clause-kept g c = reopened_if g.S.Store c.args.connection c.into_store-store.result
    c.over_store.result c.into_store-store.ensures.undone
    (λ clean. sym (c.is_broken.ensures clean) ∙ c.if-is_broken.false)
    (g.met.S.Store.broken_if_shut c.into_store-store.result)
    (c.is_autocommit.ensures.settled c.if-not-is_autocommit.false)
    c.over_store.ensures.kept
