use Rattle.std.proofs.Common.{pos, rules}
use Rattle.sqlite_keeper.proofs.CallLemmas.{on_ok, on_err}
use Rattle.sqlite_keeper.proofs.blocks.store_last.Goals as goal

pub returns-clause-sets : goal.returns-clause-sets
returns-clause-sets g c fits opened =
    on_ok _ c.set_last-count.result c.written.result
    (c.set_last-count.ensures.sets fits opened (pos c.args.last) (search rules))
    c.written.ensures.ok

pub returns-clause-same : goal.returns-clause-same
returns-clause-same g c fits opened =
    on_err _ c.set_last-count.result c.written.result (c.set_last-count.ensures.same fits opened)
    c.written.ensures.err

pub returns-clause-opened : goal.returns-clause-opened
returns-clause-opened g c opened = c.set_last-count.ensures.opened opened
