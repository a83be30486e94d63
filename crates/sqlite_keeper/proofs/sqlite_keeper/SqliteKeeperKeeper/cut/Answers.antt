use Rattle.std.proofs.Common.{None}
use Rattle.sqlite_keeper.specs.Failures.{keeper_answer}
use Rattle.sqlite_keeper.proofs.KeepLemmas.{answer_on_err, answer_on_ok, keeps, sets, still_err}
use Rattle.sqlite_keeper.proofs.sqlite_keeper.SqliteKeeperKeeper.cut.Goals as goal

pub invariant_of-self : goal.invariant_of-self
invariant_of-self g c = keeps g.S.Store c.self.inside.connection c.cut_item-removed.new.connection
    c.self.inside.knows c.self.inside.last
    c.self.inside.last c.self.inside.faults c.answered.new.faults c.cut_item-removed.ensures.opened c.self.invariant
    c.cut_item-removed.ensures.rests c.cut_item-removed.ensures.cookies

pub returns-clause-ok : goal.returns-clause-ok
returns-clause-ok g c = sets g.S.Store c.self.inside.connection c.cut_item-removed.new.connection
    c.self.inside.knows c.self.inside.last
    c.self.inside.last c.self.inside.faults c.answered.new.faults c.cut_item-removed.ensures.opened c.self.invariant
    c.args.self.now c.self.view_is c.answered.result (keeper_answer c.cut_item-removed.result)
    c.answered.ensures.told c.args.key.now None
    (λ r o. answer_on_ok _ c.cut_item-removed.result (c.cut_item-removed.ensures.told r o))

pub returns-clause-err : goal.returns-clause-err
returns-clause-err g c = still_err g.S.Store c.self.inside.connection
    c.cut_item-removed.new.connection c.self.inside.knows c.self.inside.last
    c.self.inside.last c.self.inside.faults c.answered.new.faults c.cut_item-removed.ensures.opened c.self.invariant
    c.args.self.now c.self.view_is c.answered.result (keeper_answer c.cut_item-removed.result)
    c.answered.ensures.told
    (λ k o. answer_on_err _ c.cut_item-removed.result (c.cut_item-removed.ensures.same k o))
