use Rattle.std.proofs.Common.{Some}
use Rattle.sqlite_keeper.specs.Failures.{keeper_answer}
use Rattle.sqlite_keeper.proofs.KeepLemmas.{answer_on_err, answer_on_ok, keeps, sets, still_err}
use Rattle.sqlite_keeper.proofs.sqlite_keeper.SqliteKeeperKeeper.put.Goals as goal

pub invariant_of-self : goal.invariant_of-self
invariant_of-self g c = keeps g.S.Store c.self.inside.connection c.put_item-written.new.connection
    c.self.inside.knows c.self.inside.last
    c.self.inside.last c.self.inside.faults c.answered.new.faults c.put_item-written.ensures.opened c.self.invariant
    c.put_item-written.ensures.rests c.put_item-written.ensures.cookies

pub returns-clause-ok : goal.returns-clause-ok
returns-clause-ok g c = sets g.S.Store c.self.inside.connection c.put_item-written.new.connection
    c.self.inside.knows c.self.inside.last
    c.self.inside.last c.self.inside.faults c.answered.new.faults c.put_item-written.ensures.opened c.self.invariant
    c.args.self.now c.self.view_is c.answered.result (keeper_answer c.put_item-written.result)
    c.answered.ensures.told c.args.key.now (Some c.args.item)
    (λ r o. answer_on_ok _ c.put_item-written.result (c.put_item-written.ensures.told r o))

pub returns-clause-err : goal.returns-clause-err
returns-clause-err g c = still_err g.S.Store c.self.inside.connection
    c.put_item-written.new.connection c.self.inside.knows c.self.inside.last
    c.self.inside.last c.self.inside.faults c.answered.new.faults c.put_item-written.ensures.opened c.self.invariant
    c.args.self.now c.self.view_is c.answered.result (keeper_answer c.put_item-written.result)
    c.answered.ensures.told
    (λ k o. answer_on_err _ c.put_item-written.result (c.put_item-written.ensures.same k o))
