use Rattle.sqlite_keeper.specs.Failures.{keeper_answer}
use Rattle.sqlite_keeper.proofs.KeepLemmas.{answer_if_ok, due_by, keeps_all, still}
use Rattle.sqlite_keeper.proofs.sqlite_keeper.SqliteKeeperKeeper.due.Goals as goal

pub invariant_of-self : goal.invariant_of-self
invariant_of-self g c = keeps_all g.S.Store c.self.inside.connection c.due_key-key.new.connection
    c.self.inside.knows c.self.inside.last
    c.self.inside.last c.self.inside.faults c.answered.new.faults c.due_key-key.ensures.opened c.self.invariant
    c.due_key-key.ensures.same

pub returns-clause-due : goal.returns-clause-due
returns-clause-due g c = due_by g.S.Store c.self.inside.connection c.due_key-key.new.connection
    c.self.inside.knows c.self.inside.last
    c.self.inside.last c.self.inside.faults c.answered.new.faults c.due_key-key.ensures.opened c.self.invariant
    c.args.self.now c.self.view_is c.args.t c.answered.result (keeper_answer c.due_key-key.result)
    c.answered.ensures.told c.due_key-key.ensures.same
    (λ r o. answer_if_ok _ c.due_key-key.result (c.due_key-key.ensures.due r o))

pub returns-clause-same : goal.returns-clause-same
returns-clause-same g c = still g.S.Store c.self.inside.connection c.due_key-key.new.connection
    c.self.inside.knows c.self.inside.last
    c.self.inside.last c.self.inside.faults c.answered.new.faults c.due_key-key.ensures.opened c.self.invariant
    c.args.self.now c.self.view_is c.due_key-key.ensures.same
