use Rattle.sqlite_keeper.specs.Failures.{keeper_answer}
use Rattle.sqlite_keeper.proofs.KeepLemmas.{answer_if_ok, item_by, keeps_all, still}
use Rattle.sqlite_keeper.proofs.sqlite_keeper.SqliteKeeperKeeper.get.Goals as goal

pub invariant_of-self : goal.invariant_of-self
invariant_of-self g c = keeps_all g.S.Store c.self.inside.connection c.get_item-item.new.connection
    c.self.inside.knows c.self.inside.last
    c.self.inside.last c.self.inside.faults c.answered.new.faults c.get_item-item.ensures.opened c.self.invariant
    c.get_item-item.ensures.same

pub returns-clause-item : goal.returns-clause-item
returns-clause-item g c = item_by g.S.Store c.self.inside.connection c.get_item-item.new.connection
    c.self.inside.knows c.self.inside.last
    c.self.inside.last c.self.inside.faults c.answered.new.faults c.get_item-item.ensures.opened c.self.invariant
    c.args.self.now c.self.view_is c.args.key.now c.answered.result
    (keeper_answer c.get_item-item.result)
    c.answered.ensures.told c.get_item-item.ensures.same
    (λ r o. answer_if_ok _ c.get_item-item.result (c.get_item-item.ensures.item r o))

pub returns-clause-same : goal.returns-clause-same
returns-clause-same g c = still g.S.Store c.self.inside.connection c.get_item-item.new.connection
    c.self.inside.knows c.self.inside.last
    c.self.inside.last c.self.inside.faults c.answered.new.faults c.get_item-item.ensures.opened c.self.invariant
    c.args.self.now c.self.view_is c.get_item-item.ensures.same
