use Rattle.sqlite_keeper.specs.Failures.{keeper_answer}
use Rattle.sqlite_keeper.proofs.BlockLemmas.{last_in_range}
use Rattle.sqlite_keeper.proofs.KeepLemmas.{answer_if_ok, block_by, keeps_block, still_rows}
use Rattle.sqlite_keeper.proofs.sqlite_keeper.SqliteKeeper.block.Goals as goal

pub invariant_of-self : goal.invariant_of-self
invariant_of-self g c = keeps_block g.S.Store c.self.inside.connection
    c.next_block-given.new.connection c.self.inside.knows c.self.inside.last c.last_after-self-inside.result
    c.self.inside.faults c.answered.new.faults c.next_block-given.ensures.opened c.self.invariant
    c.next_block-given.ensures.known c.next_block-given.ensures.rows
    (λ k o i. rw c.last_after-self-inside.ensures (c.next_block-given.ensures.cookies k o i))
    (rw c.last_after-self-inside.ensures (last_in_range c.self.inside.last c.args.at_least
    c.next_block-given.result c.self.invariant.in_range c.next_block-given.ensures.block))

pub returns-clause-told : goal.returns-clause-told
returns-clause-told g c = block_by g.S.Store c.self.inside.connection
    c.next_block-given.new.connection c.self.inside.knows c.self.inside.last c.last_after-self-inside.result
    c.self.inside.faults c.answered.new.faults c.next_block-given.ensures.opened c.self.invariant
    c.args.self.now c.self.view_is c.args.at_least c.answered.result
    (keeper_answer c.next_block-given.result) c.answered.ensures.told
    c.next_block-given.ensures.rows
    (λ r o. answer_if_ok _ c.next_block-given.result (c.next_block-given.ensures.told r o))

pub returns-clause-same : goal.returns-clause-same
returns-clause-same g c = still_rows g.S.Store c.self.inside.connection
    c.next_block-given.new.connection c.self.inside.knows c.self.inside.last c.last_after-self-inside.result
    c.self.inside.faults c.answered.new.faults c.next_block-given.ensures.opened c.self.invariant
    c.args.self.now c.self.view_is c.next_block-given.ensures.rows
