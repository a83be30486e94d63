use Rattle.state_store.specs.Passes.{view_in}
use Rattle.stream_server.proofs.MeetingLemmas.{met-twice}
use Rattle.stream_server.proofs.seating.meet_all.Goals as goal

pub returns-clause-first_met : goal.returns-clause-first_met
returns-clause-first_met g c shard =
    (met-twice (λ p. view_in p shard) _ _ _ _ _ _ (c.meet_each.ensures.met shard)
    (c.meet_each-2.ensures.met shard)).0

pub returns-clause-others_met : goal.returns-clause-others_met
returns-clause-others_met g c j d below shard =
    (met-twice (λ p. view_in p shard) _ _ _ _ _ _ (c.meet_each.ensures.met shard)
    (c.meet_each-2.ensures.met shard)).1 j d below
