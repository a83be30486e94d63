use Rattle.std.proofs.Common.{◌-◌, ◌≡◌, ◌≤◌, ◌+◌}
use Rattle.message_framing.specs.Looks.{IsOpen}
use Rattle.message_framing.proofs.head.look_on.Given as goal

abbrev pub invariant-loop-at : goal.invariant-loop-at
invariant-loop-at g l = record {
  looked : IsOpen l.held l.at l.phase;
  from : l.from ≤ l.at;
  steps : l.steps + l.from ≡ l.initial.steps + l.at;
}

abbrev pub decreases-loop-at : goal.decreases-loop-at
decreases-loop-at g l = l.end - l.at
