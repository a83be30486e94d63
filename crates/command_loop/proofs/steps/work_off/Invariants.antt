use Rattle.std.proofs.Common.{◌≤◌, ◌++◌, List, ℕ}
use Rattle.asp_base.specs.Outside.{Takes}
use Rattle.command_loop.specs.Feeding.{FollowsFrom, IsShort}
use Rattle.command_loop.proofs.steps.work_off.Given as goal

abbrev pub invariant-steps : goal.invariant-steps
invariant-steps g l = record {
  goes : (wrote : List ℕ) × Takes (g.T.Sink.taken l.fn.sink) (g.T.Sink.taken l.sink) wrote
      × FollowsFrom g.C.Consumer.went l.fn.consumer
      (λ start fed given. g.C.Consumer.went start l.consumer fed (given ++ wrote));
  short : IsShort g.C.Consumer.went l.consumer 0;
  faults : g.T.Sink.faults l.fn.sink ≤ g.T.Sink.faults l.sink;
}

abbrev pub decreases-steps : goal.decreases-steps
decreases-steps g l = g.C.Consumer.work l.consumer
