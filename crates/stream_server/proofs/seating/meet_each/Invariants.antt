use Rattle.std.proofs.Common.{◌≡◌}
use Rattle.std.specs.Prelude.{All}
use Rattle.state_store.specs.Passes.{IsPassOf, caller_of}
use Rattle.stream_server.specs.WorkerPasses.{HaveSameCallers, MeetsUpTo}
use Rattle.stream_server.proofs.seating.meet_each.Given as goal

abbrev pub invariant-loop-k : goal.invariant-loop-k
invariant-loop-k g l = record {
  first : IsPassOf l.store l.first;
  caller : caller_of l.first ≡ caller_of l.initial.first;
  others : All (IsPassOf l.store) l.others;
  callers : HaveSameCallers l.initial.others l.others;
  met : MeetsUpTo l.k l.initial.first l.first l.initial.others l.others;
}
