use Rattle.std.proofs.Common.{◌≡◌, ◌+◌, All}
use Rattle.state_store.specs.Passes.{IsPassOf, IsRollOf, passes_of}
use Rattle.store_tests.proofs.threads.make_passes.Given as goal

abbrev pub invariant-loop : goal.invariant-loop
invariant-loop g l = record {
  roll : IsRollOf l.store l.roll;
  made : passes_of l.roll ≡ 1 + l.counter;
  passes : All (IsPassOf l.store) l.passes.items;
}
