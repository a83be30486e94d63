use Rattle.state_store.specs.Passes.{IsPassOf}
use Rattle.store_tests.proofs.threads.set.Given as goal

abbrev pub invariant-loop : goal.invariant-loop
invariant-loop g l = IsPassOf l.store l.pass
