use Rattle.state_store.specs.Passes.{IsPassOf}
use Rattle.store_tests.proofs.sweeps.write_many.Given as goal

abbrev pub invariant-loop-item : goal.invariant-loop-item
invariant-loop-item g l = IsPassOf l.store l.pass
