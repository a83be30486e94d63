use Rattle.state_store.specs.Passes.{IsPassOf}
use Rattle.server_tests.proofs.serve_runs.find_all.Given as goal

abbrev pub invariant-loop-found : goal.invariant-loop-found
invariant-loop-found g l = IsPassOf l.store l.pass
