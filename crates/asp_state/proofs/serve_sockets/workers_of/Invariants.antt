use Rattle.std.proofs.Common.{◌≡◌, All}
use Rattle.std.specs.Prelude.{None}
use Rattle.asp_state.proofs.serve_sockets.workers_of.Given as goal

abbrev pub invariant-loop : goal.invariant-loop
invariant-loop l = All (λ w. w.pass ≡ None) l.workers.items
