use Rattle.std.proofs.Common.{◌≡◌, All, length}
use Rattle.std.specs.Prelude.{None}
use Rattle.server_tests.proofs.gates.eight_workers.Given as goal

abbrev pub invariant-loop-letter : goal.invariant-loop-letter
invariant-loop-letter l =
    (length l.workers.items ≡ l.letter) × All (λ w. w.pass ≡ None) l.workers.items
