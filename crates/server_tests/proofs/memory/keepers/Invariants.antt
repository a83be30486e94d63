use Rattle.std.proofs.Common.{◌≡◌, [], All, length}
use Rattle.server_tests.proofs.memory.keepers.Given as goal

abbrev pub invariant-loop : goal.invariant-loop
invariant-loop l = (length l.keepers.items ≡ l.counter) × All (λ k. k ≡ []) l.keepers.items
