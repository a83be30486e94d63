use Rattle.std.proofs.Common.{◌≡◌, [], All, length}
use Rattle.store_tests.proofs.given.keepers.Given as goal

abbrev pub invariant-loop : goal.invariant-loop
invariant-loop l = (length l.keepers.items ≡ l.counter) × All (λ pairs. pairs ≡ []) l.keepers.items
