use Rattle.std.proofs.Common.{◌≡◌, [], All, length}
use Rattle.asp_state.proofs.memory_keepers.keepers_of.Given as goal

abbrev pub invariant-loop : goal.invariant-loop
invariant-loop l = (length l.keepers.items ≡ l.counter) × All (λ pairs. pairs ≡ []) l.keepers.items
