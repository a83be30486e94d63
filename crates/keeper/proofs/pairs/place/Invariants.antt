use Rattle.std.proofs.Common.{◌≡◌, ℕ, ◌+◌, drop}
use Rattle.keeper.specs.Pairs.{item_at, IsPlaceOf}
use Rattle.keeper.proofs.pairs.place.Given as goal

abbrev pub invariant-loop-i : goal.invariant-loop-i
invariant-loop-i l = record {
  rest : item_at l.pairs l.key ≡ item_at (drop l.i l.pairs) l.key;
  place : (n : ℕ) → IsPlaceOf (drop l.i l.pairs) l.key n → IsPlaceOf l.pairs l.key (l.i + n);
}
