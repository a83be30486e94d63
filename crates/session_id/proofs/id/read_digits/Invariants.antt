use Rattle.std.proofs.Common.{◌≡◌, ◌<◌, ℕ, get_or, length}
use Rattle.session_id.specs.Identifiers.{digit_of}
use Rattle.session_id.proofs.id.read_digits.Given as goal

abbrev pub invariant-loop-i : goal.invariant-loop-i
invariant-loop-i l = record {
  size : length l.digits ≡ 24;
  written : (k : ℕ) → k < l.i → get_or l.digits k 0 ≡ digit_of (get_or l.text k 0);
  below : (k : ℕ) → k < l.i → digit_of (get_or l.text k 0) < 32;
}
