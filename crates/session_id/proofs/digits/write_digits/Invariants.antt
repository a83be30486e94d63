use Rattle.std.proofs.Common.{◌≡◌, ◌<◌, ◌/◌, ◌%◌, ◌^◌, ℕ, get_or}
use Rattle.session_id.proofs.digits.write_digits.Given as goal

abbrev pub invariant-loop-i : goal.invariant-loop-i
invariant-loop-i l = record {
  value : l.rest ≡ l.number / l.base ^ l.i;
  written : (k : ℕ) → k < l.i → get_or l.digits k 0 ≡ l.number / l.base ^ k % l.base;
}
