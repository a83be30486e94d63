use Rattle.std.proofs.Common.{◌≡◌, ◌<◌, ℕ, get_or, length}
use Rattle.session_id.specs.Identifiers.{character_of}
use Rattle.session_id.proofs.id.Id.text.Given as goal

abbrev pub invariant-loop-i : goal.invariant-loop-i
invariant-loop-i l = record {
  size : length l.text ≡ 24;
  written : (k : ℕ) → k < l.i → get_or l.text k 0 ≡ character_of (get_or l.digits k 0);
}
