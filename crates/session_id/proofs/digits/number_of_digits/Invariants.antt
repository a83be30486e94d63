use Rattle.std.proofs.Common.{◌≡◌, drop}
use Rattle.session_id.specs.Identifiers.{number}
use Rattle.session_id.proofs.digits.number_of_digits.Given as goal

abbrev pub invariant-loop-i : goal.invariant-loop-i
invariant-loop-i l = l.number ≡ number l.base (drop l.i l.digits)
