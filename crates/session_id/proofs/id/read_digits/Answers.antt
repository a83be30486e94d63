use Rattle.std.proofs.Common.{arith, sym}
use Rattle.session_id.specs.Identifiers.{digit_of}
use Rattle.session_id.proofs.NumberLemmas.{map-from_each}
use Rattle.session_id.proofs.IdentifierLemmas.{is_text-wrong_length, is_text-outside, is_text-from_each}
use Rattle.session_id.proofs.id.read_digits.Goals as goal

pub returns-then-text-ne24-clause-found : goal.returns-then-text-ne24-clause-found
returns-then-text-ne24-clause-found c = sym (is_text-wrong_length c.args.text.now
    (λ e. omega (arith, e)))

pub returns-in_err-digits-clause-found : goal.returns-in_err-digits-clause-found
returns-in_err-digits-clause-found c =
    rw c.from_residual.ensures (sym (is_text-outside c.args.text.now c.loop-i.i (omega arith)
    c.in_err-digits.ensures))

pub returns-clause-found : goal.returns-clause-found
returns-clause-found c =
    sym (is_text-from_each c.args.text.now (omega arith)
    (λ k lt. c.loop-i.invariant.below k (omega arith)))

pub returns-clause-value : goal.returns-clause-value
returns-clause-value c =
    map-from_each digit_of c.args.text.now c.loop-i.digits (omega arith)
    (λ k lt. c.loop-i.invariant.written k (omega arith))
