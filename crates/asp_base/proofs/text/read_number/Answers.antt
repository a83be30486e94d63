use Rattle.std.proofs.Common.{◌≡◌, ℕ, ◌+◌, ◌-◌, ◌*◌, ◌<◌, ◌≤◌, ◌^◌, true, List, length, get_or, take, arith, refl, sym, ap, ◌∙◌, length-take, Some}
use Rattle.std.specs.List.{list_all}
use Rattle.std.specs.Prelude.{◌&&◌}
use Rattle.std.proofs.lemmas.Bool.Decides.{nat_tests}
use Rattle.std.proofs.lemmas.List.{take_all}
use Rattle.std.proofs.lemmas.List.Folds.{list_all_more, list_all_at}
use Rattle.std.proofs.lemmas.Int.Digits.{digits_value_more, digits_more}
use Rattle.std.specs.Char.{is_ascii_digit}
use Rattle.std.specs.Str.Parse.{digits_value, AllDigits}
use Rattle.asp_base.specs.Numbers.{is_number}
use Rattle.asp_base.proofs.NumberLemmas.{digit_value_is, value_bound, no_number, too_short, too_long, other_byte, is_number_by, number_in, number_above}
use Rattle.asp_base.proofs.text.read_number.Goals.{then-is_empty-via-then-is_empty, then-is_empty-via-else-is_empty+then-text-gt20}
use Rattle.asp_base.proofs.text.read_number.Goals as goal

pub returns-then-is_empty : goal.returns-then-is_empty
returns-then-is_empty c = elim c.then-is_empty.branch [
  | then-is_empty-via-then-is_empty w ↦ no_number _ _
      (too_short c.args.text.now (grind (arith, nat_tests)))
  | then-is_empty-via-else-is_empty+then-text-gt20 w ↦ no_number _ _
      (too_long c.args.text.now (omega arith))
]

pub returns-then-not-is_ascii_digit : goal.returns-then-not-is_ascii_digit
returns-then-not-is_ascii_digit c =
    no_number _ _ (other_byte c.args.text.now
    (list_all_at is_ascii_digit c.args.text.now c.loop-digit.digit-index 0
    c.loop-digit-test.true (sym c.if-not-is_ascii_digit.ensures.value)))

-- the next digit, and the bound of the number with it
more : (text : List ℕ) (i : ℕ) → i < length text → length text ≤ 20 → AllDigits 10 (take i text)
    → is_ascii_digit (get_or text i 0) ≡ true
    → AllDigits 10 (take (i + 1) text) × (digits_value 10 (take (i + 1) text)
    ≡ digits_value 10 (take i text) * 10 + (get_or text i 0 - 48))
    × (digits_value 10 (take (i + 1) text) < 10 ^ 20)
more text i below short all digit =
    let d = digit_value_is (get_or text i 0) digit in
    let next : AllDigits 10 (take (i + 1) text) =
    digits_more 10 text i below all (omega (arith, d.0)) in (
      next,
      rw (digits_value_more 10 text i below, d.0) refl,
      value_bound _ next (omega (arith, length-take (i + 1) text)),
    )

pub overflow_mul-value : goal.overflow_mul-value
overflow_mul-value c =
    let m = more c.args.text.now c.loop-digit.digit-index c.loop-digit-test.true
    c.if-text-gt20.false c.loop-digit.invariant.digits
    (sym c.if-not-is_ascii_digit.ensures.value) in
    omega (arith, m.1, m.2, c.loop-digit.invariant.value)

pub overflow_add-value : goal.overflow_add-value
overflow_add-value c =
    let m = more c.args.text.now c.loop-digit.digit-index c.loop-digit-test.true
    c.if-text-gt20.false c.loop-digit.invariant.digits
    (sym c.if-not-is_ascii_digit.ensures.value) in
    omega (arith, m.1, m.2, c.loop-digit.invariant.value)

pub loop-digit-preserved : goal.loop-digit-preserved
loop-digit-preserved c =
    let text = c.args.text.now in
    let i = c.loop-digit.digit-index in
    let m = more text i c.loop-digit-test.true c.if-text-gt20.false c.loop-digit.invariant.digits
    (sym c.if-not-is_ascii_digit.ensures.value) in
    record {
      passed = list_all_more is_ascii_digit text i 0 c.loop-digit-test.true
          ∙ ap (λ b. b && is_ascii_digit (get_or text i 0)) c.loop-digit.invariant.passed
          ∙ sym c.if-not-is_ascii_digit.ensures.value;
      digits = m.0;
      value = omega (arith, m.1, c.loop-digit.invariant.value);
    }

-- the loop has gone over the whole text
whole : (text : List ℕ) (i value : ℕ) → length text ≤ i → 0 < length text → length text ≤ 20
    → list_all is_ascii_digit (take i text) ≡ true → value ≡ digits_value 10 (take i text)
    → (is_number text ≡ true) × (value ≡ digits_value 10 text)
whole text i value all some short passed is =
    let same = take_all i text all in (
      is_number_by text some short (ap (list_all is_ascii_digit) (sym same) ∙ passed),
      is
          ∙ ap (digits_value 10) same,
    )

pub returns-then-value-max : goal.returns-then-value-max
returns-then-value-max c =
    let w = whole c.args.text.now c.loop-digit.digit-index c.loop-digit.value (omega arith)
    (grind (arith, nat_tests)) c.if-text-gt20.false c.loop-digit.invariant.passed
    c.loop-digit.invariant.value in
    ap Some w.1 ∙ number_in _ _ w.0 (omega (arith, w.1))

pub returns-else-value-max : goal.returns-else-value-max
returns-else-value-max c =
    let w = whole c.args.text.now c.loop-digit.digit-index c.loop-digit.value (omega arith)
    (grind (arith, nat_tests)) c.if-text-gt20.false c.loop-digit.invariant.passed
    c.loop-digit.invariant.value in
    number_above _ _ w.0 (omega (arith, w.1))
