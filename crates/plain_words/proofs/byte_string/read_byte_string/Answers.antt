use Rattle.std.proofs.Common.{◌≡◌, ◌<◌, ◌/◌, ◌≤◌, false, Ok, length, drop, sym, ap, ◌∙◌, arith, inl, inr}
use Rattle.std.specs.List.{list_any}
use Rattle.std.proofs.lemmas.Bool.Decides.{nat_tests}
use Rattle.std.proofs.lemmas.List.{take_rest}
use Rattle.hex.specs.Hex.{decode_of}
use Rattle.plain_words.specs.Digits.{is_upper}
use Rattle.plain_words.proofs.ByteStringLemmas.{string_read, not_decoded, too_many, upper_case}
use Rattle.plain_words.proofs.byte_string.read_byte_string.Goals.{then-digits-most-via-then-digits-most, then-digits-most-via-else-digits-most+then-has_upper}
use Rattle.plain_words.proofs.byte_string.read_byte_string.Goals as goal

pub returns-then-digits-most : goal.returns-then-digits-most
returns-then-digits-most c =
    let text = c.args.text.now in
    let whole = take_rest text 1 in
    elim c.then-digits-most.branch [
      | then-digits-most-via-then-digits-most w ↦
          too_many text c.args.most (omega (arith, ap length whole, w.if-digits-most.true))
      | then-digits-most-via-else-digits-most+then-has_upper w ↦
          upper_case text c.args.most (sym (ap (list_any is_upper) whole) ∙ sym w.has_upper.ensures
          ∙ w.if-has_upper.true)
    ]

pub returns-in-Ok : goal.returns-in-Ok
returns-in-Ok c =
    let text = c.args.text.now in
    let whole = take_rest text 1 in
    let some : 0 < length text = grind (arith, nat_tests) in
    let short : length (drop 1 text) / 2 ≤ c.args.most =
    omega (arith, ap length whole, c.if-digits-most.false) in
    let lower : list_any is_upper (drop 1 text) ≡ false = sym (ap (list_any is_upper) whole)
    ∙ sym c.has_upper.ensures ∙ c.if-has_upper.false in
    let decoded : decode_of (drop 1 text) ≡ Ok c.in-Ok.bytes.items = ap decode_of (sym whole)
    ∙ c.in-Ok.ensures.ok in
    rw c.adopt.ensures (string_read text c.in-Ok.bytes.items c.args.most some c.if-text-ne120.false
    short lower decoded)

pub returns-in_default : goal.returns-in_default
returns-in_default c =
    let text = c.args.text.now in
    elim c.in-Err.ensures.err [
      | inl memory ↦ absurd (c.in_default.not-OutOfMemory memory)
      | inr refused ↦ not_decoded text c.args.most c.in-Err.error
          (ap decode_of (sym (take_rest text 1)) ∙ refused)
    ]
