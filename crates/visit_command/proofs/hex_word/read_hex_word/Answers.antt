use Rattle.std.proofs.Common.{◌≡◌, ◌≤◌, true, Some, Ok, length, drop, sym, ap, ◌∙◌}
use Rattle.std.proofs.lemmas.List.{take_rest}
use Rattle.hex.specs.Hex.{decode_of}
use Rattle.visit_command.specs.VisitWords.{are_digits, byte_string}
use Rattle.visit_command.proofs.ByteStringLemmas.{string_read}
use Rattle.visit_command.proofs.hex_word.read_hex_word.Goals as goal

-- what was decoded is what the word spells
read : (c : goal.After-adopt) → (Some c.in-Ok.bytes.items ≡ byte_string c.args.word.now c.args.most)
    × (length c.in-Ok.bytes.items ≤ c.args.most)
read c =
    let word = c.args.word.now in
    let whole = take_rest word 1 in
    let good : are_digits (drop 1 word) c.args.most ≡ true =
    sym (ap (λ d. are_digits d c.args.most) whole) ∙ sym c.are_digits.ensures
    ∙ c.if-not-are_digits.false in
    let decoded : decode_of (drop 1 word) ≡ Ok c.in-Ok.bytes.items = ap decode_of (sym whole)
    ∙ c.in-Ok.ensures.ok in
    string_read word c.in-Ok.bytes.items c.args.most c.in-len1-up.len_at_least
    c.if-letter-ne120.false good decoded

pub returns-in-Ok-clause-value : goal.returns-in-Ok-clause-value
returns-in-Ok-clause-value c = rw c.adopt.ensures (read c).0

pub returns-in-Ok-clause-short : goal.returns-in-Ok-clause-short
returns-in-Ok-clause-short c = rw c.adopt.ensures (read c).1
