use Rattle.std.proofs.Common.{◌≡◌, true, Result, Ok, Err, length, drop, refl, sym, ap, ◌∙◌}
use Rattle.std.proofs.lemmas.List.{take_rest}
use Rattle.visit_command.specs.VisitWords.{are_digits}
use Rattle.visit_command.proofs.ByteStringLemmas.{room_for, room_read}
use Rattle.visit_command.proofs.hex_word.byte_string_in.Goals as goal

not_both : {A E : Type 0} (read : Result A E) (e : E) (a : A) (P : Type 0) → read ≡ Err e
    → read ≡ Ok a → P
not_both read e a P bad good = cc

pub returns-in-Ok : goal.returns-in-Ok
returns-in-Ok c =
    let word = c.args.word.now in
    let whole = take_rest word 1 in
    let found = sym c.are_digits.ensures ∙ c.if-not-are_digits.false in
    let good : are_digits (drop 1 word) (length c.args.room.now) ≡ true =
    sym (ap (λ d. are_digits d (length c.args.room.now)) whole) ∙ found in
    (room_read word _ c.decode_to_slice.new.out _ (length c.args.room.now) (Ok c.in-Ok.field-0)
    c.in-Ok.ensures.value whole (room_for _ c.args.room.now found) c.in-len1-up.len_at_least
    c.if-letter-ne120.false good).1

pub returns-in-Err : goal.returns-in-Err
returns-in-Err c =
    let word = c.args.word.now in
    let whole = take_rest word 1 in
    let found = sym c.are_digits.ensures ∙ c.if-not-are_digits.false in
    let good : are_digits (drop 1 word) (length c.args.room.now) ≡ true =
    sym (ap (λ d. are_digits d (length c.args.room.now)) whole) ∙ found in
    not_both (Err c.in-Err.field-0) c.in-Err.field-0 tt _ refl
    (room_read word _ c.decode_to_slice.new.out _ (length c.args.room.now) (Err c.in-Err.field-0)
    c.in-Err.ensures.value whole (room_for _ c.args.room.now found) c.in-len1-up.len_at_least
    c.if-letter-ne120.false good).0
