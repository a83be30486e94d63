-- Byte strings are read as they are judged.
use Rattle.std.proofs.Common.{◌≡◌, ℕ, ◌+◌, ◌/◌, ◌%◌, true, false, List, [], ◌∷◌, length, Result, Some, Ok, Err, refl, sym, ap, ◌∙◌, arith}
use Rattle.std.specs.Prelude.{◌&&◌, ◌==◌, ◌≤◌, ◌<◌, nat_le, take, drop, slice_index, MatchResult, ⊤}
use Rattle.std.specs.List.{list_all}
use Rattle.std.proofs.lemmas.Bool.{and_parts}
use Rattle.std.proofs.lemmas.List.{length-take-le}
use Rattle.std.proofs.lemmas.Bool.Decides.{nat_tests}
use Rattle.hex.specs.Hex.{decode_of, decode_pairs, decode_sized, hex_digit_value}
use Rattle.hex.specs.declared.error.FromHexError.{FromHexError}
use Rattle.hex.proofs.HexLemmas.{decode_of-even}
use Rattle.visit_command.specs.VisitWords.{is_digit, are_digits, digit_value, bytes_of_digits, byte_string}

digit_is : (c : ℕ) → is_digit c ≡ true → hex_digit_value c ≡ Some (digit_value c)
digit_is c digit = grind (arith, nat_tests)

pairs_decode : (i : ℕ) (digits : List ℕ) → length digits % 2 ≡ 0 → list_all is_digit digits ≡ true
    → decode_pairs i digits ≡ Ok (bytes_of_digits digits)
unfolding decode_pairs bytes_of_digits
pairs_decode i [] even all = refl
pairs_decode i (a ∷ []) even all = absurd (omega arith)
pairs_decode i (a ∷ b ∷ rest) even all =
    let first = and_parts (is_digit a) (list_all is_digit (b ∷ rest)) all in
    let second = and_parts (is_digit b) (list_all is_digit rest) first.1 in
    let high = digit_is a first.0 in
    let low = digit_is b second.0 in
    let others = pairs_decode (i + 2) rest (omega arith) second.1 in
    rw (high, low, others) refl

-- digits of whole bytes spell these bytes
pub digits_decode : (digits : List ℕ) → length digits % 2 ≡ 0 → list_all is_digit digits ≡ true
    → decode_of digits ≡ Ok (bytes_of_digits digits)
digits_decode digits even all = decode_of-even digits even ∙ pairs_decode 0 digits even all

pub length-bytes_of_digits : (digits : List ℕ) → length (bytes_of_digits digits) ≡ length digits / 2
unfolding bytes_of_digits
length-bytes_of_digits [] = refl
length-bytes_of_digits (a ∷ []) = refl
length-bytes_of_digits (a ∷ b ∷ rest) = omega (arith, length-bytes_of_digits rest)

-- what was decoded of digits is what they spell, of at most so many bytes
pub decoded_is : (digits bytes : List ℕ) (most : ℕ) → are_digits digits most ≡ true
    → decode_of digits ≡ Ok bytes → (bytes ≡ bytes_of_digits digits) × (length bytes ≤ most)
decoded_is digits bytes most good decoded =
    let parts = and_parts (nat_le (length digits / 2) most && length digits % 2 == 0)
    (list_all is_digit digits) good in
    let tests = and_parts (nat_le (length digits / 2) most) (length digits % 2 == 0) parts.0 in
    let even : length digits % 2 ≡ 0 = grind (arith, nat_tests) in
    let same : bytes ≡ bytes_of_digits digits = cc (decoded, digits_decode digits even parts.1) in
    (same, grind (arith, nat_tests, length-bytes_of_digits digits))

-- a word is `x` and digits that were decoded
pub string_read : (word bytes : List ℕ) (most : ℕ) → 0 < length word → slice_index word 0 ≡ 120
    → are_digits (drop 1 word) most ≡ true → decode_of (drop 1 word) ≡ Ok bytes
    → (Some bytes ≡ byte_string word most) × (length bytes ≤ most)
unfolding byte_string
string_read [] bytes most some first good decoded = absurd (omega arith)
string_read (x ∷ digits) bytes most some first good decoded =
    let is = decoded_is digits bytes most good decoded in
    let test : x == 120 ≡ true = grind (arith, nat_tests) in
    (rw (test, good, is.0) refl, is.1)

-- digits that are read into room for as many bytes as they spell
pub sized_decode : (digits : List ℕ) (n : ℕ) → length digits / 2 ≡ n → length digits % 2 ≡ 0
    → list_all is_digit digits ≡ true → decode_sized digits n ≡ Ok (bytes_of_digits digits)
sized_decode digits n fits even all =
    let odd : (length digits % 2 == 1) ≡ false = grind (arith, nat_tests) in
    let same : (length digits / 2 == n) ≡ true = grind (arith, nat_tests) in
    rw (odd, same, pairs_decode 0 digits even all) refl

-- a word is `x` and digits that were read into room
pub room_read : (word digits out : List ℕ) (n most : ℕ) (read : Result ⊤ FromHexError)
    → MatchResult (decode_sized digits n) (λ bytes. (read ≡ Ok tt) × (out ≡ bytes))
    (λ e. read ≡ Err e)
    → digits ≡ drop 1 word → n ≡ length digits / 2 → 0 < length word → slice_index word 0 ≡ 120
    → are_digits (drop 1 word) most ≡ true → (read ≡ Ok tt) × (byte_string word most ≡ Some out)
unfolding byte_string
room_read [] digits out n most read decoded rest fits some first good = absurd (omega arith)
room_read (x ∷ others) digits out n most read decoded rest fits some first good =
    let parts = and_parts (nat_le (length others / 2) most && length others % 2 == 0)
    (list_all is_digit others) good in
    let tests = and_parts (nat_le (length others / 2) most) (length others % 2 == 0) parts.0 in
    let even : length others % 2 ≡ 0 = grind (arith, nat_tests) in
    let room : length others / 2 ≡ n = sym (fits ∙ ap (λ (d : List ℕ). length d / 2) rest) in
    let sized : decode_sized digits n ≡ Ok (bytes_of_digits others) =
    ap (λ d. decode_sized d n) rest ∙ sized_decode others n room even parts.1 in
    let given = rw sized at decoded in
    let test : x == 120 ≡ true = grind (arith, nat_tests) in
    (given.0, rw (test, good) (ap Some (sym given.1)))

-- there is room for the bytes
pub room_for : (digits room : List ℕ) → are_digits digits (length room) ≡ true
    → length (take (length digits / 2) room) ≡ length digits / 2
room_for digits room good =
    let parts = and_parts (nat_le (length digits / 2) (length room) && length digits % 2 == 0)
    (list_all is_digit digits) good in
    let tests = and_parts (nat_le (length digits / 2) (length room)) (length digits % 2 == 0)
    parts.0 in
    length-take-le (length digits / 2) room (grind (arith, nat_tests))
