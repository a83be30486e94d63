-- Numbers in fields are read as they were written.
use Rattle.std.proofs.Common.{◌≡◌, ℕ, ◌<◌, ◌≤◌, ◌^◌, true, false, IsTrue, List, [], ◌∷◌, length, reverse, Some, refl, sym, ap, ◌∙◌, arith}
use Rattle.std.specs.Prelude.{◌==◌, nat_le, decimal}
use Rattle.std.specs.List.{list_all}
use Rattle.std.specs.Char.{is_ascii_digit, digit_value}
use Rattle.std.specs.Str.Parse.{AllDigits, digits_value}
use Rattle.std.proofs.lemmas.Bool.Decides.{nat_tests}
use Rattle.std.proofs.lemmas.Fmt.{decimal_is_IsNumeral, length-decimal-le}
use Rattle.std.proofs.lemmas.List.Elements.{All-weaker, All-head}
use Rattle.std.proofs.lemmas.List.Sums.{AllPass-from_list_all}
use Rattle.httparse.specs.Grammar.{AllPass, is_ows, is_value_byte, skip_ows, trim_ows}
use Rattle.httparse.proofs.TrimLemmas.{AllPass-reverse, trim_ows_space}
use Rattle.asp_base.specs.Numbers.{is_number, number_of}
use Rattle.asp_base.proofs.NumberLemmas.{is_number_by, number_in}
use Rattle.asp_messages.specs.Fields.{one, at_least, number_or, number_needed, named}

-- ---- digits

digit_byte : (c : ℕ) → digit_value c < 10 → is_ascii_digit c ≡ true
digit_byte c h = grind (arith, nat_tests)

digits_all : (ds : List ℕ) → AllDigits 10 ds → list_all is_ascii_digit ds ≡ true
digits_all [] h = refl
digits_all (c ∷ cs) (first, rest) = rw (digit_byte c first, digits_all cs rest) refl

decimal_digits : (n : ℕ) → n < 2 ^ 64 → list_all is_ascii_digit (decimal n) ≡ true
decimal_digits n small = digits_all (decimal n) (decimal_is_IsNumeral n small).0.1

decimal_pass : (n : ℕ) → n < 2 ^ 64 → AllPass is_ascii_digit (decimal n)
decimal_pass n small = AllPass-from_list_all is_ascii_digit (decimal n) (decimal_digits n small)

pub decimal-short : (n : ℕ) → n < 2 ^ 64 → length (decimal n) ≤ 20
decimal-short n small = length-decimal-le 20 n (omega arith) (omega arith) small

decimal-number : (n : ℕ) → n < 2 ^ 64 → is_number (decimal n) ≡ true
decimal-number n small = is_number_by (decimal n) (decimal_is_IsNumeral n small).0.0
    (decimal-short n small) (decimal_digits n small)

-- a number reads back
pub number_of-decimal : (n max : ℕ) → n < 2 ^ 64 → n ≤ max → number_of (decimal n) max ≡ Some n
number_of-decimal n max small within =
    let same : digits_value 10 (decimal n) ≡ n = (decimal_is_IsNumeral n small).1 in
    sym (number_in (decimal n) max (decimal-number n small) (omega arith)) ∙ ap Some same

at_least-some : (least n : ℕ) → least ≤ n → at_least least (Some n) ≡ Some n
at_least-some least n low =
    let test : nat_le least n ≡ true = grind (arith, nat_tests) in
    rw test refl

pub number_or-decimal : (default least most n : ℕ) → n < 2 ^ 64 → least ≤ n → n ≤ most
    → number_or default least most (one (decimal n)) ≡ Some n
number_or-decimal default least most n small low high =
    ap (at_least least) (number_of-decimal n most small high) ∙ at_least-some least n low

pub number_needed-decimal : (most n : ℕ) → n < 2 ^ 64 → n ≤ most
    → number_needed most (one (decimal n)) ≡ Some n
number_needed-decimal most n small high = number_of-decimal n most small high

pub minutes-decimal : (most n : ℕ) → n < 2 ^ 64 → 1 ≤ n → n ≤ most
    → at_least 1 (number_needed most (one (decimal n))) ≡ Some n
minutes-decimal most n small low high =
    ap (at_least 1) (number_of-decimal n most small high) ∙ at_least-some 1 n low

pub named-some : (cookie : ℕ) → 0 < cookie → named cookie ≡ Some cookie
named-some cookie some =
    let test : (cookie == 0) ≡ false = grind (arith, nat_tests) in
    rw test refl

-- ---- values of fields

no_blank : (c : ℕ) → is_ascii_digit c ≡ true → is_ows c ≡ false
no_blank c h = grind (arith, nat_tests)

skip_ows-digits : (ds : List ℕ) → AllPass is_ascii_digit ds → skip_ows ds ≡ ds
skip_ows-digits [] h = refl
skip_ows-digits (c ∷ cs) h =
    let first = no_blank c (All-head (λ b. IsTrue (is_ascii_digit b)) c cs h) in
    rw first refl

-- a value has nothing to trim, behind the space of its line
pub decimal-trimmed : (n : ℕ) → n < 2 ^ 64 → trim_ows (32 ∷ decimal n) ≡ decimal n
decimal-trimmed n small =
    let digits = decimal_pass n small in
    trim_ows_space (decimal n) (skip_ows-digits (decimal n) digits)
    (skip_ows-digits (reverse (decimal n)) (AllPass-reverse is_ascii_digit (decimal n) digits))

digit_is_value : (c : ℕ) → is_ascii_digit c ≡ true → is_value_byte c ≡ true
digit_is_value c h = grind (arith, nat_tests)

pub decimal-value : (n : ℕ) → n < 2 ^ 64 → AllPass is_value_byte (decimal n)
decimal-value n small =
    All-weaker (λ b. IsTrue (is_ascii_digit b)) (λ b. IsTrue (is_value_byte b)) digit_is_value
    (decimal n) (decimal_pass n small)
