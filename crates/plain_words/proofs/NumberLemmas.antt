-- Numbers without leading zeros are read as they are written.
use Rattle.std.proofs.Common.{◌≡◌, ◌≢◌, ℕ, ◌<◌, ◌≤◌, ◌^◌, true, List, [], ◌∷◌, length, get_or, Option, Some, None, refl, sym, ap, ◌∙◌, arith, inl, inr}
use Rattle.std.specs.Prelude.{decimal, ◌&&◌, nat_lt, nat_le}
use Rattle.std.specs.List.{list_all}
use Rattle.std.specs.Char.{is_ascii_digit}
use Rattle.std.specs.Str.Parse.{AllDigits, digits_value}
use Rattle.std.proofs.lemmas.Bool.{and_parts, cases_eq}
use Rattle.std.proofs.lemmas.Bool.Decides.{nat_tests}
use Rattle.std.proofs.lemmas.Option.{cond_some}
use Rattle.std.proofs.lemmas.Fmt.{decimal_is_IsNumeral, decimal_digit, first_decimal, decimal-digits_value}
use Rattle.std.proofs.lemmas.List.Elements.{All-from_get_or}
use Rattle.std.proofs.lemmas.Str.Parse.{IsNumeralModel, numerals_by_value, tells_digits, digit_at}
use Rattle.asp_base.specs.Numbers.{is_number, number_of}
use Rattle.asp_base.proofs.NumberLemmas.{digit_value_is}
use Rattle.asp_messages.proofs.DecimalLemmas.{number_of-decimal}
use Rattle.plain_words.specs.Words.{ReadsAs, IsNumber, IsWord}

own : IsNumeralModel (AllDigits 10) (digits_value 10)
own = numerals_by_value (AllDigits 10) tells_digits

digits_from_test : (ds : List ℕ) → list_all is_ascii_digit ds ≡ true → AllDigits 10 ds
digits_from_test [] h = tt
digits_from_test (c ∷ cs) h =
    let parts = and_parts (is_ascii_digit c) (list_all is_ascii_digit cs) h in
    let d = digit_value_is c parts.0 in
    (omega (arith, d.0), digits_from_test cs parts.1)

one_zero : (ds : List ℕ) → (1 < length ds → get_or ds 0 0 ≢ 48) → get_or ds 0 0 ≡ 48 → length ds ≡ 1
one_zero [] h z = absurd (omega arith)
one_zero (c ∷ []) h z = refl
one_zero (c ∷ d ∷ ds) h z = absurd (h (omega arith) z)

found : (text : List ℕ) (max n : ℕ) → max < 2 ^ 64 → (1 < length text → get_or text 0 0 ≢ 48)
    → number_of text max ≡ Some n → IsNumber text max n
unfolding number_of
found text max n small plain e =
    let got = cond_some (is_number text && nat_le (digits_value 10 text) max) (digits_value 10 text)
    n e in
    let tests = and_parts (is_number text) (nat_le (digits_value 10 text) max) got.0 in
    let shape = and_parts (nat_lt 0 (length text))
    (nat_le (length text) 20 && list_all is_ascii_digit text) tests.0 in
    let rest = and_parts (nat_le (length text) 20) (list_all is_ascii_digit text) shape.1 in
    let some : 0 < length text = grind (arith, nat_tests, shape.0) in
    let within : digits_value 10 text ≤ max = grind (arith, nat_tests, tests.1) in
    let back = decimal-digits_value own text (digits_from_test text rest.1) some
    (one_zero text plain) (omega arith) in
    (sym (ap decimal (sym got.1) ∙ back), omega (arith, got.1))

-- the number that was read
pub plain_reads : (text : List ℕ) (max : ℕ) (r : Option ℕ) → max < 2 ^ 64
    → (1 < length text → get_or text 0 0 ≢ 48)
    → r ≡ number_of text max → ReadsAs (IsNumber text max) r
plain_reads text max (Some n) small plain e = found text max n small plain (sym e)
plain_reads text max None small plain e = λ n is.
    let back = number_of-decimal n max (omega (arith, is.1)) is.1 in
    let clash : ◌≡◌ {A = Option ℕ} None (Some n) = e ∙ ap (λ t. number_of t max) is.0 ∙ back in
    cc

-- a longer text that begins with a zero
pub leading_zero : (text : List ℕ) (max : ℕ) → max < 2 ^ 64 → 1 < length text → get_or text 0 0 ≡ 48
    → (n : ℕ) → ¬ IsNumber text max n
leading_zero text max small long z n is =
    elim (cases_eq n 0) [
      | inl none ↦
          let one = ap length (is.0 ∙ ap decimal none ∙ decimal_digit 0 (omega arith)) in
          omega (arith, one)
      | inr some ↦
          let first = first_decimal n (omega arith) (omega (arith, is.1)) in
          let same = ap (λ t. get_or t 0 0) is.0 in
          omega (arith, first, same)
    ]

pub decimal_word : (n : ℕ) → n < 2 ^ 64 → IsWord (decimal n)
decimal_word n small =
    let all = (decimal_is_IsNumeral n small).0.1 in
    All-from_get_or (λ b. (32 < b) × (b ≢ 58)) (decimal n) 0
    (λ i h. let d = digit_at (decimal n) i all h in
    (omega (arith, d), λ e. omega (arith, d, e)))
