-- Byte strings are read as they are written.
use Rattle.std.proofs.Common.{◌≡◌, ◌≢◌, ℕ, zero, suc, ◌+◌, ◌-◌, ◌*◌, ◌/◌, ◌%◌, ◌<◌, ◌≤◌, Bool, true, false, cond, List, [], ◌∷◌, length, drop, get_or, slice_index, Result, Ok, Err, refl, sym, ap, ◌∙◌, arith, inl, inr, ◌⊎◌}
use Rattle.std.specs.Prelude.{◌==◌, ◌&&◌, ◌||◌, nat_lt}
use Rattle.std.specs.List.{list_any, AllPass}
use Rattle.std.proofs.lemmas.Bool.{and_parts, or_parts, or_from, cases_lt, eqb-true}
use Rattle.std.proofs.lemmas.Bool.Decides.{nat_tests}
use Rattle.std.proofs.lemmas.List.{get_or_past}
use Rattle.std.proofs.lemmas.List.Elements.{All-nil, All-cons, All-head, All-tail, All-from_get_or}
use Rattle.hex.specs.Hex.{IsBytes, decode_of, encode_lower, encode_with, lower_digits, is_hex_digit}
use Rattle.hex.specs.declared.error.FromHexError.{FromHexError}
use Rattle.hex.proofs.HexLemmas.{decode_of-encode_lower, decode_of-ok, decode_of-same, length-encode_with}
use Rattle.plain_words.specs.Words.{AreBytes, IsByteString, IsWord}
use Rattle.plain_words.specs.Digits.{is_upper}

-- ---- bytes

abbrev IsByte : ℕ → Type 0
IsByte b = b < 256

are_bytes : (xs : List ℕ) → IsBytes xs → AreBytes xs
are_bytes xs h = All-from_get_or IsByte xs 0 (λ i _. h i)

pub is_bytes : (xs : List ℕ) → AreBytes xs → IsBytes xs
is_bytes xs h i = elim (cases_lt i (length xs)) [
  | inl below ↦ h i 0 below
  | inr past ↦ let none = get_or_past xs i 0 past in omega (arith, none)
]

-- ---- digits

-- the lower-case digit of a value
abbrev glyph : ℕ → ℕ
glyph v = cond (nat_lt v 10) (48 + v) (87 + v)

abbrev table_is : ℕ → Bool
table_is zero = true
table_is (suc n) = (slice_index lower_digits n == glyph n) && table_is n

table_at : (n k : ℕ) → table_is n ≡ true → k < n → slice_index lower_digits k ≡ glyph k
table_at zero k h lt = absurd (omega arith)
table_at (suc n) k h lt =
    let parts = and_parts (slice_index lower_digits n == glyph n) (table_is n) h in
    elim (cases_lt k n) [
      | inl below ↦ table_at n k parts.1 below
      | inr top ↦
          let e : k ≡ n = omega arith in
          rw e (eqb-true (slice_index lower_digits n) (glyph n) parts.0)
    ]

digit_is : (v : ℕ) → v < 16 → slice_index lower_digits v ≡ glyph v
digit_is v lt = table_at 16 v refl lt

glyph_word : (v g : ℕ) → v < 16 → g ≡ glyph v → (32 < g) × (g ≢ 58)
glyph_word v g lt e = (grind (arith, nat_tests), λ colon. grind (arith, nat_tests))

glyph_lower : (v g : ℕ) → v < 16 → g ≡ glyph v → is_upper g ≡ false
glyph_lower v g lt e = grind (arith, nat_tests)

-- which bytes are lower-case digits
lower_cases : (c : ℕ) → is_hex_digit c ≡ true → is_upper c ≡ false
    → ((48 ≤ c) × (c ≤ 57)) ⊎ ((97 ≤ c) × (c ≤ 102))
lower_cases c digit lower = grind (arith, nat_tests)

decimal_glyph : (v : ℕ) → v < 10 → glyph v ≡ 48 + v
decimal_glyph v lt = grind (arith, nat_tests)

letter_glyph : (v : ℕ) → 10 ≤ v → glyph v ≡ 87 + v
letter_glyph v le = grind (arith, nat_tests)

digit_back : (c : ℕ) → is_hex_digit c ≡ true → is_upper c ≡ false
    → (v : ℕ) × (v < 16) × (slice_index lower_digits v ≡ c)
digit_back c digit lower = elim (lower_cases c digit lower) [
  | inl d ↦
      let v = c - 48 in
      let small : v < 10 = omega (arith, d.0, d.1) in
      let is = digit_is v (omega arith) ∙ decimal_glyph v small in
      (v, omega arith, omega (arith, is, d.0))
  | inr l ↦
      let v = c - 87 in
      let small : v < 16 = omega (arith, l.0, l.1) in
      let is = digit_is v small ∙ letter_glyph v (omega (arith, l.0)) in
      (v, small, omega (arith, is, l.0))
]

-- ---- texts

pub encoded_words : (bytes : List ℕ) → AreBytes bytes → IsWord (encode_lower bytes)
unfolding encode_with
encoded_words [] h = All-nil (λ b. (32 < b) × (b ≢ 58))
encoded_words (b ∷ rest) h =
    let P = λ (x : ℕ). (32 < x) × (x ≢ 58) in
    let fits = All-head IsByte b rest h in
    let high : b / 16 < 16 = omega (arith, fits) in
    let low : b % 16 < 16 = omega arith in
    let a = slice_index lower_digits (b / 16) in
    let z = slice_index lower_digits (b % 16) in
    All-cons P a (z ∷ encode_lower rest) (glyph_word (b / 16) a high (digit_is (b / 16) high))
    (All-cons P z (encode_lower rest) (glyph_word (b % 16) z low (digit_is (b % 16) low))
    (encoded_words rest (All-tail IsByte b rest h)))

pub string_word : (bytes : List ℕ) → AreBytes bytes → IsWord (120 ∷ encode_lower bytes)
string_word bytes h = All-cons (λ b. (32 < b) × (b ≢ 58)) 120 (encode_lower bytes)
    (omega arith, λ e. omega (arith, e)) (encoded_words bytes h)

encoded_lower : (bytes : List ℕ) → AreBytes bytes → list_any is_upper (encode_lower bytes) ≡ false
unfolding encode_with
encoded_lower [] h = refl
encoded_lower (b ∷ rest) h =
    let fits = All-head IsByte b rest h in
    let high : b / 16 < 16 = omega (arith, fits) in
    let low : b % 16 < 16 = omega arith in
    let a = slice_index lower_digits (b / 16) in
    let z = slice_index lower_digits (b % 16) in
    let tail = encode_lower rest in
    or_from (is_upper a) (is_upper z || list_any is_upper tail)
    (glyph_lower (b / 16) a high (digit_is (b / 16) high))
    (or_from (is_upper z) (list_any is_upper tail)
    (glyph_lower (b % 16) z low (digit_is (b % 16) low))
    (encoded_lower rest (All-tail IsByte b rest h)))

pub string_injective : (a b : List ℕ) → AreBytes a → AreBytes b → encode_lower a ≡ encode_lower b
    → a ≡ b
string_injective a b ha hb e =
    decode_of-same (encode_lower a) a b (decode_of-encode_lower a (is_bytes a ha))
    (ap decode_of e ∙ decode_of-encode_lower b (is_bytes b hb))

bytes_cons : (b : ℕ) (rest : List ℕ) → b < 256 → IsBytes rest → IsBytes (b ∷ rest)
bytes_cons b rest h hs zero = h
bytes_cons b rest h hs (suc i) = hs i

-- lower-case digits in pairs spell bytes
spelled : (s : List ℕ) → length s % 2 ≡ 0 → AllPass is_hex_digit s → list_any is_upper s ≡ false
    → (bytes : List ℕ) × (s ≡ encode_lower bytes) × IsBytes bytes
unfolding encode_with
spelled [] even digits lower = ([], refl, λ k. omega arith)
spelled (a ∷ []) even digits lower = absurd (omega arith)
spelled (a ∷ b ∷ rest) even digits lower =
    let P = λ (c : ℕ). is_hex_digit c ≡ true in
    let tail = All-tail P a (b ∷ rest) digits in
    let l1 = or_parts (is_upper a) (is_upper b || list_any is_upper rest) lower in
    let l2 = or_parts (is_upper b) (list_any is_upper rest) l1.1 in
    let x = digit_back a (All-head P a (b ∷ rest) digits) l1.0 in
    let y = digit_back b (All-head P b rest tail) l2.0 in
    let ih = spelled rest (omega arith) (All-tail P b rest tail) l2.1 in
    let high : (x.0 * 16 + y.0) / 16 ≡ x.0 = omega (arith, x.1, y.1) in
    let low : (x.0 * 16 + y.0) % 16 ≡ y.0 = omega (arith, x.1, y.1) in
    let fits : x.0 * 16 + y.0 < 256 = omega (arith, x.1, y.1) in
    let head : a ≡ slice_index lower_digits ((x.0 * 16 + y.0) / 16) =
    sym (ap (slice_index lower_digits) high ∙ x.2) in
    let next : b ≡ slice_index lower_digits ((x.0 * 16 + y.0) % 16) =
    sym (ap (slice_index lower_digits) low ∙ y.2) in
    let rest_is = ih.1 in (
      (x.0 * 16 + y.0) ∷ ih.0,
      ap (λ h. h ∷ b ∷ rest) head ∙ ap (λ h. slice_index lower_digits ((x.0 * 16 + y.0) / 16) ∷ h
          ∷ rest) next
          ∙ ap (λ t. slice_index lower_digits ((x.0 * 16 + y.0) / 16)
          ∷ slice_index lower_digits ((x.0 * 16 + y.0) % 16) ∷ t) rest_is,
      bytes_cons (x.0 * 16 + y.0) ih.0 fits ih.2,
    )

first_and_rest : (text : List ℕ) (c : ℕ) → 0 < length text → get_or text 0 0 ≡ c
    → text ≡ c ∷ drop 1 text
first_and_rest [] c some first = absurd (omega arith)
first_and_rest (x ∷ xs) c some first = ap (λ h. h ∷ xs) first

-- the bytes that were read
pub string_read : (text bytes : List ℕ) (most : ℕ) → 0 < length text → get_or text 0 0 ≡ 120
    → length (drop 1 text) / 2 ≤ most
    → list_any is_upper (drop 1 text) ≡ false → decode_of (drop 1 text) ≡ Ok bytes
    → IsByteString text most bytes
string_read text bytes most some first short lower decoded =
    let ok = decode_of-ok (drop 1 text) bytes decoded in
    let s = spelled (drop 1 text) ok.0 ok.1 lower in
    let same = decode_of-same (drop 1 text) s.0 bytes
    (ap decode_of s.1 ∙ decode_of-encode_lower s.0 s.2) decoded in
    record {
      spelled = first_and_rest text 120 some first ∙ ap (λ t. 120 ∷ t) (s.1 ∙ ap encode_lower same);
      short = omega (arith, ok.2);
      are_bytes = are_bytes bytes ok.3;
    }

-- what follows the `x` of a byte string
rest_is : (text bytes : List ℕ) (most : ℕ) → IsByteString text most bytes
    → drop 1 text ≡ encode_lower bytes
rest_is text bytes most is = ap (drop 1) is.spelled

pub not_decoded : (text : List ℕ) (most : ℕ) (e : FromHexError) → decode_of (drop 1 text) ≡ Err e
    → (bytes : List ℕ) → ¬ IsByteString text most bytes
not_decoded text most e refused bytes is =
    let back = ap decode_of (rest_is text bytes most is)
    ∙ decode_of-encode_lower bytes (is_bytes bytes is.are_bytes) in
    let clash : ◌≡◌ {A = Result (List ℕ) FromHexError} (Err e) (Ok bytes) = sym refused ∙ back in
    cc

pub too_many : (text : List ℕ) (most : ℕ) → most < length (drop 1 text) / 2 → (bytes : List ℕ)
    → ¬ IsByteString text most bytes
too_many text most long bytes is =
    let len = ap length (rest_is text bytes most is) ∙ length-encode_with lower_digits bytes in
    let short = is.short in
    omega (arith, len, short)

pub upper_case : (text : List ℕ) (most : ℕ) → list_any is_upper (drop 1 text) ≡ true
    → (bytes : List ℕ) → ¬ IsByteString text most bytes
upper_case text most upper bytes is =
    let lower = encoded_lower bytes is.are_bytes in
    let clash : true ≡ false = sym upper ∙ ap (list_any is_upper) (rest_is text bytes most is)
    ∙ lower in
    cc
