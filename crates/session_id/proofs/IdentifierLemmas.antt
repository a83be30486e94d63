-- The identifiers and their texts are in one-to-one correspondence.
use Rattle.std.proofs.Common.{◌≡◌, ℕ, ◌*◌, ◌/◌, ◌%◌, ◌^◌, ◌<◌, ◌≤◌, ◌==◌, ◌&&◌, true, false, List, [], ◌∷◌, length, map, All, refl, sym, ap, ◌∙◌, arith, nat_lt, subst, get_or, inl, inr, take, drop, ◌↔◌, Contains, IsTrue}
use Rattle.std.proofs.lemmas.List.{take-map, drop-map}
use Rattle.std.proofs.lemmas.Bool.Decides.{eqb_tells}
use Rattle.std.proofs.lemmas.List.Folds.{list_all_at}
use Rattle.std.proofs.Math.Nat.{pow-zero, div-one, mod-eq_of_lt}
use Rattle.std.proofs.lemmas.Bool.{and_parts, eqb-true, eq-eqb, ltb-true, lt-ltb, le-ltb}
use Rattle.std.proofs.Math.Bool.{and-false}
use Rattle.std.proofs.lemmas.List.{length-map}
use Rattle.std.proofs.lemmas.List.FromFn.{length-map-range_with_len}
use Rattle.std.proofs.lemmas.List.Elements.{All-from_get_or, All-head, All-tail, All-map, All-weaker}
use Rattle.std.proofs.lemmas.List.Sums.{AllPass-from_list_all, list_all-from_AllPass}
use Rattle.session_id.specs.Identifiers.{alphabet, number, digits, digit_of, character_of, group, is_text, text_of, IsId, IsTextOf}
use Rattle.session_id.proofs.AlphabetLemmas.{Contains-alphabet, digit_of-Contains, digit_of-character_of, character_of-digit_of}
use Rattle.session_id.proofs.NumberLemmas.{number-lt, same_from_number, number-digits_from, number-part, same_place, All-digits_from}

pub length-digits : (b count n : ℕ) → length (digits b count n) ≡ count
unfolding digits
length-digits b count n = length-map-range_with_len (λ k. n / b ^ k % b) 0 count

pub All-digits : (b count n : ℕ) → 0 < b → All (λ d. d < b) (digits b count n)
unfolding digits
All-digits b count n some = All-digits_from b n some 0 count

-- enough digits of a number write it
pub number-digits : (b count n : ℕ) → 0 < b → n < b ^ count → number b (digits b count n) ≡ n
unfolding digits
number-digits b count n some lt =
    let whole = number-digits_from b n some 0 count in
    let e : n / b ^ 0 ≡ n = rw pow-zero (div-one n) in
    whole ∙ rw e (mod-eq_of_lt lt)

pub IsId-digits : (n : ℕ) → IsId (digits 256 15 n)
IsId-digits n = record {
  length = length-digits 256 15 n;
  range =
      All-digits 256 15 n (omega arith);
}

-- ---- texts

pub length-text : (text : List ℕ) → is_text text ≡ true → length text ≡ 24
unfolding is_text
length-text text h = eqb-true (length text) 24 (and_parts _ _ h).0

All-digit_of_text : (text : List ℕ) → is_text text ≡ true → All (λ c. digit_of c < 32) text
unfolding is_text
All-digit_of_text text h =
    let all = AllPass-from_list_all (λ c. nat_lt (digit_of c) 32) text (and_parts _ _ h).1 in
    λ k d lt. ltb-true _ _ (all k d lt)

pub All-digit_of : (text : List ℕ) → is_text text ≡ true → All (λ d. d < 32) (map digit_of text)
All-digit_of text h = All-map (λ d. d < 32) digit_of text (All-digit_of_text text h)

map-digit_of-character_of : (ds : List ℕ) → All (λ d. d < 32) ds
    → map digit_of (map character_of ds) ≡ ds
map-digit_of-character_of [] h = refl
map-digit_of-character_of (d ∷ ds) h =
    let head = digit_of-character_of d (All-head (λ n. n < 32) d ds h) in
    let rest = map-digit_of-character_of ds (All-tail (λ n. n < 32) d ds h) in
    cc (head, rest)

map-character_of-digit_of : (text : List ℕ) → All (λ d. d < 32) (map digit_of text)
    → map character_of (map digit_of text) ≡ text
map-character_of-digit_of [] h = refl
map-character_of-digit_of (c ∷ text) h =
    let head = character_of-digit_of c (All-head (λ n. n < 32) (digit_of c) (map digit_of text)
    h) in
    let rest = map-character_of-digit_of text
    (All-tail (λ n. n < 32) (digit_of c) (map digit_of text) h) in
    cc (head, rest)

is_text-map : (ds : List ℕ) → length ds ≡ 24 → All (λ d. d < 32) ds
    → is_text (map character_of ds) ≡ true
unfolding is_text
is_text-map ds size below =
    let long = eq-eqb (length (map character_of ds)) 24 (length-map ds character_of ∙ size) in
    let each : (d : ℕ) → d < 32 → nat_lt (digit_of (character_of d)) 32 ≡ true =
    λ d lt. lt-ltb _ _ (rw (digit_of-character_of d lt) lt) in
    let all = list_all-from_AllPass (λ c. nat_lt (digit_of c) 32) (map character_of ds)
    (All-map (λ c. nat_lt (digit_of c) 32 ≡ true) character_of ds
    (All-weaker (λ d. d < 32) (λ d. nat_lt (digit_of (character_of d)) 32 ≡ true) each ds below)) in
    rw (long, all) refl

-- ---- identifiers

number_of_id-lt : (bytes : List ℕ) → IsId bytes → number 256 bytes < 256 ^ 15
number_of_id-lt bytes h = rw h.length at (number-lt 256 bytes h.range)

number_of_text-lt : (text : List ℕ) → is_text text ≡ true → number 32 (map digit_of text) < 32 ^ 24
number_of_text-lt text h =
    rw (length-map text digit_of ∙ length-text text h) at
    (number-lt 32 (map digit_of text) (All-digit_of text h))

-- each text is that of the bytes of its number
pub IsTextOf-digits : (text : List ℕ) → is_text text ≡ true
    → IsTextOf (digits 256 15 (number 32 (map digit_of text))) text
IsTextOf-digits text h =
    let n = number 32 (map digit_of text) in
    record {
      of_id = IsId-digits n;
      in_alphabet = h;
      same_number = sym (number-digits 256 15 n (omega arith) (number_of_text-lt text h));
    }

-- each identifier has its text
pub IsTextOf-text_of : (bytes : List ℕ) → IsId bytes → IsTextOf bytes (text_of bytes)
unfolding text_of
IsTextOf-text_of bytes h =
    let n = number 256 bytes in
    let ds = digits 32 24 n in
    let below : All (λ d. d < 32) ds = All-digits 32 24 n (omega arith) in
    record {
      of_id = h;
      in_alphabet = is_text-map ds (length-digits 32 24 n) below;
      same_number = rw (map-digit_of-character_of ds below)
          (number-digits 32 24 n (omega arith) (number_of_id-lt bytes h));
    }

-- an identifier has no other text
pub same_text : (bytes text : List ℕ) → IsTextOf bytes text → text ≡ text_of bytes
unfolding text_of
same_text bytes text h =
    let n = number 256 bytes in
    let below = All-digit_of text h.in_alphabet in
    let size = length-map text digit_of ∙ length-text text h.in_alphabet
    ∙ sym (length-digits 32 24 n) in
    let value = h.same_number ∙ sym (number-digits 32 24 n (omega arith)
    (number_of_id-lt bytes h.of_id)) in
    let same = same_from_number 32 (map digit_of text) (digits 32 24 n) below
    (All-digits 32 24 n (omega arith)) size value in
    sym (map-character_of-digit_of text below) ∙ ap (map character_of) same

-- a text is that of no other identifier
pub same_id : (a b text : List ℕ) → IsTextOf a text → IsTextOf b text → a ≡ b
same_id a b text ha hb =
    same_from_number 256 a b ha.of_id.range hb.of_id.range (ha.of_id.length ∙ sym hb.of_id.length)
    (sym ha.same_number ∙ hb.same_number)

-- two identifiers with one text are equal
pub same_id_from_text_of : (a b : List ℕ) → IsId a → IsId b → text_of a ≡ text_of b → a ≡ b
same_id_from_text_of a b ha hb e =
    same_id a b (text_of b) (subst (IsTextOf a) e (IsTextOf-text_of a ha)) (IsTextOf-text_of b hb)

-- ---- the test of a text

pub is_text-wrong_length : (text : List ℕ) → (length text ≡ 24 → ⊥) → is_text text ≡ false
unfolding is_text
is_text-wrong_length text h =
    elim (eqb_tells (length text) 24) [
      | inl (same, is) ↦ absurd (h is)
      | inr (other, isnt) ↦ rw other refl
    ]

not_below : (m n : ℕ) → (m < n → ⊥) → n ≤ m
not_below m n h = omega (arith, h)

pub is_text-outside : (text : List ℕ) (i : ℕ) → i < length text
    → (digit_of (get_or text i 0) < 32 → ⊥) → is_text text ≡ false
unfolding is_text
is_text-outside text i lt out =
    let fails : nat_lt (digit_of (get_or text i 0)) 32 ≡ false =
    le-ltb _ _ (not_below (digit_of (get_or text i 0)) 32 out) in
    let not_all = list_all_at (λ c. nat_lt (digit_of c) 32) text i 0 lt fails in
    ap (λ all. (length text == 24) && all) not_all ∙ and-false (length text == 24)

pub is_text-from_each : (text : List ℕ) → length text ≡ 24
    → ((k : ℕ) → k < 24 → digit_of (get_or text k 0) < 32) → is_text text ≡ true
unfolding is_text
is_text-from_each text size each =
    let long = eq-eqb (length text) 24 size in
    let below = All-from_get_or (λ c. nat_lt (digit_of c) 32 ≡ true) text 0
    (λ k lt. lt-ltb _ _ (each k (omega arith))) in
    let all = list_all-from_AllPass (λ c. nat_lt (digit_of c) 32) text below in
    rw (long, all) refl

-- ---- the answers of `read`

-- where it reads an identifier
pub exact-some : (id text other : List ℕ) → IsTextOf id text → IsId other
    → (id ≡ other → text_of other ≡ text) × (text_of other ≡ text → id ≡ other)
exact-some id text other h ok = (
  λ e. ap text_of (sym e) ∙ sym (same_text id text h),
  λ e. same_id id other text h (subst (IsTextOf other) e (IsTextOf-text_of other ok)),
)

-- where it reads none
pub exact-none : (text other : List ℕ) → false ≡ is_text text → IsId other → text_of other ≡ text
    → ⊥
exact-none text other h ok e =
    let is = (IsTextOf-text_of other ok).in_alphabet in
    let there : is_text text ≡ true = subst (λ (t : List ℕ). is_text t ≡ true) e is in
    cc (h, there)

-- ---- the laws

-- a text is 24 characters of the alphabet
pub is_text-characters : (text : List ℕ) → IsTrue (is_text text)
    ↔ ((length text ≡ 24) × All (Contains alphabet) text)
is_text-characters text = (
  λ h. (
    length-text text h,
    λ k d lt. Contains-alphabet (get_or text k d) (All-digit_of_text text h k d lt),
  ),
  λ h. is_text-from_each text h.0 (λ k lt. digit_of-Contains (get_or text k 0)
      (h.1 k 0 (omega (arith, h.0)))),
)

-- each group of five bytes stands in a group of eight characters
pub same_group : (id text : List ℕ) → IsTextOf id text → (k : ℕ) → k < 3
    → number 32 (map digit_of (group 8 k text)) ≡ number 256 (group 5 k id)
same_group id text h k lt =
    let ds = map digit_of text in
    let size : length ds ≡ 24 = length-map text digit_of ∙ length-text text h.in_alphabet in
    let of_text = number-part 32 ds (8 * k) 8 (All-digit_of text h.in_alphabet) (omega arith)
    (omega (arith, size)) in
    let of_id = number-part 256 id (5 * k) 5 h.of_id.range (omega arith)
    (omega (arith, h.of_id.length)) in
    let mapped : map digit_of (group 8 k text) ≡ take 8 (drop (8 * k) ds) =
    sym (take-map digit_of 8 (drop (8 * k) text))
    ∙ ap (take 8) (sym (drop-map digit_of (8 * k) text)) in
    let same : number 32 ds / 32 ^ (8 * k) % 32 ^ 8 ≡ number 256 id / 256 ^ (5 * k) % 256 ^ 5 =
    ap (λ n. n / 32 ^ (8 * k) % 32 ^ 8) h.same_number
    ∙ ap (λ p. number 256 id / p % 32 ^ 8) (same_place k lt) in
    ap (number 32) mapped ∙ of_text ∙ same ∙ sym of_id
