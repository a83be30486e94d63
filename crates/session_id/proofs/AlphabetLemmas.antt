-- Facts on the alphabet.
use Rattle.std.proofs.Common.{◌≡◌, ℕ, zero, suc, ◌+◌, ◌-◌, ◌<◌, ◌≤◌, ◌==◌, Bool, true, false, ◌&&◌, ◌||◌, one-add, inl, inr, List, [], ◌∷◌, length, get_or, refl, sym, ap, ◌∙◌, arith, nat_eq, nat_le, subst, Contains}
use Rattle.std.proofs.lemmas.List.Elements.{Contains-get_or, at_from_Contains}
use Rattle.std.specs.List.{position_or_len}
use Rattle.std.proofs.lemmas.Bool.{and_parts, cases_lt, eqb-true}
use Rattle.std.proofs.lemmas.Bool.Decides.{eqb_tells}
use Rattle.session_id.specs.Identifiers.{alphabet, character_of, digit_of}

-- the test passes below n
abbrev pub passes_below : (ℕ → Bool) → ℕ → Bool
passes_below p zero = true
passes_below p (suc n) = p n && passes_below p n

passes_below-at : (p : ℕ → Bool) (n k : ℕ) → passes_below p n ≡ true → k < n → p k ≡ true
passes_below-at p zero k h lt = absurd (omega arith)
passes_below-at p (suc n) k h lt =
    let parts = and_parts (p n) (passes_below p n) h in
    elim (cases_lt k n) [
      | inl below ↦ passes_below-at p n k parts.1 below
      | inr top ↦
          let e : k ≡ n = omega arith in
          rw e parts.0
    ]

-- the place of each character is its digit
pub digit_of-character_of : (d : ℕ) → d < 32 → digit_of (character_of d) ≡ d
unfolding digit_of
digit_of-character_of d lt =
    eqb-true (digit_of (character_of d)) d (passes_below-at (λ k. digit_of (character_of k) == k) 32
    d refl lt)

pub digit_of-letter : (c : ℕ) → 97 ≤ c → c ≤ 122 → digit_of c ≡ c - 97
unfolding digit_of
digit_of-letter c low high =
    let k : c - 97 < 26 = omega arith in
    let e : 97 + (c - 97) ≡ c = omega arith in
    let there = eqb-true (digit_of (97 + (c - 97))) (c - 97)
    (passes_below-at (λ k. digit_of (97 + k) == k) 26 (c - 97) refl k) in
    rw e at there

pub digit_of-figure : (c : ℕ) → 48 ≤ c → c ≤ 53 → digit_of c ≡ c - 22
unfolding digit_of
digit_of-figure c low high =
    let k : c - 48 < 6 = omega arith in
    let e : 48 + (c - 48) ≡ c = omega arith in
    let there = eqb-true (digit_of (48 + (c - 48))) (26 + (c - 48))
    (passes_below-at (λ k. digit_of (48 + k) == 26 + k) 6 (c - 48) refl k) in
    let at_c = rw e at there in
    omega (arith, at_c)

-- the element at the place of c in a list is c
get_or-position : (c : ℕ) (xs : List ℕ) → position_or_len (nat_eq c) xs < length xs
    → get_or xs (position_or_len (nat_eq c) xs) 0 ≡ c
get_or-position c [] lt = absurd (omega arith)
get_or-position c (x ∷ xs) lt =
    elim (eqb_tells c x) [
      | inl (same, is) ↦ rw same (sym is)
      | inr (other, isnt) ↦
          let below : 1 + position_or_len (nat_eq c) xs < suc (length xs) = rw other at lt in
          rw other (rw one-add (get_or-position c xs (omega (arith, below))))
    ]

pub character_of-digit_of : (c : ℕ) → digit_of c < 32 → character_of (digit_of c) ≡ c
unfolding digit_of
character_of-digit_of c lt = get_or-position c alphabet lt

-- the ranges of the alphabet
abbrev pub in_ranges : ℕ → Bool
in_ranges c = (nat_le 97 c && nat_le c 122) || (nat_le 48 c && nat_le c 53)

-- a character of the alphabet is in one of its two ranges
pub in_ranges-digit_of : (c : ℕ) → digit_of c < 32 → in_ranges c ≡ true
in_ranges-digit_of c lt =
    rw (character_of-digit_of c lt) at (passes_below-at (λ k. in_ranges (character_of k)) 32
    (digit_of c) refl lt)

-- and so is none outside them
pub digit_of-none : (c : ℕ) → in_ranges c ≡ false → digit_of c < 32 → ⊥
digit_of-none c out lt = let inside = in_ranges-digit_of c lt in cc (out, inside)

-- the characters with a digit are those of the alphabet
pub Contains-alphabet : (c : ℕ) → digit_of c < 32 → Contains alphabet c
Contains-alphabet c lt =
    let there = Contains-get_or alphabet (digit_of c) 0 lt in
    subst (Contains alphabet) (character_of-digit_of c lt) there

pub digit_of-Contains : (c : ℕ) → Contains alphabet c → digit_of c < 32
digit_of-Contains c there =
    let at = at_from_Contains alphabet c there in
    let is : character_of at.0 ≡ c = at.2 0 in
    let digit : digit_of c ≡ at.0 = ap digit_of (sym is) ∙ digit_of-character_of at.0 at.1 in
    omega (arith, digit, at.1)
