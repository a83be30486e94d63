-- Where a byte stands in what is held, by a search of a part of it.
use Rattle.std.proofs.Common.{◌≡◌, ℕ, ◌+◌, ◌-◌, ◌<◌, ◌≤◌, List, length, take, drop, slice_index, sym, ap, ◌∙◌, arith, length-take, length-drop, eq-eqb}
use Rattle.std.proofs.lemmas.Bool.{eqb-true}
use Rattle.std.proofs.lemmas.List.{get_or-take, get_or-drop}
use Rattle.memchr.specs.Find.{Passes, is_byte, Nowhere, NoneBefore}
use Rattle.asp_base.specs.Places.{HasNone, IsFirstPlace}

module _ (xs held hay : List ℕ) (s i j byte : ℕ) (held_is : drop s xs ≡ held)
    (hay_is : hay ≡ take (s + j - (s + i)) (drop (s + i) xs)) (low : i ≤ j)
    (high : j ≤ length held)
  where
    -- the part has as many bytes as were asked for
    part_length : length hay ≡ j - i
    part_length =
        let l = ap length hay_is ∙ length-take (s + j - (s + i)) (drop (s + i) xs) in
        let m = length-drop (s + i) xs in
        let n = sym (ap length held_is) ∙ length-drop s xs in
        omega (arith, l, m, n)

    -- a byte of the part is one of those held
    part_at : (k : ℕ) → k < j - i → slice_index hay k ≡ slice_index held (i + k)
    part_at k below =
        let within : k < s + j - (s + i) = omega arith in
        let place : s + i + k ≡ s + (i + k) = omega arith in
        ap (λ l. slice_index l k) hay_is
        ∙ get_or-take (s + j - (s + i)) (drop (s + i) xs) k 0 within
        ∙ get_or-drop (s + i) xs k 0 ∙ ap (slice_index xs) place
        ∙ sym (get_or-drop s xs (i + k) 0) ∙ ap (λ l. slice_index l (i + k)) held_is

    -- none before this place of the part
    pub has_none : (n : ℕ) → n ≤ j - i → Nowhere (Passes (is_byte byte) hay) 0 n
        → HasNone byte held i (i + n)
    has_none n le none k from before is =
        let place : i + (k - i) ≡ k = omega arith in
        let at : slice_index hay (k - i) ≡ byte = part_at (k - i) (omega arith)
        ∙ ap (slice_index held) place ∙ is in
        none (k - i) (omega arith) (omega arith) (eq-eqb (slice_index hay (k - i)) byte at)

    -- none in the whole part
    pub has_none_at_all : Nowhere (Passes (is_byte byte) hay) 0 (length hay)
        → HasNone byte held i j
    has_none_at_all none k from before =
        has_none (j - i) (omega arith)
        (λ m least most. none m least (omega (arith, part_length))) k from (omega arith)

    -- the first in the part
    pub is_first : (n : ℕ) → NoneBefore (Passes (is_byte byte) hay) 0 (length hay) n
        → Passes (is_byte byte) hay n → IsFirstPlace byte held i j (i + n)
    is_first n before passes =
        let below : n < j - i = omega (arith, before.high, part_length) in
        record {
          from = omega arith;
          before = omega arith;
          at = sym (part_at n below) ∙ eqb-true (slice_index hay n) byte passes;
          first = has_none n (omega arith) before.before;
        }
