-- Where a line feed was sought, and where it was found.
use Rattle.std.proofs.Common.{◌≡◌, ◌≢◌, ℕ, ◌+◌, ◌-◌, ◌<◌, ◌≤◌, List, ◌∷◌, ◌++◌, length, take, drop, get_or, slice_index, refl, sym, ap, ◌∙◌, arith, subst, length-take, length-drop, take-append-drop, eq-eqb, inl, inr}
use Rattle.std.specs.List.{slice_range}
use Rattle.std.proofs.lemmas.Bool.{eqb-true, cases_lt}
use Rattle.std.proofs.lemmas.List.{get_or-take, get_or-drop, get_or_default, drop_more, take-append-le, take_rest}
use Rattle.memchr.specs.Find.{Passes, is_byte}
use Rattle.plain_words.specs.Words.{HasNo, SplitsAt}

range_at : (xs : List ℕ) (s j k d : ℕ) → k < j - s
    → get_or (slice_range xs s j) k d ≡ get_or xs (s + k) d
range_at xs s j k d h = get_or-take (j - s) (drop s xs) k d h ∙ get_or-drop s xs k d

no_from : (xs : List ℕ) (s j : ℕ) → ((k d : ℕ) → s ≤ k → k < j → k < length xs → get_or xs k d ≢ 10)
    → HasNo 10 (slice_range xs s j)
no_from xs s j f k d below e =
    let l = length-take (j - s) (drop s xs) in
    let m = length-drop s xs in
    let within : k < j - s = omega (arith, l, m) in
    f (s + k) d (omega arith) (omega (arith, within)) (omega (arith, l, m))
    (sym (range_at xs s j k d within) ∙ e)

no_at : (xs : List ℕ) (s j : ℕ) → HasNo 10 (slice_range xs s j) → (k d : ℕ) → s ≤ k → k < j
    → k < length xs → get_or xs k d ≢ 10
no_at xs s j h k d low high within e =
    let l = length-take (j - s) (drop s xs) in
    let m = length-drop s xs in
    let below : k - s < j - s = omega arith in
    let place : s + (k - s) ≡ k = omega arith in
    h (k - s) d (omega (arith, l, m)) (range_at xs s j (k - s) d below
    ∙ ap (λ i. get_or xs i d) place ∙ e)

module _ (xs : List ℕ) (s m : ℕ) (hay : List ℕ) (low : s ≤ m) (high : m ≤ length xs)
    (old : HasNo 10 (slice_range xs s m))
    (hay_is : hay ≡ drop m xs)
  where
    length_hay : length hay ≡ length xs - m
    length_hay = ap length hay_is ∙ length-drop m xs

    other_byte : (k d : ℕ) → (¬ Passes (is_byte 10) hay k) → m + k < length xs
        → get_or xs (m + k) d ≢ 10
    other_byte k d fails within e =
        let l = length_hay in
        let at : get_or hay k d ≡ 10 = ap (λ h. get_or h k d) hay_is ∙ get_or-drop m xs k d ∙ e in
        let zero_at : slice_index hay k ≡ 10 = get_or_default hay k 0 d (omega (arith, l)) ∙ at in
        fails (eq-eqb (slice_index hay k) 10 zero_at)

    -- no line feed below the place
    sought : (p : ℕ) → p ≤ length hay → ((k : ℕ) → 0 ≤ k → k < p → ¬ Passes (is_byte 10) hay k)
        → (k d : ℕ) → s ≤ k → k < m + p → k < length xs → get_or xs k d ≢ 10
    sought p le none k d from below within = elim (cases_lt k m) [
      | inl before ↦ no_at xs s m old k d from before within
      | inr behind ↦ λ e.
          let i : m + (k - m) ≡ k = omega arith in
          other_byte (k - m) d (none (k - m) (omega arith) (omega arith)) (omega arith)
          (ap (λ j. get_or xs j d) i ∙ e)
    ]

    pub sought_upto : (p : ℕ) → p ≤ length hay
        → ((k : ℕ) → 0 ≤ k → k < p → ¬ Passes (is_byte 10) hay k)
        → HasNo 10 (slice_range xs s (m + p))
    sought_upto p le none = no_from xs s (m + p) (sought p le none)

    pub sought_all : (n : ℕ) → n ≡ length xs →
        ((k : ℕ) → 0 ≤ k → k < length hay → ¬ Passes (is_byte 10) hay k)
        → HasNo 10 (slice_range xs s n)
    sought_all n whole none =
        let l = length_hay in
        let end : m + length hay ≡ n = omega (arith, l) in
        subst (λ j. HasNo 10 (slice_range xs s j)) end (sought_upto (length hay) (omega arith) none)

    pub none_held : ((k : ℕ) → 0 ≤ k → k < length hay → ¬ Passes (is_byte 10) hay k)
        → HasNo 10 (drop s xs)
    none_held none = subst (HasNo 10) (take_rest xs s) (sought_all (length xs) refl none)

    pub found : (p : ℕ) → p < length hay → ((k : ℕ) → 0 ≤ k → k < p → ¬ Passes (is_byte 10) hay k)
        → Passes (is_byte 10) hay p
        → (m + p - s < length (drop s xs)) × SplitsAt 10 (drop s xs) (take (m + p - s) (drop s xs))
        (drop (m + p - s + 1) (drop s xs))
    found p below none passes =
        let l = length_hay in
        let held = length-drop s xs in
        let n = m + p - s in
        let within : n < length (drop s xs) = omega (arith, l, held) in
        let place : s + n ≡ m + p = omega arith in
        let byte : get_or (drop s xs) n 0 ≡ 10 =
        get_or-drop s xs n 0 ∙ ap (λ i. get_or xs i 0) place ∙ sym (get_or-drop m xs p 0)
        ∙ ap (λ h. get_or h p 0) (sym hay_is) ∙ eqb-true (slice_index hay p) 10 passes in (
          within,
          record {
            joined = sym (take-append-drop n (drop s xs))
                ∙ ap (λ t. take n (drop s xs) ++ t)
                (drop_more (drop s xs) n 0 within ∙ ap (λ b. b ∷ drop (n + 1) (drop s xs)) byte);
            first = sought_upto p (omega arith) none;
          },
        )

-- what was sought stays so once what was taken is dropped and more is added
pub sought_compacted : (xs piece : List ℕ) (s m : ℕ) → s ≤ m → m ≤ length xs
    → HasNo 10 (slice_range xs s m) → HasNo 10 (slice_range (drop s xs ++ piece) 0 (m - s))
sought_compacted xs piece s m low high old =
    let l = length-drop s xs in
    let fits : m - s ≤ length (drop s xs) = omega (arith, l) in
    let z : m - s - 0 ≡ m - s = omega arith in
    subst (HasNo 10) (sym (ap (λ n. take n (drop s xs ++ piece)) z
    ∙ take-append-le (m - s) (drop s xs) piece fits)) old
