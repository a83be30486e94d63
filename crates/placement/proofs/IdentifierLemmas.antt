-- The identifier in a key is what stands behind its last slash.
use Rattle.std.proofs.Common.{zero, suc, ◌≡◌, ℕ, ◌+◌, ◌<◌, ◌≤◌, Bool, List, [], ◌∷◌, ◌++◌, length, take, drop, true, false, cond, refl, sym, ap, ◌∙◌, arith, subst, append_assoc, append-nil}
use Rattle.std.specs.Prelude.{◌==◌, fold, slice_index}
use Rattle.std.proofs.lemmas.Bool.Decides.{nat_tests}
use Rattle.memchr.specs.Find.{Nowhere, Passes, is_byte, NoneAfter}
use Rattle.placement.specs.Placement.{identifier_of}

-- the identifier in bytes that follow others, whose part this is
abbrev pub identifier_behind : List ℕ → List ℕ → List ℕ
identifier_behind part key = fold (λ part byte. cond (byte == 47) [] (part ++ byte ∷ [])) part key

-- no slash stands in the bytes
abbrev pub NoSlash : List ℕ → Type 0
NoSlash key = (k : ℕ) → 0 ≤ k → k < length key → ¬ Passes (is_byte 47) key k

not_so : (b : Bool) → (b ≡ true → ⊥) → b ≡ false
not_so true not = absurd (not refl)
not_so false not = refl

pub identifier_whole : (part key : List ℕ) → NoSlash key → identifier_behind part key ≡ part ++ key
identifier_whole part [] none = sym (append-nil part)
identifier_whole part (byte ∷ key) none =
    ap (λ b. identifier_behind (cond b [] (part ++ byte ∷ [])) key)
    (not_so (byte == 47) (λ is. none 0 (omega arith) (omega arith) is))
    ∙ identifier_whole (part ++ byte ∷ []) key
    (λ k low high passes. none (suc k) (omega arith) (omega arith) passes)
    ∙ append_assoc part (byte ∷ []) key

pub identifier_last : (part key : List ℕ) (place : ℕ) → place < length key
    → Passes (is_byte 47) key place
    → Nowhere (Passes (is_byte 47) key) (place + 1) (length key)
    → identifier_behind part key ≡ drop (place + 1) key
identifier_last part [] place inside is none = absurd (omega arith)
identifier_last part (byte ∷ key) zero inside is none =
    ap (λ b. identifier_behind (cond b [] (part ++ byte ∷ [])) key) is
    ∙ identifier_whole [] key (λ k low high passes. none (suc k) (omega arith) (omega arith) passes)
identifier_last part (byte ∷ key) (suc place) inside is none =
    let count : suc (place + 1) ≡ suc place + 1 = omega arith in
    identifier_last (cond (byte == 47) [] (part ++ byte ∷ [])) key place (omega arith) is
    (λ k low high passes. none (suc k) (omega arith) (omega arith) passes)
    ∙ ap (λ (n : ℕ). drop n (byte ∷ key)) count
