-- Streams of messages, of any kind.
use Rattle.std.proofs.Common.{◌≡◌, ℕ, List, [], ◌∷◌, ◌++◌, refl, sym, ap, ◌∙◌, append_assoc, subst}
use Rattle.asp_messages.specs.Stream.{Spelled, IsMessageStream}

-- a message that comes behind those read
pub Spelled-push : {M : Type 0} (Spells : List ℕ → M → Type 0) (bytes : List ℕ) (ms : List M)
    (front back : List ℕ) (m : M)
    → Spelled Spells bytes ms (front ++ back) → Spells front m
    → Spelled Spells bytes (ms ++ m ∷ []) back
Spelled-push Spells bytes [] front back m is spells = (front, back, is, spells, refl)
Spelled-push Spells bytes (k ∷ ms) front back m (first, rest, is, one, others) spells =
    (first, rest, is, one, Spelled-push Spells rest ms front back m others spells)

-- what comes behind the bytes comes behind the rest
pub Spelled-append : {M : Type 0} (Spells : List ℕ → M → Type 0) (bytes : List ℕ) (ms : List M)
    (rest more : List ℕ)
    → Spelled Spells bytes ms rest → Spelled Spells (bytes ++ more) ms (rest ++ more)
Spelled-append Spells bytes [] rest more is = ap (λ t. t ++ more) is
Spelled-append Spells bytes (k ∷ ms) rest more (front, back, is, one, others) = (
  front,
  back ++ more,
  ap (λ t. t ++ more) is
      ∙ append_assoc front back more,
  one,
  Spelled-append Spells back ms rest more others,
)

-- bytes begin with at most one message
abbrev pub IsUnique : {M : Type 0} → (List ℕ → M → Type 0) → Type 0
IsUnique {M} Spells =
    (bytes front back front' back' : List ℕ) (m m' : M)
    → bytes ≡ front ++ back → Spells front m → bytes ≡ front' ++ back' → Spells front' m'
    → (m ≡ m') × (back ≡ back')

-- where bytes begin with at most one message, they are one stream
pub IsMessageStream-unique : {M : Type 0} (Spells : List ℕ → M → Type 0) → IsUnique Spells
    → (bytes : List ℕ) (ms ns : List M) (rest rest' : List ℕ) → IsMessageStream Spells bytes ms rest
    → IsMessageStream Spells bytes ns rest' → (ms ≡ ns) × (rest ≡ rest')
IsMessageStream-unique {M} Spells unique bytes ms ns rest rest' one other =
    by_list bytes ms ns one.spelled other.spelled
  where
    by_list : (bytes : List ℕ) (ms ns : List M) → Spelled Spells bytes ms rest
        → Spelled Spells bytes ns rest' → (ms ≡ ns) × (rest ≡ rest')
    by_list bytes [] [] p q = (refl, sym p ∙ q)
    by_list bytes [] (n ∷ ns) p (front, back, parts, spells, others) =
        absurd (one.unfinished front back n (sym p ∙ parts) spells)
    by_list bytes (m ∷ ms) [] (front, back, parts, spells, others) q =
        absurd (other.unfinished front back m (sym q ∙ parts) spells)
    by_list bytes (m ∷ ms) (n ∷ ns) (front, back, parts, spells, others)
        (front', back', parts', spells', others') =
        let same = unique bytes front back front' back' m n parts spells parts' spells' in
        let tail = by_list back ms ns others (subst (λ b. Spelled Spells b ns rest') (sym same.1)
        others') in
        (ap (λ k. k ∷ ms) same.0 ∙ ap (λ t. n ∷ t) tail.0, tail.1)
