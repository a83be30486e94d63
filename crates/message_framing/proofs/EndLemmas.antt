-- Where a head ends, over the parts of its bytes.
use Rattle.std.proofs.Common.{◌≡◌, ℕ, ◌+◌, ◌-◌, ◌<◌, ◌≤◌, List, [], ◌∷◌, ◌++◌, length, take, Option, Some, None, refl, sym, ap, ◌∙◌, arith, append_assoc, length-append}
use Rattle.std.proofs.lemmas.List.{take_at}
use Rattle.std.proofs.Math.Nat.{lt_of_not-le}
use Rattle.std.proofs.Math.Seq.{take-append-add}
use Rattle.asp_messages.proofs.FramingLemmas.{split_alike}
use Rattle.message_framing.specs.declared.head.Phase.{Phase}
use Rattle.message_framing.specs.declared.head.Phase.TheVariants.{Blank}
use Rattle.message_framing.specs.HeadEnd.{after, phase_after, EndsHead}

-- ---- bytes in two parts

pub phase_after-more : (p q : Phase) (xs ys : List ℕ) → phase_after p xs ≡ Some q
    → phase_after p (xs ++ ys) ≡ phase_after q ys
phase_after-more p q [] ys e = let same : p ≡ q = cc in ap (λ r. phase_after r ys) same
phase_after-more p q (x ∷ xs) ys e =
    elim (after p x) as (λ o. (elim o as (λ _. Option Phase)
    [ None ↦ None | Some n ↦ phase_after n xs ])
    ≡ Some q → (elim o as (λ _. Option Phase) [ None ↦ None | Some n ↦ phase_after n (xs ++ ys) ])
    ≡ phase_after q ys) [
      | None ↦ λ h. cc
      | Some n ↦ λ h. phase_after-more n q xs ys h
    ] e

pub phase_after-ended : (p : Phase) (xs ys : List ℕ) → phase_after p xs ≡ None
    → phase_after p (xs ++ ys) ≡ None
phase_after-ended p [] ys e = cc
phase_after-ended p (x ∷ xs) ys e =
    elim (after p x) as (λ o. (elim o as (λ _. Option Phase)
    [ None ↦ None | Some n ↦ phase_after n xs ])
    ≡ None → (elim o as (λ _. Option Phase) [ None ↦ None | Some n ↦ phase_after n (xs ++ ys) ])
    ≡ None) [
      | None ↦ λ h. refl
      | Some n ↦ λ h. phase_after-ended n xs ys h
    ] e

-- one byte after those that were seen
pub phase_after-one : (p q : Phase) (xs : List ℕ) (b : ℕ) → phase_after p xs ≡ Some q
    → phase_after p (xs ++ b ∷ []) ≡ after q b
phase_after-one p q xs b e = phase_after-more p q xs (b ∷ []) e ∙ one (after q b)
  where
    one : (o : Option Phase) → (elim o as (λ _. Option Phase) [ None ↦ None | Some n ↦ Some n ]) ≡ o
    one None = refl
    one (Some n) = refl

-- a head's end was seen in its bytes
pub ended : (text : List ℕ) → EndsHead text → phase_after Blank text ≡ None
ended text e = ap (phase_after Blank) e.bytes_are
    ∙ phase_after-one Blank e.phase e.front e.last e.open_before
    ∙ e.ends

-- ---- one end

-- bytes in which no head ends begin with none
pub none-seen : (bytes text back : List ℕ) (p : Phase) → phase_after Blank bytes ≡ Some p
    → EndsHead text → bytes ≡ text ++ back → ⊥
none-seen bytes text back p so e is =
    let none : phase_after Blank bytes ≡ None = ap (phase_after Blank) is
    ∙ phase_after-ended Blank text back (ended text e) in
    let clash : ◌≡◌ {A = Option Phase} None (Some p) = sym none ∙ so in
    cc

-- a head that ends behind the first n of the bytes, in which none does
pub long-seen : (bytes text back : List ℕ) (n : ℕ) (p : Phase)
    → phase_after Blank (take n bytes) ≡ Some p → EndsHead text
    → bytes ≡ text ++ back → n < length text
long-seen bytes text back n p so e is = lt_of_not-le (λ (short : length text ≤ n).
    let m = n - length text in
    let front : take n bytes ≡ text ++ take m back =
    ap (take n) is ∙ ap (λ k. take k (text ++ back))
    (let sum : n ≡ length text + m = omega arith in sum) ∙ take-append-add text back m in
    none-seen (take n bytes) text (take m back) p so e front)

-- of two heads at the front of the same bytes neither is longer
not-longer : (text text' back back' : List ℕ) → EndsHead text → EndsHead text'
    → text ++ back ≡ text' ++ back' → length text < length text' → ⊥
not-longer text text' back back' e e' is short =
    let front = e'.front in
    let parts : length text' ≡ length front + 1 = ap length e'.bytes_are
    ∙ length-append front (e'.last ∷ []) in
    let m = length front - length text in
    let sum : length front ≡ length text + m = omega arith in
    let same : text ++ back ≡ front ++ (e'.last ∷ [] ++ back') = is
    ∙ ap (λ t. t ++ back') e'.bytes_are ∙ append_assoc front (e'.last ∷ []) back' in
    let begins : front ≡ text ++ take m back =
    sym (take_at front (e'.last ∷ [] ++ back') (length front) refl)
    ∙ ap (take (length front)) (sym same)
    ∙ ap (λ k. take k (text ++ back)) sum ∙ take-append-add text back m in
    none-seen front text (take m back) e'.phase e'.open_before e begins

-- two heads at the front of the same bytes are one
pub ends-same : (text text' back back' : List ℕ) → EndsHead text → EndsHead text'
    → text ++ back ≡ text' ++ back' → (text ≡ text') × (back ≡ back')
ends-same text text' back back' e e' is =
    let low : length text' < length text + 1 =
    lt_of_not-le (λ (le : length text + 1 ≤ length text'). not-longer text text' back back' e e'
    is (omega arith)) in
    let high : length text < length text' + 1 =
    lt_of_not-le (λ (le : length text' + 1 ≤ length text). not-longer text' text back' back e' e
    (sym is) (omega arith)) in
    let len : length text ≡ length text' = omega arith in
    split_alike text back text' back' len is
