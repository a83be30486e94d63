-- What follows one call of a link after another.
use Rattle.std.proofs.Common.{◌≡◌, ℕ, zero, suc, ◌-◌, List, [], ◌∷◌, ◌++◌, length, take, Option, None, Some, refl, sym, ap, ◌∙◌, subst, arith, append_assoc, append-nil, length-append}
use Rattle.page_link.specs.Links.{LinkSends, SendsFront, Receives, Exchanges, KeepsPauses}
use Rattle.page_link.specs.Visits.{IsFront}

pub Receives-nil : (a : Option (List ℕ × List ℕ)) → Receives a a []
Receives-nil None = tt
Receives-nil (Some x) = (refl, refl)

pub Receives-trans : (a b c : Option (List ℕ × List ℕ)) (xs ys : List ℕ) → Receives a b xs
    → Receives b c ys → Receives a c (xs ++ ys)
Receives-trans None None None xs ys p q = tt
Receives-trans None None (Some z) xs ys p q = absurd q
Receives-trans None (Some y) c xs ys p q = absurd p
Receives-trans (Some x) None c xs ys p q = absurd p
Receives-trans (Some x) (Some y) None xs ys p q = absurd q
Receives-trans (Some x) (Some y) (Some z) xs ys p q =
    (q.0 ∙ p.0, p.1 ∙ ap (λ l. xs ++ l) q.1 ∙ sym (append_assoc xs ys z.1))

pub Exchanges-nil : (a : Option (List ℕ × List ℕ)) → Exchanges a a [] []
Exchanges-nil None = tt
Exchanges-nil (Some x) = (sym (append-nil x.0), refl)

pub Exchanges-trans : (a b c : Option (List ℕ × List ℕ)) (s t xs ys : List ℕ) → Exchanges a b s xs
    → Exchanges b c t ys → Exchanges a c (s ++ t) (xs ++ ys)
Exchanges-trans None None None s t xs ys p q = tt
Exchanges-trans None None (Some z) s t xs ys p q = absurd q
Exchanges-trans None (Some y) c s t xs ys p q = absurd p
Exchanges-trans (Some x) None c s t xs ys p q = absurd p
Exchanges-trans (Some x) (Some y) None s t xs ys p q = absurd q
Exchanges-trans (Some x) (Some y) (Some z) s t xs ys p q = (
  q.0 ∙ ap (λ l. l ++ t) p.0 ∙ append_assoc x.0 s t,
  p.1 ∙ ap (λ l. xs ++ l) q.1
      ∙ sym (append_assoc xs ys z.1),
)

-- a text is sent, and then bytes are received
pub Exchanges-of : (a b c : Option (List ℕ × List ℕ)) (s xs : List ℕ) → LinkSends a b s
    → Receives b c xs → Exchanges a c s xs
Exchanges-of None None None s xs p q = tt
Exchanges-of None None (Some z) s xs p q = absurd q
Exchanges-of None (Some y) c s xs p q = absurd p
Exchanges-of (Some x) None c s xs p q = absurd p
Exchanges-of (Some x) (Some y) None s xs p q = absurd q
Exchanges-of (Some x) (Some y) (Some z) s xs p q = (q.0 ∙ p.0, sym p.1 ∙ q.1)

pub Exchanges-sent : (a b : Option (List ℕ × List ℕ)) (s : List ℕ) → LinkSends a b s
    → Exchanges a b s []
Exchanges-sent a b s p = Exchanges-of a b b s [] p (Receives-nil b)

-- ---- pauses

abbrev no_moments : List ℕ
no_moments = []

take-none : (n : ℕ) → take n no_moments ≡ no_moments
take-none zero = refl
take-none (suc n) = refl

pub KeepsPauses-nil : (a : Option (List ℕ × ℕ)) → KeepsPauses a a []
KeepsPauses-nil None = tt
KeepsPauses-nil (Some x) =
    (sym (ap (λ l. x.0 ++ l) (take-none x.1) ∙ append-nil x.0), omega arith)

-- a link that kept its pauses as they were
pub KeepsPauses-same : (a b : Option (List ℕ × ℕ)) → b ≡ a → KeepsPauses a b []
KeepsPauses-same a b same = subst (λ l. KeepsPauses a l []) (sym same) (KeepsPauses-nil a)

-- what is kept of two lists, one after the other
take-both : (n : ℕ) (u v : List ℕ) → take n (u ++ v) ≡ take n u ++ take (n - length u) v
take-both n [] v =
    let all : n - length no_moments ≡ n = omega arith in
    rw (take-none n, all) refl
take-both zero (x ∷ u) v =
    let none : 0 - length (x ∷ u) ≡ 0 = omega arith in
    rw none refl
take-both (suc n) (x ∷ u) v =
    let less : suc n - length (x ∷ u) ≡ n - length u = omega arith in
    rw less (ap (λ l. x ∷ l) (take-both n u v))

pub KeepsPauses-trans : (a b c : Option (List ℕ × ℕ)) (u v : List ℕ) → KeepsPauses a b u
    → KeepsPauses b c v → KeepsPauses a c (u ++ v)
KeepsPauses-trans None None None u v p q = tt
KeepsPauses-trans None None (Some z) u v p q = absurd q
KeepsPauses-trans None (Some y) c u v p q = absurd p
KeepsPauses-trans (Some x) None c u v p q = absurd p
KeepsPauses-trans (Some x) (Some y) None u v p q = absurd q
KeepsPauses-trans (Some x) (Some y) (Some z) u v p q = (
  q.0 ∙ ap (λ l. l ++ take y.1 v) p.0 ∙ ap (λ n. (x.0 ++ take x.1 u) ++ take n v) p.1
      ∙ append_assoc x.0 (take x.1 u) (take (x.1 - length u) v)
      ∙ ap (λ l. x.0 ++ l) (sym (take-both x.1 u v)),
  q.1 ∙ omega (arith, p.1, length-append u v),
)

-- a front of the piece was sent, and nothing received
pub sent_front : (a b : Option (List ℕ × List ℕ)) (piece text : List ℕ) → piece ≡ text
    → SendsFront a b piece
    → (part : List ℕ) × (received : List ℕ) × IsFront text part × Exchanges a b part received
    × Unit {0}
sent_front a b piece text is (n, le, sends) = (
  take n piece,
  [],
  (n, rw (← is) le, ap (take n) is),
  Exchanges-sent a b (take n piece) sends,
  tt,
)
