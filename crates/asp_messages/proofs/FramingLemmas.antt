-- Heads and the bodies that they announce.
use Rattle.std.proofs.Common.{◌≡◌, ℕ, ◌+◌, ◌<◌, ◌≤◌, Bool, true, false, cond, List, ◌++◌, length, take, drop, Option, Some, None, refl, sym, ap, ◌∙◌, arith, inl, inr, length-append}
use Rattle.std.specs.Prelude.{codes, nat_le}
use Rattle.std.proofs.lemmas.Bool.Decides.{nat_tests}
use Rattle.std.proofs.lemmas.List.{take_at, drop_at}
use Rattle.asp_base.proofs.NumberLemmas.{number_of-le}
use Rattle.asp_base.specs.Numbers.{number_of}
use Rattle.asp_messages.specs.Fields.{Field, Occurrence, absent, one, twice, at_least, number_or, number_needed, body_length, most_body, once}
use Rattle.asp_messages.specs.Head.{most_head}
use Rattle.asp_messages.specs.Stream.{IsWaiting}

-- ---- numbers in fields are in range

at_least-in : (least : ℕ) (a : Option ℕ) (n most : ℕ) → ((k : ℕ) → a ≡ Some k → k ≤ most)
    → at_least least a ≡ Some n → (least ≤ n) × (n ≤ most)
at_least-in least None n most small e = cc
at_least-in least (Some k) n most small e = by_test (nat_le least k) refl e
  where
    by_test : (b : Bool) → nat_le least k ≡ b → cond b (Some k) None ≡ Some n
        → (least ≤ n) × (n ≤ most)
    by_test true test is =
        let same : k ≡ n = cc in
        let low : least ≤ k = grind (arith, nat_tests) in
        let high = small k refl in
        (omega arith, omega arith)
    by_test false test is = cc

pub number_or-in : (default least most : ℕ) (s : Occurrence) (n : ℕ) → least ≤ default
    → default ≤ most → number_or default least most s ≡ Some n → (least ≤ n) × (n ≤ most)
number_or-in default least most absent n low high e = let same : default ≡ n = cc in
    (omega arith, omega arith)
number_or-in default least most (one value) n low high e =
    at_least-in least (number_of value most) n most (λ k is. number_of-le value most k is) e
number_or-in default least most twice n low high e = cc

pub number_needed-le : (most : ℕ) (s : Occurrence) (n : ℕ) → number_needed most s ≡ Some n
    → n ≤ most
number_needed-le most absent n e = cc
number_needed-le most (one value) n e = number_of-le value most n e
number_needed-le most twice n e = cc

pub body_length-le : (fields : List Field) (n : ℕ) → body_length fields ≡ Some n → n ≤ most_body
body_length-le fields n e = (number_or-in 0 0 most_body (once fields (codes "Content-Length")) n
    (omega arith) (omega arith) e).1

-- ---- parts of lists

-- two lists that begin with parts of one length
pub split_alike : (a b c d : List ℕ) → length a ≡ length c → a ++ b ≡ c ++ d → (a ≡ c) × (b ≡ d)
split_alike a b c d len same = (
  sym (take_at a b (length a) refl) ∙ ap (take (length a)) same ∙ take_at c d (length a) (sym len),
  sym (drop_at a b (length a) refl) ∙ ap (drop (length a)) same ∙ drop_at c d (length a) (sym len),
)

-- ---- what waits

-- what waits for more is short, where heads are
pub waiting-short : {H : Type 0} (IsHead : List ℕ → H → Type 0) (fields : H → List Field)
    (bytes : List ℕ)
    → ((front : List ℕ) (head : H) → IsHead front head → length front ≤ most_head)
    → IsWaiting IsHead fields bytes → length bytes < most_head + most_body
waiting-short IsHead fields bytes heads (inl (none, short)) = omega arith
waiting-short IsHead fields bytes heads (inr await) =
    omega (
      arith,
      ap length await.bytes_are,
      length-append await.front await.back,
      heads await.front
          await.head await.is_head,
      body_length-le _ _ await.announced,
      await.short,
    )
