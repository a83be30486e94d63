-- The words of a `limits` line and of a `step` line.
use Rattle.std.proofs.Common.{◌≡◌, ℕ, ◌<◌, ◌^◌, List, ◌∷◌, ◌++◌, sym, ◌∙◌, subst, arith, lit<}
use Rattle.std.specs.Prelude.{decimal}
use Rattle.std.proofs.lemmas.Fmt.{decimal_injective}
use Rattle.plain_words.specs.Words.{IsNumber}
use Rattle.visit_core.specs.declared.visit_terms.Limits.{Limits}
use Rattle.page_script.specs.Names.{IsName}
use Rattle.page_script.specs.LineParts.{IsLimits, IsNumberThen, IsStep}
use Rattle.page_script.proofs.CutLemmas.{one_number_then, three_words, two_words}

-- ---- limits

limits_first : (text : List ℕ) (l : Limits) → IsLimits text l
    → IsNumberThen text 86400 l.execution_secs (decimal l.poll_ms ++ 32 ∷ decimal l.polls)
limits_first text l is = record {
  spelled = is.spelled ∙ three_words (decimal l.execution_secs) (decimal l.poll_ms)
      (decimal l.polls);
  small = is.fits.execution.1;
}

-- behind the first number
pub limits_second : (text rest : List ℕ) (n : ℕ) (l : Limits) → IsNumberThen text 86400 n rest
    → IsLimits text l
    → (n ≡ l.execution_secs) × IsNumberThen rest 60000 l.poll_ms (decimal l.polls)
limits_second text rest n l read is =
    let same = one_number_then text 86400 n l.execution_secs rest
    (decimal l.poll_ms ++ 32 ∷ decimal l.polls) (lit< tt) read (limits_first text l is) in
    (same.0, record { spelled = same.1; small = is.fits.poll.1 })

-- behind the second
pub limits_third : (text rest last : List ℕ) (n m : ℕ) (l : Limits) → IsNumberThen text 86400 n rest
    → IsNumberThen rest 60000 m last
    → IsLimits text l → (n ≡ l.execution_secs) × (m ≡ l.poll_ms) × IsNumber last 1000000 l.polls
limits_third text rest last n m l read again is =
    let second = limits_second text rest n l read is in
    let same = one_number_then rest 60000 m l.poll_ms last (decimal l.polls) (lit< tt) again
    second.1 in
    (second.0, same.0, (same.1, is.fits.polls_fit.1))

-- the limits that were read
pub limits_same : (text rest last : List ℕ) (n m k : ℕ) (l : Limits)
    → IsNumberThen text 86400 n rest → IsNumberThen rest 60000 m last
    → IsNumber last 1000000 k → IsLimits text l
    → l ≡ record { execution_secs = n; poll_ms = m; polls = k }
limits_same text rest last n m k l read again number is =
    let third = limits_third text rest last n m l read again is in
    let bound : 1000000 < 2 ^ 64 = lit< tt in
    let polls = decimal_injective k l.polls (omega (arith, number.1, bound))
    (omega (arith, third.2, bound)) (sym number.0 ∙ third.2.0) in
    λ i. record { execution_secs = sym third.0 i; poll_ms = sym third.1 i; polls = sym polls i }

-- a text spells one limits
pub one_limits : (text : List ℕ) (a b : Limits) → IsLimits text a → IsLimits text b → a ≡ b
one_limits text a b is other =
    let first = limits_first text b other in
    let second = limits_second text (decimal b.poll_ms ++ 32 ∷ decimal b.polls) b.execution_secs b
    first other in
    limits_same text (decimal b.poll_ms ++ 32 ∷ decimal b.polls) (decimal b.polls) b.execution_secs
    b.poll_ms b.polls a first second.1
    ((λ i. decimal b.polls), other.fits.polls_fit.1) is

-- ---- steps

-- behind the moment
pub step_name : (text name : List ℕ) (moment : ℕ) (step : ℕ × List ℕ)
    → IsNumberThen text (2 ^ 62) moment name → IsStep text step
    → (moment ≡ step.0) × (name ≡ step.1)
step_name text name moment step read is =
    one_number_then text (2 ^ 62) moment step.0 name step.1 (lit< tt) read
    (record { spelled = is.spelled ∙ two_words (decimal step.0) step.1; small = is.fits.0 })

-- the name behind the moment is none
pub no_step : (text name : List ℕ) (moment : ℕ) → IsNumberThen text (2 ^ 62) moment name
    → ¬ IsName name → (step : ℕ × List ℕ) → ¬ IsStep text step
no_step text name moment read none step is = none
    (subst IsName (sym (step_name text name moment step read is).1) is.fits.1)

-- a text spells one step
pub one_step : (text : List ℕ) (a b : ℕ × List ℕ) → IsStep text a → IsStep text b
    → (a.0 ≡ b.0) × (a.1 ≡ b.1)
one_step text a b is other =
    step_name text a.1 a.0 b (record {
      spelled = is.spelled ∙ two_words (decimal a.0) a.1;
      small =
          is.fits.0;
    }) other
