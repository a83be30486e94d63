-- A checker that has taken a list has taken it with one entry more.
use Rattle.std.proofs.Common.{arith, ◌≡◌, ◌∙◌, ℕ, ◌+◌, ◌-◌, ◌≤◌, List, [], ◌∷◌, ◌++◌, length, take, Option, Some, refl, sym, ap, subst, length-append}
use Rattle.std.proofs.lemmas.List.{take-append-le, take_at}
use Rattle.session_machine.specs.declared.entry.Entry.{Entry}
use Rattle.session_machine.specs.declared.item.Profile.{Profile}
use Rattle.session_machine.specs.History.{IsLegalIn, nothing}
use Rattle.journal_text.specs.declared.judging.judgement.Judgement.{Judgement}
use Rattle.journal_text.specs.declared.judging.judgement.Judgement.TheVariants.{Legal, Illegal}
use Rattle.journal_text.specs.declared.judging.judgement.Why.{Why}
use Rattle.journal_text.specs.JudgingChecker.{Checked, HasTaken, Known, KnowsHistory, legal_front}
use Rattle.journal_text.specs.JudgingEntries.{Judges, StopsAtPlace}
use Rattle.journal_text.specs.JudgingObjections.{ObjectsTo}
use Rattle.journal_text.specs.declared.judging.objection.Objection.{Objection}
use Rattle.journal_text.proofs.JudgingLemmas.{illegal-stays}

one_more : (list : List Entry) (e : Entry) (taken : ℕ) → taken ≡ length list
    → taken + 1 ≡ length (list ++ e ∷ [])
one_more list e taken is = omega (arith, is, length-append list (e ∷ []))

-- the place that may not stand is one of the list
within : (profile : Profile) (first : ℕ) (list : List Entry) (place : ℕ) (why : Why)
    → StopsAtPlace profile first list place why → place - first ≤ length list
within profile first list place why stops =
    let at = stops.at in
    let parts = ap length stops.parts in
    let whole = length-append stops.before (stops.entry ∷ stops.behind) in
    omega (arith, at, parts, whole)

-- what stands before it is the front of the list
pub front-before : (first : ℕ) (before : List Entry) (e : Entry) (place : ℕ)
    → place ≡ first + length before → take (place - first) (before ++ e ∷ []) ≡ before
front-before first before e place is =
    ap (λ n. take n (before ++ e ∷ [])) (less place first (length before) is)
    ∙ take_at before (e ∷ []) (length before) refl
  where
    less : (a b n : ℕ) → a ≡ b + n → a - b ≡ n
    less a b n is = omega arith

-- an illegal list stays so
pub taken-behind : (c : Checked) (list : List Entry) (e : Entry) (place : ℕ) (why : Why)
    → c.verdict ≡ Illegal place why → HasTaken c list
    → HasTaken (record {
      first_place = c.first_place;
      taken = c.taken + 1;
      verdict = c.verdict;
      known =
          c.known;
    }) (list ++ e ∷ [])
taken-behind c list e place why is has = record {
  taken = one_more list e c.taken has.taken;
  judges = subst (Judges c.known.profile c.first_place (list ++ e ∷ [])) (sym is)
      (illegal-stays c.known.profile c.first_place list (e ∷ []) place why
      (subst (Judges c.known.profile c.first_place list) is has.judges));
  knows = subst (λ v. KnowsHistory c.known (legal_front c.first_place v (list ++ e ∷ []))) (sym is)
      (subst (KnowsHistory c.known)
      (sym (take-append-le (place - c.first_place) list (e ∷ [])
      (within c.known.profile c.first_place list place why
      (subst (Judges c.known.profile c.first_place list) is has.judges))))
      (subst (λ v. KnowsHistory c.known (legal_front c.first_place v list)) is has.knows));
}

legal-parts : (profile : Profile) (first : ℕ) (list : List Entry) (known : Known) (verdict :
    Judgement)
    → ((place : ℕ) (why : Why) → verdict ≡ Illegal place why → ⊥)
    → Judges profile first list verdict → KnowsHistory known (legal_front first verdict list)
    → IsLegalIn profile nothing 0 list × KnowsHistory known list
legal-parts profile first list known (Legal entries) apart judges knows = (judges.0, knows)
legal-parts profile first list known (Illegal place why) apart judges knows =
    absurd (apart place why refl)

-- what the next entry's judgement says
abbrev pub JudgesNext : ℕ → ℕ → Known → Known → Entry → Judgement → Type 0
JudgesNext place taken old new e judgement = (first : ℕ) (before : List Entry)
    → place ≡ first + length before → taken ≡ length before → IsLegalIn old.profile nothing 0 before
    → KnowsHistory old before
    → Judges old.profile first (before ++ e ∷ []) judgement
    × KnowsHistory new (legal_front first judgement (before ++ e ∷ []))

-- a legal one has the judgement of its next entry
pub taken-next : (c : Checked) (list : List Entry) (e : Entry) (known : Known)
    (judgement : Judgement) → ((place : ℕ) (why : Why) → c.verdict ≡ Illegal place why → ⊥)
    → JudgesNext (c.first_place + c.taken) c.taken c.known known e judgement
    → known.profile ≡ c.known.profile → HasTaken c list
    → HasTaken (record {
      first_place = c.first_place;
      taken = c.taken + 1;
      verdict = judgement;
      known = known;
    })
    (list ++ e ∷ [])
taken-next c list e known judgement apart next same has =
    let parts = legal-parts c.known.profile c.first_place list c.known c.verdict apart has.judges
    has.knows in
    let judged = next c.first_place list (ap (λ n. c.first_place + n) has.taken) has.taken parts.0
    parts.1 in
    record {
      taken = one_more list e c.taken has.taken;
      judges = subst (λ p. Judges p c.first_place (list ++ e ∷ []) judgement) (sym same) judged.0;
      knows = judged.1;
    }

-- ---- what is told of a judgement

pub told_illegal : (v : Judgement) (o : Objection) → ObjectsTo v (Some o) → v ≡ Illegal o.place o.why
told_illegal (Legal n) o told = absurd (cc)
told_illegal (Illegal place why) o told =
    let is : o ≡ record { place = place; why = why } = cc in
    sym (ap (λ (x : Objection). Illegal x.place x.why) is)

pub told_none : (v : Judgement) (o : Option Objection) → ObjectsTo v o
    → ((x : Objection) → o ≡ Some x → ⊥) → (place : ℕ) (why : Why) → v ≡ Illegal place why → ⊥
told_none (Legal n) o told apart place why is = cc
told_none (Illegal p w) o told apart place why is = apart _ told
