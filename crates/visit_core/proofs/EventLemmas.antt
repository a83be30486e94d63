-- What the rule of a visit says of moments, and of pages that run.
use Rattle.std.proofs.Common.{◌≡◌, ℕ, ◌+◌, ◌<◌, ◌≤◌, Bool, true, false, List, [], ◌∷◌, ◌++◌, Option, Some, None, refl, sym, ap, ◌∙◌, arith, subst, max, lt-ltb}
use Rattle.std.specs.Prelude.{◌||◌, reverse, if◌then◌else◌, ⊤}
use Rattle.std.proofs.lemmas.List.{reverse-append}
use Rattle.asp_messages.specs.declared.request.Ask.{Ask}
use Rattle.asp_messages.specs.declared.request.Ask.TheVariants.{Read, Acquire, Release, Write, Remove, Reset}
use Rattle.asp_messages.specs.declared.reply.Reply.TheVariants.{Found, Done as done_reply, Locked, Missing}
use Rattle.visit_core.specs.declared.act.Heard.{Heard}
use Rattle.visit_core.specs.declared.act.Heard.TheVariants.{Reply, Strange}
use Rattle.visit_core.specs.declared.outcome.Outcome.TheVariants.{GaveUp}
use Rattle.visit_core.specs.Acts.{Action, send, wait_until, run, over, IsToRun}
use Rattle.visit_core.specs.VisitRule.{Event, heard, ended, lost, act_of, act_after, after_answer, after_end, after_loss, at_end, ending_ask, own_cookie, has_ended, latest_answer, refused, send_ask, ask_for, locked_answers}
use Rattle.visit_core.specs.Terms.{VisitTerms}
use Rattle.visit_core.specs.declared.stage.Stage.TheVariants.{Asking, Running}
use Rattle.visit_core.specs.Stages.{VisitState, HasPast, stage_act}

-- ---- the moment of a wait

-- where a visit waits, it is until this moment at most
abbrev IsWithin : ℕ → Action → Type 0
IsWithin most (send request) = ⊤
IsWithin most (wait_until moment) = moment ≤ most
IsWithin most (run content first) = ⊤
IsWithin most (over outcome) = ⊤

refused-within : (most : ℕ) (answer : Heard) → IsWithin most (refused answer)
refused-within most (Reply reply) = tt
refused-within most (Strange status) = tt

locked-within : (terms : VisitTerms) (used_up old early : Bool) (cookie age moment most : ℕ)
    → moment ≤ most → IsWithin most (if used_up
    then over (GaveUp cookie age)
    else (if old
    then send_ask terms (Release cookie)
    else (if early then wait_until moment else send_ask terms (ask_for terms.need))))
locked-within terms true old early cookie age moment most le = tt
locked-within terms false true early cookie age moment most le = tt
locked-within terms false false true cookie age moment most le = le
locked-within terms false false false cookie age moment most le = tt

answer-within : (terms : VisitTerms) (count u : ℕ) (ask : Ask) (answer : Heard) (t most : ℕ)
    → u + terms.limits.poll_ms ≤ most
    → IsWithin most (after_answer terms count u ask answer t)
answer-within terms count u Acquire (Reply (Found body minutes None first)) t most le = tt
answer-within terms count u Acquire (Reply (Found body minutes (Some cookie) first)) t most le = tt
answer-within terms count u Acquire (Reply (Locked cookie age since)) t most le =
    locked-within terms _ _ _ cookie age _ most le
answer-within terms count u Acquire answer t most le = tt
answer-within terms count u Read (Reply (Locked cookie age since)) t most le =
    locked-within terms _ _ _ cookie age _ most le
answer-within terms count u Read answer t most le = tt
answer-within terms count u Reset (Reply done_reply) t most le = tt
answer-within terms count u Reset (Reply Missing) t most le = tt
answer-within terms count u Reset answer t most le = tt
answer-within terms count u (Release cookie) (Reply done_reply) t most le = tt
answer-within terms count u (Release cookie) (Reply Missing) t most le = tt
answer-within terms count u (Release cookie) (Reply (Locked other age since)) t most le = tt
answer-within terms count u (Release cookie) answer t most le = tt
answer-within terms count u (Write body minutes fresh cookie) answer t most le =
    refused-within most answer
answer-within terms count u (Remove cookie) answer t most le = refused-within most answer

end-within : (most : ℕ) (answer : Heard) → IsWithin most (after_end answer)
end-within most (Reply done_reply) = tt
end-within most (Reply Missing) = tt
end-within most (Reply (Locked cookie age since)) = tt
end-within most answer = tt

at_end-within : (most : ℕ) (terms : VisitTerms) (ask : Option Ask) → IsWithin most (at_end terms ask)
at_end-within most terms None = tt
at_end-within most terms (Some ask) = tt

loss-within : (most : ℕ) (action : Action) → IsWithin most (after_loss action)
loss-within most (send request) = tt
loss-within most (wait_until moment) = tt
loss-within most (run content first) = tt
loss-within most (over outcome) = tt

act-within : (terms : VisitTerms) (past : List Event) (t most : ℕ)
    → latest_answer past + terms.limits.poll_ms ≤ most → IsWithin most (act_after terms past t)
act-within terms [] t most le = tt
act-within terms (heard u request answer ∷ past) t most le =
    elim (has_ended past) as
    (λ b. IsWithin most (if b then after_end answer else after_answer terms
    (locked_answers (heard u request answer ∷ past)) u request.ask answer t)) [
      | true ↦ end-within most answer
      | false ↦ answer-within terms _ u request.ask answer t most (omega (arith, le))
    ]
act-within terms (ended ending ∷ past) t most le =
    at_end-within most terms (ending_ask terms.need (own_cookie past) ending)
act-within terms (lost ∷ past) t most le = loss-within most (act_after terms past t)

-- the latest moment of a past in any order
pub latest_answer-append : (a b : List Event) → latest_answer (a ++ b) ≡ max (latest_answer a) (latest_answer b)
latest_answer-append [] b = omega arith
latest_answer-append (heard t request answer ∷ a) b = let rest = latest_answer-append a b in omega (arith, rest)
latest_answer-append (ended ending ∷ a) b = latest_answer-append a b
latest_answer-append (lost ∷ a) b = latest_answer-append a b

latest_answer-reverse : (past : List Event) → latest_answer (reverse past) ≡ latest_answer past
latest_answer-reverse [] = refl
latest_answer-reverse (event ∷ past) =
    let rest = latest_answer-reverse past in
    let cut = ap latest_answer (reverse-append (event ∷ []) past) in
    let parts = latest_answer-append (reverse past) (event ∷ []) in
    let same = latest_answer-append (event ∷ []) past in
    omega (arith, rest, cut, parts, same)

pub within-is : (most u : ℕ) (action : Action) → action ≡ wait_until u → IsWithin most action
    → u ≤ most
within-is most u action is within = let at = subst (IsWithin most) is within in at

-- a wait is over at most one poll behind the last answer
pub waits-within : (terms : VisitTerms) (past : List Event) (t u : ℕ) → act_of terms past t ≡ wait_until u
    → u ≤ latest_answer past + terms.limits.poll_ms
waits-within terms past t u is =
    within-is (latest_answer past + terms.limits.poll_ms) u _ is
    (act-within terms (reverse past) t (latest_answer past + terms.limits.poll_ms)
    (let same = latest_answer-reverse past in omega (arith, same)))

-- the same of a visit that waits to ask
pub asking-within : (visit : VisitState) (past : List Event) (t from : ℕ) → HasPast visit past
    → visit.stage ≡ Asking from → t < from
    → from ≤ latest_answer past + visit.terms.limits.poll_ms
asking-within visit past t from stands stage early =
    waits-within visit.terms past t from
    (stands.acts t ∙ ap (λ s. stage_act visit.terms visit.ask s t) stage
    ∙ ap (λ b. if b then wait_until from else send_ask visit.terms visit.ask) (lt-ltb t from early))

-- ---- a page runs before its end

loss-no_run : (action : Action) → IsToRun (after_loss action) → ⊥
loss-no_run (send r) runs = runs
loss-no_run (wait_until moment) runs = runs
loss-no_run (run content first) runs = runs
loss-no_run (over outcome) runs = runs

end-no_run : (answer : Heard) → IsToRun (after_end answer) → ⊥
end-no_run (Reply done_reply) runs = runs
end-no_run (Reply Missing) runs = runs
end-no_run (Reply (Locked cookie age since)) runs = runs
end-no_run answer runs = runs

at_end-no_run : (terms : VisitTerms) (ask : Option Ask) → IsToRun (at_end terms ask) → ⊥
at_end-no_run terms None runs = runs
at_end-no_run terms (Some ask) runs = runs

act-no_run : (terms : VisitTerms) (past : List Event) (t : ℕ) → has_ended past ≡ true
    → IsToRun (act_after terms past t) → ⊥
act-no_run terms [] t is_ended runs = cc
act-no_run terms (heard u request answer ∷ past) t is_ended runs =
    end-no_run answer (rw is_ended at runs)
act-no_run terms (ended ending ∷ past) t is_ended runs =
    at_end-no_run terms (ending_ask terms.need (own_cookie past) ending) runs
act-no_run terms (lost ∷ past) t is_ended runs = loss-no_run (act_after terms past t) runs

pub has_ended-append : (a b : List Event) → has_ended (a ++ b) ≡ (has_ended a || has_ended b)
has_ended-append [] b = refl
has_ended-append (heard t request answer ∷ a) b = has_ended-append a b
has_ended-append (ended ending ∷ a) b = refl
has_ended-append (lost ∷ a) b = has_ended-append a b

or-swap : (a b : Bool) → (a || b) ≡ (b || a)
or-swap true true = refl
or-swap true false = refl
or-swap false true = refl
or-swap false false = refl

pub has_ended-reverse : (past : List Event) → has_ended (reverse past) ≡ has_ended past
has_ended-reverse [] = refl
has_ended-reverse (event ∷ past) =
    ap has_ended (reverse-append (event ∷ []) past)
    ∙ has_ended-append (reverse past) (event ∷ [])
    ∙ ap (λ b. b || has_ended (event ∷ [])) (has_ended-reverse past)
    ∙ or-swap (has_ended past) (has_ended (event ∷ []))
    ∙ sym (has_ended-append (event ∷ []) past)

-- a page that runs has not ended
pub runs-unended : (terms : VisitTerms) (past : List Event) (t : ℕ) → IsToRun (act_of terms past t)
    → has_ended past ≡ false
runs-unended terms past t runs = by_cases (has_ended past) refl
  where
    by_cases : (b : Bool) → has_ended past ≡ b → has_ended past ≡ false
    by_cases true is_ended =
        absurd (act-no_run terms (reverse past) t (has_ended-reverse past ∙ is_ended) runs)
    by_cases false unended = unended

-- the same of a visit whose page runs
pub running-unended : (visit : VisitState) (past : List Event) (content : Option (List ℕ))
    (first : Bool) (cookie : Option ℕ) → HasPast visit past
    → visit.stage ≡ Running content first cookie → has_ended past ≡ false
running-unended visit past content first cookie stands stage =
    let acts : act_of visit.terms past 0 ≡ run content first =
    stands.acts 0 ∙ ap (λ s. stage_act visit.terms visit.ask s 0) stage in
    runs-unended visit.terms past 0 (subst IsToRun (sym acts) tt)
