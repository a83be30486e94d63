-- What one event adds to a past, and that a page that runs may end.
use Rattle.std.proofs.Common.{◌≡◌, ℕ, Bool, true, false, List, [], ◌∷◌, ◌++◌, Some, None, refl, sym, ◌∙◌, subst}
use Rattle.std.specs.Prelude.{◌||◌, reverse, if◌then◌else◌}
use Rattle.std.proofs.lemmas.List.{reverse-append}
use Rattle.asp_messages.specs.declared.request.Request.{Request}
use Rattle.asp_messages.specs.declared.request.Ask.{Ask}
use Rattle.asp_messages.specs.declared.request.Ask.TheVariants.{Read, Acquire, Release, Write, Remove, Reset}
use Rattle.asp_messages.specs.declared.reply.Reply.TheVariants.{Found, Done as done_reply, Locked, Missing}
use Rattle.visit_core.specs.declared.act.Ending.{Ending}
use Rattle.visit_core.specs.declared.act.Heard.{Heard}
use Rattle.visit_core.specs.declared.act.Heard.TheVariants.{Reply}
use Rattle.visit_core.specs.declared.outcome.Outcome.TheVariants.{GaveUp}
use Rattle.visit_core.specs.Acts.{Action, send, wait_until, run, over, IsToRun}
use Rattle.visit_core.specs.VisitRule.{Event, heard, ended, lost, act_of, act_after, after_answer, after_end, after_loss, has_ended, send_ask, ask_for, locked_answers, IsLawful, EachFollows}
use Rattle.visit_core.specs.Terms.{VisitTerms, EndingFits}
use Rattle.visit_core.proofs.EventLemmas.{has_ended-append}

-- ---- what an event adds

or-swap : (a b : Bool) → (a || b) ≡ (b || a)
or-swap true true = refl
or-swap true false = refl
or-swap false true = refl
or-swap false false = refl

pub has_ended-heard : (past : List Event) (t : ℕ) (request : Request) (answer : Heard)
    → has_ended (past ++ heard t request answer ∷ []) ≡ has_ended past
has_ended-heard past t request answer =
    has_ended-append past (heard t request answer ∷ []) ∙ or-swap (has_ended past) false

pub has_ended-ended : (past : List Event) (ending : Ending)
    → has_ended (past ++ ended ending ∷ []) ≡ true
has_ended-ended past ending =
    has_ended-append past (ended ending ∷ []) ∙ or-swap (has_ended past) true

-- ---- a page that runs at one moment runs at each

locked-no_run : (terms : VisitTerms) (used_up old early : Bool) (cookie age moment : ℕ)
    → IsToRun (if used_up
    then over (GaveUp cookie age)
    else (if old
    then send_ask terms (Release cookie)
    else (if early then wait_until moment else send_ask terms (ask_for terms.need)))) → ⊥
locked-no_run terms true old early cookie age moment runs = runs
locked-no_run terms false true early cookie age moment runs = runs
locked-no_run terms false false true cookie age moment runs = runs
locked-no_run terms false false false cookie age moment runs = runs

answer-runs : (terms : VisitTerms) (count v : ℕ) (ask : Ask) (answer : Heard) (t u : ℕ)
    → IsToRun (after_answer terms count v ask answer t)
    → IsToRun (after_answer terms count v ask answer u)
answer-runs terms count v Acquire (Reply (Found body minutes None first)) t u runs = runs
answer-runs terms count v Acquire (Reply (Found body minutes (Some cookie) first)) t u runs = runs
answer-runs terms count v Acquire (Reply (Locked cookie age since)) t u runs =
    absurd (locked-no_run terms _ _ _ cookie age _ runs)
answer-runs terms count v Acquire answer t u runs = runs
answer-runs terms count v Read (Reply (Locked cookie age since)) t u runs =
    absurd (locked-no_run terms _ _ _ cookie age _ runs)
answer-runs terms count v Read answer t u runs = runs
answer-runs terms count v Reset (Reply done_reply) t u runs = runs
answer-runs terms count v Reset (Reply Missing) t u runs = runs
answer-runs terms count v Reset answer t u runs = runs
answer-runs terms count v (Release cookie) (Reply done_reply) t u runs = runs
answer-runs terms count v (Release cookie) (Reply Missing) t u runs = runs
answer-runs terms count v (Release cookie) (Reply (Locked other age since)) t u runs = runs
answer-runs terms count v (Release cookie) answer t u runs = runs
answer-runs terms count v (Write body minutes fresh cookie) answer t u runs = runs
answer-runs terms count v (Remove cookie) answer t u runs = runs

loss-no_run : (action : Action) → IsToRun (after_loss action) → ⊥
loss-no_run (send r) runs = runs
loss-no_run (wait_until moment) runs = runs
loss-no_run (run content first) runs = runs
loss-no_run (over outcome) runs = runs

runs-always : (terms : VisitTerms) (past : List Event) (t u : ℕ) → IsToRun (act_after terms past t)
    → IsToRun (act_after terms past u)
runs-always terms [] t u runs = runs
runs-always terms (heard v request answer ∷ past) t u runs = (elim (has_ended past) as
    (λ b. IsToRun (if b then after_end answer else after_answer terms
    (locked_answers (heard v request answer ∷ past)) v request.ask answer t)
    → IsToRun (if b then after_end answer else after_answer terms
    (locked_answers (heard v request answer ∷ past)) v request.ask answer u)) [
      | true ↦ λ same. same
      | false ↦ λ same. answer-runs terms _ v request.ask answer t u same
    ]) runs
runs-always terms (ended ending ∷ past) t u runs = runs
runs-always terms (lost ∷ past) t u runs = absurd (loss-no_run (act_after terms past t) runs)

-- a page that runs may end
pub lawful-ended : (terms : VisitTerms) (past : List Event) (t : ℕ) (ending : Ending)
    → IsLawful terms past → IsToRun (act_of terms past t) → EndingFits ending
    → IsLawful terms (past ++ ended ending ∷ [])
lawful-ended terms past t ending lawful runs fits =
    subst (EachFollows terms) (sym (reverse-append past (ended ending ∷ [])))
    (((λ u. runs-always terms (reverse past) t u runs), fits), lawful)
