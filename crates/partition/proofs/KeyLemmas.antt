-- The requests of a page are for its own key.
use Rattle.std.proofs.Common.{◌≡◌, ℕ, Bool, true, false, List, [], ◌∷◌, Option, Some, None, refl, sym, subst}
use Rattle.std.specs.Prelude.{reverse, if◌then◌else◌, ⊤}
use Rattle.std.specs.List.{AllByRecursion}
use Rattle.asp_messages.specs.declared.request.Ask.{Ask}
use Rattle.asp_messages.specs.declared.request.Ask.TheVariants.{Read, Acquire, Release, Write, Remove, Reset}
use Rattle.asp_messages.specs.declared.reply.Reply.TheVariants.{Found, Done as done_reply, Locked, Missing}
use Rattle.visit_core.specs.declared.act.Heard.{Heard}
use Rattle.visit_core.specs.declared.act.Heard.TheVariants.{Reply, Strange}
use Rattle.visit_core.specs.declared.outcome.Outcome.TheVariants.{GaveUp}
use Rattle.visit_core.specs.Acts.{Action, send, wait_until, run, over}
use Rattle.visit_core.specs.VisitRule.{Event, heard, ended, lost, act_of, act_after, after_answer, after_end, after_loss, at_end, ending_ask, own_cookie, has_ended, refused, send_ask, ask_for, locked_answers}
use Rattle.visit_core.specs.Terms.{VisitTerms}
use Rattle.page_script.specs.World.{PageInWorld, WorldTurn, Added, Performs}

-- what is sent is for this key
abbrev pub SendsFor : List ℕ → Action → Type 0
SendsFor key (send request) = request.key ≡ key
SendsFor key (wait_until moment) = ⊤
SendsFor key (run content first) = ⊤
SendsFor key (over outcome) = ⊤

refused-own : (key : List ℕ) (answer : Heard) → SendsFor key (refused answer)
refused-own key (Reply reply) = tt
refused-own key (Strange status) = tt

locked-own : (terms : VisitTerms) (used_up old early : Bool) (cookie age moment : ℕ)
    → SendsFor terms.key (if used_up
    then over (GaveUp cookie age)
    else (if old
    then send_ask terms (Release cookie)
    else (if early then wait_until moment else send_ask terms (ask_for terms.need))))
locked-own terms true old early cookie age moment = tt
locked-own terms false true early cookie age moment = refl
locked-own terms false false true cookie age moment = tt
locked-own terms false false false cookie age moment = refl

answer-own : (terms : VisitTerms) (count v : ℕ) (ask : Ask) (answer : Heard) (t : ℕ)
    → SendsFor terms.key (after_answer terms count v ask answer t)
answer-own terms count v Acquire (Reply (Found body minutes None first)) t =
    refused-own terms.key (Reply (Found body minutes None first))
answer-own terms count v Acquire (Reply (Found body minutes (Some cookie) first)) t = tt
answer-own terms count v Acquire (Reply Missing) t = tt
answer-own terms count v Acquire (Reply (Locked cookie age since)) t =
    locked-own terms _ _ _ cookie age _
answer-own terms count v Acquire answer t = refused-own terms.key answer
answer-own terms count v Read (Reply (Found body minutes cookie first)) t = tt
answer-own terms count v Read (Reply Missing) t = tt
answer-own terms count v Read (Reply (Locked cookie age since)) t =
    locked-own terms _ _ _ cookie age _
answer-own terms count v Read answer t = refused-own terms.key answer
answer-own terms count v Reset (Reply done_reply) t = tt
answer-own terms count v Reset (Reply Missing) t = tt
answer-own terms count v Reset answer t = refused-own terms.key answer
answer-own terms count v (Release cookie) (Reply done_reply) t = refl
answer-own terms count v (Release cookie) (Reply Missing) t = refl
answer-own terms count v (Release cookie) (Reply (Locked other age since)) t = refl
answer-own terms count v (Release cookie) answer t = refused-own terms.key answer
answer-own terms count v (Write body minutes fresh cookie) answer t = refused-own terms.key answer
answer-own terms count v (Remove cookie) answer t = refused-own terms.key answer

end-own : (key : List ℕ) (answer : Heard) → SendsFor key (after_end answer)
end-own key (Reply done_reply) = tt
end-own key (Reply Missing) = tt
end-own key (Reply (Locked cookie age since)) = tt
end-own key answer = refused-own key answer

ending-own : (terms : VisitTerms) (ask : Option Ask) → SendsFor terms.key (at_end terms ask)
ending-own terms None = tt
ending-own terms (Some ask) = refl

loss-own : (key : List ℕ) (action : Action) → SendsFor key (after_loss action)
loss-own key (send request) = tt
loss-own key (wait_until moment) = tt
loss-own key (run content first) = tt
loss-own key (over outcome) = tt

choice-own : (key : List ℕ) (test : Bool) (one other : Action) → SendsFor key one
    → SendsFor key other → SendsFor key (if test then one else other)
choice-own key true one other is is' = is
choice-own key false one other is is' = is'

after-own : (terms : VisitTerms) (past : List Event) (t : ℕ)
    → SendsFor terms.key (act_after terms past t)
after-own terms [] t = refl
after-own terms (heard u request answer ∷ past) t =
    choice-own terms.key (has_ended past) (after_end answer)
    (after_answer terms (locked_answers (heard u request answer ∷ past)) u request.ask answer t)
    (end-own terms.key answer)
    (answer-own terms (locked_answers (heard u request answer ∷ past)) u request.ask answer t)
after-own terms (ended ending ∷ past) t =
    ending-own terms (ending_ask terms.need (own_cookie past) ending)
after-own terms (lost ∷ past) t = loss-own terms.key (act_after terms past t)

pub acts-own : (terms : VisitTerms) (past : List Event) (t : ℕ)
    → SendsFor terms.key (act_of terms past t)
acts-own terms past t = after-own terms (reverse past) t

-- what a step asks is for the key that its act is for
pub asked-key : (key : List ℕ) (action : Action) (t : ℕ) (at : PageInWorld) (adds : Added)
    → SendsFor key action → Performs action t at adds
    → AllByRecursion (λ (turn : WorldTurn). turn.request.key ≡ key) adds.asked
asked-key key (send request) t at adds own acts =
    subst (AllByRecursion (λ (turn : WorldTurn). turn.request.key ≡ key)) (sym acts.3)
    (subst (λ r. r.key ≡ key) (sym acts.1.request) own, tt)
asked-key key (wait_until moment) t at adds own acts =
    subst (AllByRecursion (λ (turn : WorldTurn). turn.request.key ≡ key)) (sym acts.1) tt
asked-key key (run content first) t at adds own acts =
    subst (AllByRecursion (λ (turn : WorldTurn). turn.request.key ≡ key)) (sym acts.1) tt
asked-key key (over outcome) t at adds own acts =
    subst (AllByRecursion (λ (turn : WorldTurn). turn.request.key ≡ key)) (sym acts.1) tt
