-- What a visit's rule never does: it tells no lost link where none was lost.
use Rattle.std.proofs.Common.{◌≡◌, ℕ, List, [], ◌∷◌, ◌++◌, Bool, true, false, refl, sym, ◌∙◌, ap}
use Rattle.std.specs.Prelude.{reverse, Option, Some, None, ◌||◌, if◌then◌else◌}
use Rattle.std.proofs.lemmas.List.{reverse-append}
use Rattle.asp_messages.specs.declared.request.Ask.{Ask}
use Rattle.asp_messages.specs.declared.request.Ask.TheVariants.{Read, Acquire, Release, Write, Remove, Reset}
use Rattle.asp_messages.specs.declared.reply.Reply.TheVariants.{Found, Done as done_reply, Locked, Missing}
use Rattle.visit_core.specs.declared.act.Heard.{Heard}
use Rattle.visit_core.specs.declared.act.Heard.TheVariants.{Reply, Strange}
use Rattle.visit_core.specs.declared.outcome.Outcome.{Outcome}
use Rattle.visit_core.specs.declared.outcome.Outcome.TheVariants.{GaveUp, LinkFault}
use Rattle.visit_core.specs.Acts.{Action, send, wait_until, run, over, IsToRun}
use Rattle.visit_core.specs.Terms.{VisitTerms}
use Rattle.visit_core.specs.VisitRule.{Event, heard, ended, lost, send_ask, act_of, act_after, after_answer, after_loss, after_end, at_end, refused, ask_for, ending_ask, own_cookie, locked_answers, has_ended}
use Rattle.page_link.specs.VisitTurns.{has_lost}

-- ---- pasts in either order

reverse-cons : (event : Event) (past : List Event)
    → reverse (event ∷ past) ≡ reverse past ++ event ∷ []
reverse-cons event past = reverse-append (event ∷ []) past

pub has_lost-append : (xs ys : List Event) → has_lost (xs ++ ys) ≡ (has_lost xs || has_lost ys)
has_lost-append [] ys = refl
has_lost-append (heard t request answer ∷ xs) ys = has_lost-append xs ys
has_lost-append (ended ending ∷ xs) ys = has_lost-append xs ys
has_lost-append (lost ∷ xs) ys = refl

or-false : (b : Bool) → (b || false) ≡ b
or-false true = refl
or-false false = refl

or-true : (b : Bool) → (b || true) ≡ true
or-true true = refl
or-true false = refl

has_lost-reverse : (past : List Event) → has_lost (reverse past) ≡ has_lost past
has_lost-reverse [] = refl
has_lost-reverse (heard t request answer ∷ past) =
    ap has_lost (reverse-cons (heard t request answer) past)
    ∙ has_lost-append (reverse past) (heard t request answer ∷ [])
    ∙ or-false (has_lost (reverse past)) ∙ has_lost-reverse past
has_lost-reverse (ended ending ∷ past) =
    ap has_lost (reverse-cons (ended ending) past)
    ∙ has_lost-append (reverse past) (ended ending ∷ []) ∙ or-false (has_lost (reverse past))
    ∙ has_lost-reverse past
has_lost-reverse (lost ∷ past) =
    ap has_lost (reverse-cons lost past) ∙ has_lost-append (reverse past) (lost ∷ [])
    ∙ or-true (has_lost (reverse past))

-- ---- no lost link

is_fault_outcome : Outcome → Bool
is_fault_outcome LinkFault = true
is_fault_outcome outcome = false

is_fault : Action → Bool
is_fault (over LinkFault) = true
is_fault action = false

refused-no_fault : (answer : Heard) → is_fault (refused answer) ≡ false
unfolding is_fault
refused-no_fault (Reply reply) = refl
refused-no_fault (Strange status) = refl

locked-no_fault : (terms : VisitTerms) (used_up old early : Bool) (cookie age moment : ℕ)
    → is_fault (if used_up
    then over (GaveUp cookie age)
    else (if old
    then send_ask terms (Release cookie)
    else (if early then wait_until moment else send_ask terms (ask_for terms.need)))) ≡ false
unfolding is_fault
locked-no_fault terms true old early cookie age moment = refl
locked-no_fault terms false true early cookie age moment = refl
locked-no_fault terms false false true cookie age moment = refl
locked-no_fault terms false false false cookie age moment = refl

answer-no_fault : (terms : VisitTerms) (count u : ℕ) (ask : Ask) (answer : Heard) (t : ℕ)
    → is_fault (after_answer terms count u ask answer t) ≡ false
unfolding is_fault
answer-no_fault terms count u Acquire (Reply (Found body minutes None first)) t = refl
answer-no_fault terms count u Acquire (Reply (Found body minutes (Some cookie) first)) t = refl
answer-no_fault terms count u Acquire (Reply (Locked cookie age since)) t =
    locked-no_fault terms _ _ _ cookie age _
answer-no_fault terms count u Acquire answer t = refl
answer-no_fault terms count u Read (Reply (Locked cookie age since)) t =
    locked-no_fault terms _ _ _ cookie age _
answer-no_fault terms count u Read answer t = refl
answer-no_fault terms count u Reset (Reply done_reply) t = refl
answer-no_fault terms count u Reset (Reply Missing) t = refl
answer-no_fault terms count u Reset answer t = refl
answer-no_fault terms count u (Release cookie) (Reply done_reply) t = refl
answer-no_fault terms count u (Release cookie) (Reply Missing) t = refl
answer-no_fault terms count u (Release cookie) (Reply (Locked other age since)) t = refl
answer-no_fault terms count u (Release cookie) answer t = refl
answer-no_fault terms count u (Write body minutes fresh cookie) answer t = refused-no_fault answer
answer-no_fault terms count u (Remove cookie) answer t = refused-no_fault answer

end-no_fault : (answer : Heard) → is_fault (after_end answer) ≡ false
unfolding is_fault
end-no_fault (Reply done_reply) = refl
end-no_fault (Reply Missing) = refl
end-no_fault (Reply (Locked cookie age since)) = refl
end-no_fault answer = refl

at_end-no_fault : (terms : VisitTerms) (ask : Option Ask) → is_fault (at_end terms ask) ≡ false
unfolding is_fault
at_end-no_fault terms None = refl
at_end-no_fault terms (Some ask) = refl

act-no_fault : (terms : VisitTerms) (past : List Event) (t : ℕ) → has_lost past ≡ false
    → is_fault (act_after terms past t) ≡ false
unfolding is_fault
act-no_fault terms [] t linked = refl
act-no_fault terms (heard u request answer ∷ past) t linked =
    elim (has_ended past) as
    (λ b. is_fault (if b then after_end answer else after_answer terms
    (locked_answers (heard u request answer ∷ past)) u request.ask answer t) ≡ false) [
      | true ↦ end-no_fault answer
      | false ↦ answer-no_fault terms _ u request.ask answer t
    ]
act-no_fault terms (ended ending ∷ past) t linked =
    at_end-no_fault terms (ending_ask terms.need (own_cookie past) ending)
act-no_fault terms (lost ∷ past) t linked = absurd cc

fault-is : is_fault (over LinkFault) ≡ true
unfolding is_fault
fault-is = refl

pub no_fault : (terms : VisitTerms) (past : List Event) (t : ℕ) → has_lost past ≡ false
    → act_of terms past t ≡ over LinkFault → ⊥
no_fault terms past t linked acts =
    let tells = act-no_fault terms (reverse past) t (has_lost-reverse past ∙ linked) in
    let both : true ≡ false = sym fault-is ∙ ap is_fault (sym acts) ∙ tells in
    cc
