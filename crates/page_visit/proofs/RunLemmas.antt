-- A page's run, act by act.
use Rattle.std.proofs.Common.{◌≡◌, ℕ, zero, suc, List, [], ◌∷◌, ◌++◌, Option, Bool, refl, sym, ap, ◌∙◌, append-nil, subst}
use Rattle.asp_messages.specs.declared.request.Request.{Request}
use Rattle.asp_messages.specs.declared.reply.Reply.{Reply as ReplyValue}
use Rattle.visit_core.specs.declared.act.Ending.{Ending}
use Rattle.visit_core.specs.declared.act.Heard.TheVariants.{Reply}
use Rattle.visit_core.specs.declared.outcome.Outcome.{Outcome}
use Rattle.visit_core.specs.Acts.{Action, send, wait_until, run, over, IsToRun}
use Rattle.visit_core.specs.VisitRule.{Event, heard, ended, act_of, IsLawful}
use Rattle.visit_core.specs.Terms.{VisitTerms, EndingFits}
use Rattle.page_visit.specs.Asked.{asked}
use Rattle.page_visit.specs.Runs.{PageRun, came_to, page_next, page_hears, page_from}
use Rattle.page_visit.proofs.AskedLemmas.{asked-append}
use Rattle.page_visit.proofs.RuleLemmas.{lawful-ended}

module _ (sent : Request → PageRun) (waited : ℕ → PageRun) (ran : Option (List ℕ) → PageRun)
    (ended_so : Outcome → PageRun)
  where
    next-sent : (action : Action) (request : Request) → action ≡ send request
        → page_next action sent waited ran ended_so ≡ sent request
    unfolding page_next
    next-sent action request is = ap (λ a. page_next a sent waited ran ended_so) is

    next-waited : (action : Action) (moment : ℕ) → action ≡ wait_until moment
        → page_next action sent waited ran ended_so ≡ waited moment
    unfolding page_next
    next-waited action moment is = ap (λ a. page_next a sent waited ran ended_so) is

    next-ran : (action : Action) (content : Option (List ℕ)) (first : Bool)
        → action ≡ run content first → page_next action sent waited ran ended_so ≡ ran content
    unfolding page_next
    next-ran action content first is = ap (λ a. page_next a sent waited ran ended_so) is

    next-over : (action : Action) (outcome : Outcome) → action ≡ over outcome
        → page_next action sent waited ran ended_so ≡ ended_so outcome
    unfolding page_next
    next-over action outcome is = ap (λ a. page_next a sent waited ran ended_so) is

module _ (n : ℕ) (terms : VisitTerms) (ending : Ending) (past : List Event) (t : ℕ)
    (content : Option (List ℕ))
  where
    pub run-sent : (request : Request) (reply : ReplyValue) (later : List ReplyValue)
        → act_of terms past t ≡ send request
        → page_from (suc n) terms ending past t content (reply ∷ later)
        ≡ page_from n terms ending (past ++ heard t request (Reply reply) ∷ []) t content later
    unfolding page_from page_hears
    run-sent request reply later is = next-sent _ _ _ _ (act_of terms past t) request is

    pub run-waited : (moment : ℕ) (replies : List ReplyValue)
        → act_of terms past t ≡ wait_until moment
        → page_from (suc n) terms ending past t content replies
        ≡ page_from n terms ending past moment content replies
    unfolding page_from
    run-waited moment replies is = next-waited _ _ _ _ (act_of terms past t) moment is

    pub run-ran : (body : Option (List ℕ)) (first : Bool) (replies : List ReplyValue)
        → act_of terms past t ≡ run body first
        → page_from (suc n) terms ending past t content replies
        ≡ page_from n terms ending (past ++ ended ending ∷ []) t body replies
    unfolding page_from
    run-ran body first replies is = next-ran _ _ _ _ (act_of terms past t) body first is

    pub run-over : (outcome : Outcome) (replies : List ReplyValue)
        → act_of terms past t ≡ over outcome
        → page_from (suc n) terms ending past t content replies
        ≡ record { past = past; end = came_to outcome content; left = replies }
    unfolding page_from
    run-over outcome replies is = next-over _ _ _ _ (act_of terms past t) outcome is

-- ---- without a reply nothing more is asked

by_act : (n : ℕ) (terms : VisitTerms) (ending : Ending) (past : List Event) (t : ℕ)
    (content : Option (List ℕ)) (j : ℕ)
    → ((past' : List Event) (t' : ℕ) (content' : Option (List ℕ))
    → asked j (page_from n terms ending past' t' content' []).past ≡ asked j past')
    → (action : Action) → act_of terms past t ≡ action
    → asked j (page_from (suc n) terms ending past t content []).past ≡ asked j past
unfolding page_from page_hears
by_act n terms ending past t content j again (send request) is =
    ap (λ (r : PageRun). asked j r.past) (next-sent _ _ _ _ (act_of terms past t) request is)
by_act n terms ending past t content j again (wait_until moment) is =
    ap (λ (r : PageRun). asked j r.past) (run-waited n terms ending past t content moment [] is)
    ∙ again past moment content
by_act n terms ending past t content j again (run body first) is =
    ap (λ (r : PageRun). asked j r.past) (run-ran n terms ending past t content body first [] is)
    ∙ again (past ++ ended ending ∷ []) t body
    ∙ asked-append j past (ended ending ∷ [])
    ∙ append-nil (asked j past)
by_act n terms ending past t content j again (over outcome) is =
    ap (λ (r : PageRun). asked j r.past) (run-over n terms ending past t content outcome [] is)

pub nothing-more : (n : ℕ) (terms : VisitTerms) (ending : Ending) (past : List Event) (t : ℕ)
    (content : Option (List ℕ)) (j : ℕ)
    → asked j (page_from n terms ending past t content []).past ≡ asked j past
unfolding page_from
nothing-more zero terms ending past t content j = refl
nothing-more (suc n) terms ending past t content j =
    by_act n terms ending past t content j
    (λ past' t' content'. nothing-more n terms ending past' t' content' j) (act_of terms past t)
    refl

-- and what is added is lawful

lawful-act : (n : ℕ) (terms : VisitTerms) (ending : Ending) (past : List Event) (t : ℕ)
    (content : Option (List ℕ)) → EndingFits ending → IsLawful terms past
    → ((past' : List Event) (t' : ℕ) (content' : Option (List ℕ)) → IsLawful terms past'
    → IsLawful terms (page_from n terms ending past' t' content' []).past)
    → (action : Action) → act_of terms past t ≡ action
    → IsLawful terms (page_from (suc n) terms ending past t content []).past
unfolding page_from page_hears
lawful-act n terms ending past t content fits lawful again (send request) is =
    subst (λ (r : PageRun). IsLawful terms r.past)
    (sym (next-sent _ _ _ _ (act_of terms past t) request is)) lawful
lawful-act n terms ending past t content fits lawful again (wait_until moment) is =
    subst (λ (r : PageRun). IsLawful terms r.past)
    (sym (run-waited n terms ending past t content moment [] is)) (again past moment content lawful)
lawful-act n terms ending past t content fits lawful again (run body first) is =
    subst (λ (r : PageRun). IsLawful terms r.past)
    (sym (run-ran n terms ending past t content body first [] is))
    (again (past ++ ended ending ∷ []) t body
    (lawful-ended terms past t ending lawful (subst IsToRun (sym is) tt) fits))
lawful-act n terms ending past t content fits lawful again (over outcome) is =
    subst (λ (r : PageRun). IsLawful terms r.past)
    (sym (run-over n terms ending past t content outcome [] is)) lawful

pub lawful-more : (n : ℕ) (terms : VisitTerms) (ending : Ending) (past : List Event) (t : ℕ)
    (content : Option (List ℕ)) → EndingFits ending → IsLawful terms past
    → IsLawful terms (page_from n terms ending past t content []).past
unfolding page_from
lawful-more zero terms ending past t content fits lawful = lawful
lawful-more (suc n) terms ending past t content fits lawful =
    lawful-act n terms ending past t content fits lawful
    (λ past' t' content' lawful'. lawful-more n terms ending past' t' content' fits lawful')
    (act_of terms past t) refl
