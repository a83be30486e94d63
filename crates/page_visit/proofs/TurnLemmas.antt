-- Each way in which an act of a page can go.
use Rattle.std.proofs.Common.{◌≡◌, ℕ, suc, ◌+◌, ◌-◌, ◌*◌, ◌^◌, ◌<◌, ◌≤◌, Bool, true, false, List, [], ◌∷◌, ◌++◌, Option, Some, None, refl, sym, ap, ◌∙◌, subst, arith, append-nil, append_assoc}
use Rattle.std.specs.Prelude.{IfSome, IsSome}
use Rattle.asp_messages.specs.declared.request.Request.{Request}
use Rattle.asp_messages.specs.declared.reply.Reply.{Reply as ReplyValue}
use Rattle.plain_desk.specs.DeskStands.{DeskState}
use Rattle.visit_core.specs.declared.act.Ending.{Ending}
use Rattle.visit_core.specs.declared.act.Heard.TheVariants.{Reply}
use Rattle.visit_core.specs.declared.outcome.Outcome.{Outcome}
use Rattle.visit_core.specs.Acts.{Action, send, wait_until, run, over}
use Rattle.visit_core.specs.VisitRule.{Event, heard, ended, act_of, has_ended, IsLawful}
use Rattle.visit_core.specs.Stages.{VisitState, HasPast, steps_left}
use Rattle.visit_core.specs.Terms.{VisitTerms, EndingFits, kept_ending, most_requests}
use Rattle.page_visit.specs.declared.open_page.OpenPage.{OpenPage}
use Rattle.page_visit.specs.Asked.{DeskDoes, asked, replies_of}
use Rattle.page_visit.specs.Runs.{PageRun, page_from, page_run}
use Rattle.page_visit.specs.Underway.{PageStart, Underway, PageGoesOn, PageMayAct, PageComesTo, PageIsCut}
use Rattle.page_visit.proofs.AskedLemmas.{replies_of-append, DeskDoes-nothing, DeskDoes-then}
use Rattle.visit_core.proofs.EventLemmas.{latest_answer-append, waits-within}
use Rattle.page_visit.proofs.RuleLemmas.{has_ended-ended, has_ended-heard}
use Rattle.page_visit.proofs.RunLemmas.{lawful-more, nothing-more, run-over, run-ran, run-sent, run-waited}

-- ---- where a page stands

kept-left : (b : Bool) (page : Ending) (kept : Option Ending) → kept ≡ kept_ending b page
    → b ≡ false → IsSome kept
kept-left true page kept is e = absurd cc
kept-left false page kept is e = subst IsSome (sym is) refl

kept-fits : (b : Bool) (page : Ending) → EndingFits page → IfSome (kept_ending b page) EndingFits
kept-fits true page fits = tt
kept-fits false page fits = fits

pub kept-is : (b : Bool) (page ending : Ending) → Some ending ≡ kept_ending b page → page ≡ ending
kept-is true page ending e = absurd cc
kept-is false page ending e = cc

pub may_turn : (CanCount : ℕ → Type 0) (start : PageStart) (acts : ℕ) (page : OpenPage)
    (desk : DeskState) → Underway CanCount start acts page desk → EndingFits start.ending
    → start.terms.limits.poll_ms ≤ 500 → PageMayAct page
may_turn CanCount start acts page desk run_so fits poll = record {
  past = run_so.past;
  stands = run_so.stands;
  poll = let same = ap (λ (t : VisitTerms). t.limits.poll_ms) run_so.terms in omega (arith, same, poll);
  early = run_so.early;
  left = λ e. kept-left (has_ended run_so.past) start.ending page.ending run_so.kept e;
  fits = subst (λ k. IfSome k EndingFits) (sym run_so.kept)
      (kept-fits (has_ended run_so.past) start.ending fits);
}

-- the page as it begins
pub begun : (CanCount : ℕ → Type 0) (start : PageStart) (page : OpenPage)
    → HasPast page.visit [] → page.visit.terms ≡ start.terms
    → ((t : ℕ) → steps_left page.visit t ≤ most_requests start.terms.limits)
    → page.ending ≡ Some start.ending → page.content ≡ None → page.moment ≡ start.moment
    → start.moment + 500 * most_requests start.terms.limits ≤ 2 ^ 62
    → Underway CanCount start 0 page start.desk
begun CanCount start page stands terms steps ending content moment early = record {
  past = [];
  stands = stands;
  terms = terms;
  steps = let le = steps page.moment in omega (arith, le);
  follows = λ n more.
      let e : 0 + n ≡ n = omega arith in
      ap (λ k. page_from k start.terms start.ending [] start.moment None more) e
      ∙ ap (λ t. page_from n start.terms start.ending [] t None more) (sym moment)
      ∙ ap (λ c. page_from n start.terms start.ending [] page.moment c more) (sym content);
  desk_did = DeskDoes-nothing CanCount start.desk [] (λ j. refl);
  kept = ending;
  late = let le = steps page.moment in omega (arith, le, early);
  early = let le = steps page.moment in omega (arith, le, moment, early);
}

-- ---- an act after which the page goes on

module _ (CanCount : ℕ → Type 0) (page : OpenPage) (desk : DeskState) (visit' : VisitState)
  where
    -- what the visit does by the terms with which it began
    by_terms : (start : PageStart) (acts : ℕ) (action : Action)
        (run_so : Underway CanCount start acts page desk)
        → ((past : List Event) → HasPast page.visit past
        → action ≡ act_of page.visit.terms past page.moment)
        → act_of start.terms run_so.past page.moment ≡ action
    by_terms start acts action run_so acts_so =
        ap (λ (terms : VisitTerms). act_of terms run_so.past page.moment) (sym run_so.terms)
        ∙ sym (acts_so run_so.past run_so.stands)

    more-acts : (acts n : ℕ) → acts + 1 + n ≡ acts + suc n
    more-acts acts n = omega arith

    pub went-waited : (moment : ℕ) → page.visit.terms.limits.poll_ms ≤ 500
        → ((past : List Event) → HasPast page.visit past
        → wait_until moment ≡ act_of page.visit.terms past page.moment)
        → steps_left page.visit moment < steps_left page.visit page.moment
        → PageGoesOn CanCount page desk (record page { moment = moment }) desk
    went-waited moment poll acts_so fewer start acts run_so =
        let is = by_terms start acts (wait_until moment) run_so acts_so in
        let same = ap (λ (t : VisitTerms). t.limits.poll_ms) run_so.terms in
        let within = waits-within start.terms run_so.past page.moment moment is in
        let steps = run_so.steps in
        let early = run_so.early in
        let late = run_so.late in
        record {
          past = run_so.past;
          stands = run_so.stands;
          terms = run_so.terms;
          steps = omega (arith, steps, fewer);
          follows = λ n more.
              ap (λ k. page_from k start.terms start.ending [] start.moment None
              (replies_of run_so.past ++ more)) (more-acts acts n)
              ∙ run_so.follows (suc n) more
              ∙ run-waited n start.terms start.ending run_so.past page.moment page.content moment more
              is;
          desk_did = run_so.desk_did;
          kept = run_so.kept;
          late = omega (arith, late, fewer);
          early = omega (arith, late, within, fewer, same, poll);
        }

    pub went-ran : (content : Option (List ℕ)) (first : Bool) (ending : Ending)
        → page.ending ≡ Some ending → visit'.terms ≡ page.visit.terms
        → ((past : List Event) → HasPast page.visit past
        → HasPast visit' (past ++ ended ending ∷ []))
        → ((t u : ℕ) → steps_left visit' u < steps_left page.visit t)
        → ((past : List Event) → HasPast page.visit past
        → run content first ≡ act_of page.visit.terms past page.moment)
        → PageGoesOn CanCount page desk (record page {
          visit = visit';
          ending = None;
          content = content;
        }) desk
    went-ran content first ending told terms past fewer acts_so start acts run_so =
        let is = by_terms start acts (run content first) run_so acts_so in
        let same = kept-is (has_ended run_so.past) start.ending ending (sym told ∙ run_so.kept) in
        let behind = run_so.past ++ ended start.ending ∷ [] in
        let steps = run_so.steps in
        let one = fewer page.moment page.moment in
        let early = run_so.early in
        let late = run_so.late in
        record {
          past = behind;
          stands = subst (λ e. HasPast visit' (run_so.past ++ ended e ∷ [])) (sym same)
              (past run_so.past run_so.stands);
          terms = terms ∙ run_so.terms;
          steps = omega (arith, steps, one);
          follows = λ n more.
              ap (λ k. page_from k start.terms start.ending [] start.moment None
              (replies_of behind ++ more)) (more-acts acts n)
              ∙ ap (λ r. page_from (acts + suc n) start.terms start.ending [] start.moment None
              (r ++ more)) (replies_of-append run_so.past (ended start.ending ∷ [])
              ∙ append-nil (replies_of run_so.past))
              ∙ run_so.follows (suc n) more
              ∙ run-ran n start.terms start.ending run_so.past page.moment page.content content
              first more is;
          desk_did = DeskDoes-then CanCount start.desk desk desk run_so.past (ended start.ending ∷ [])
              run_so.desk_did
              (DeskDoes-nothing CanCount desk (ended start.ending ∷ []) (λ j. refl));
          kept = ap (λ b. kept_ending b start.ending)
              (sym (has_ended-ended run_so.past start.ending));
          late =
              let parts = latest_answer-append run_so.past (ended start.ending ∷ []) in
              omega (arith, late, parts, one);
          early = omega (arith, early, one);
        }

    pub went-sent : (desk' : DeskState) (request : Request) (reply : ReplyValue)
        → visit'.terms ≡ page.visit.terms
        → ((past : List Event) → HasPast page.visit past
        → HasPast visit' (past ++ heard page.moment request (Reply reply) ∷ []))
        → ((u : ℕ) → steps_left visit' u < steps_left page.visit page.moment)
        → ((past : List Event) → HasPast page.visit past
        → send request ≡ act_of page.visit.terms past page.moment)
        → DeskDoes CanCount desk desk' (heard page.moment request (Reply reply) ∷ [])
        → PageGoesOn CanCount page desk (record page { visit = visit' }) desk'
    went-sent desk' request reply terms past fewer acts_so does start acts run_so =
        let is = by_terms start acts (send request) run_so acts_so in
        let event = heard page.moment request (Reply reply) in
        let behind = run_so.past ++ event ∷ [] in
        let steps = run_so.steps in
        let one = fewer page.moment in
        let early = run_so.early in
        let late = run_so.late in
        record {
          past = behind;
          stands = past run_so.past run_so.stands;
          terms = terms ∙ run_so.terms;
          steps = omega (arith, steps, one);
          follows = λ n more.
              ap (λ k. page_from k start.terms start.ending [] start.moment None
              (replies_of behind ++ more)) (more-acts acts n)
              ∙ ap (λ r. page_from (acts + suc n) start.terms start.ending [] start.moment None r)
              (ap (λ r. r ++ more) (replies_of-append run_so.past (event ∷ []))
              ∙ append_assoc (replies_of run_so.past) (reply ∷ []) more)
              ∙ run_so.follows (suc n) (reply ∷ more)
              ∙ run-sent n start.terms start.ending run_so.past page.moment page.content request
              reply more is;
          desk_did = DeskDoes-then CanCount start.desk desk desk' run_so.past (event ∷ [])
              run_so.desk_did does;
          kept = run_so.kept
              ∙ ap (λ b. kept_ending b start.ending)
              (sym (has_ended-heard run_so.past page.moment request (Reply reply)));
          late = let parts = latest_answer-append run_so.past (event ∷ []) in
              omega (arith, late, early, parts, one);
          early = omega (arith, early, one);
        }

-- ---- the end of a page

module _ (CanCount : ℕ → Type 0) (start : PageStart) (acts : ℕ) (page : OpenPage) (desk : DeskState)
    (run_so : Underway CanCount start acts page desk)
  where
    whole : (n : ℕ) → acts + suc n ≡ suc (most_requests start.terms.limits) → (more : List ReplyValue)
        → page_run start.terms start.ending start.moment (replies_of run_so.past ++ more)
        ≡ page_from (suc n) start.terms start.ending run_so.past page.moment page.content more
    whole n is more =
        ap (λ k. page_from k start.terms start.ending [] start.moment None
        (replies_of run_so.past ++ more)) (sym is)
        ∙ run_so.follows (suc n) more

    enough : acts + suc (most_requests start.terms.limits - acts) ≡ suc (most_requests start.terms.limits)
    enough = let steps = run_so.steps in omega (arith, steps)

    lawful-now : IsLawful start.terms run_so.past
    lawful-now = subst (λ (terms : VisitTerms). IsLawful terms run_so.past) run_so.terms
        run_so.stands.lawful

    pub came : (outcome : Outcome)
        → ((past : List Event) → HasPast page.visit past
        → act_of page.visit.terms past page.moment ≡ over outcome)
        → PageComesTo CanCount start desk outcome page.content
    came outcome acts_so = record {
      past = run_so.past;
      run_is = λ more.
          whole (most_requests start.terms.limits - acts) enough more
          ∙ run-over (most_requests start.terms.limits - acts) start.terms start.ending run_so.past page.moment
          page.content outcome more
          (ap (λ (terms : VisitTerms). act_of terms run_so.past page.moment) (sym run_so.terms)
          ∙ acts_so run_so.past run_so.stands);
      lawful = lawful-now;
      desk_did = run_so.desk_did;
    }

    pub was-cut : EndingFits start.ending → PageIsCut CanCount start desk
    was-cut fits = record {
      past = run_so.past;
      asks = λ j.
          ap (λ r. asked j (page_run start.terms start.ending start.moment r).past)
          (sym (append-nil (replies_of run_so.past)))
          ∙ ap (λ (r : PageRun). asked j r.past)
          (whole (most_requests start.terms.limits - acts) enough [])
          ∙ nothing-more (suc (most_requests start.terms.limits - acts)) start.terms start.ending run_so.past
          page.moment page.content j;
      lawful =
          subst (λ r. IsLawful start.terms (page_run start.terms start.ending start.moment r).past)
          (append-nil (replies_of run_so.past))
          (subst (λ (r : PageRun). IsLawful start.terms r.past)
          (sym (whole (most_requests start.terms.limits - acts) enough []))
          (lawful-more (suc (most_requests start.terms.limits - acts)) start.terms start.ending run_so.past
          page.moment page.content fits lawful-now));
      desk_did = run_so.desk_did;
    }
