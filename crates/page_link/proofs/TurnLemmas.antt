-- Each way in which a turn can go.
use Rattle.std.proofs.Common.{◌≡◌, ℕ, ◌<◌, List, [], ◌∷◌, ◌++◌, Option, None, Some, Bool, true, false, refl, sym, ap, ◌∙◌, subst, arith, append-nil}
use Rattle.std.specs.Prelude.{◌||◌, IsSome, IfSome}
use Rattle.std.proofs.lemmas.List.Concat.{flat_map-cons}
use Rattle.std.proofs.lemmas.List.{reverse-append}
use Rattle.asp_base.specs.Moments.{GivesMoment}
use Rattle.asp_messages.specs.declared.request.Request.{Request}
use Rattle.asp_messages.specs.ReplySpelling.{StreamAnswer, SpellsReply, reply, strange}
use Rattle.asp_messages.specs.RequestText.{request_text}
use Rattle.asp_messages.specs.Stream.{Spelled}
use Rattle.asp_messages.proofs.StreamLemmas.{Spelled-push, Spelled-append}
use Rattle.asp_messages.proofs.ReplyLemmas.{spelled_reply-fits}
use Rattle.visit_core.specs.declared.act.Ending.{Ending}
use Rattle.visit_core.specs.declared.act.Heard.{Heard}
use Rattle.visit_core.specs.declared.outcome.Outcome.{Outcome}
use Rattle.visit_core.specs.declared.outcome.Outcome.TheVariants.{Done, LostLocked, LostMissing, GaveUp, LinkFault, Refused}
use Rattle.visit_core.specs.Acts.{Action, send, wait_until, over, IsToRun}
use Rattle.visit_core.specs.VisitRule.{Event, heard, ended, lost, act_of, act_after, after_loss, has_ended}
use Rattle.visit_core.specs.Stages.{VisitState, HasPast, steps_left}
use Rattle.visit_core.specs.Terms.{VisitTerms, EndingFits, HeardFits, kept_ending}
use Rattle.page_link.specs.declared.exchange.Break.TheVariants as breaks
use Rattle.page_link.specs.declared.visit_end.VisitEnd.TheVariants as ends
use Rattle.page_link.specs.Exchanges.{VisitIsUnderway, MayTurn, Asks, AsksInVain}
use Rattle.page_link.specs.Links.{Exchanges, KeepsPauses}
use Rattle.page_link.specs.VisitTurns.{VisitTurn, asked, paused, ran, heard_of, events_of, past_of, texts_of, answers_of, has_lost}
use Rattle.page_link.specs.Visits.{Scene, IsNew, IsVisit, SentOver, loss_of_outcome}
use Rattle.page_link.proofs.LinkLemmas.{Exchanges-nil, KeepsPauses-nil, KeepsPauses-same}
use Rattle.visit_core.proofs.EventLemmas.{has_ended-append}
use Rattle.page_link.proofs.RuleLemmas.{has_lost-append}
use Rattle.page_link.proofs.VisitLemmas.{goes_on, ends_so, GaveMoments-nil}

-- ---- what is heard

heard-fits : (front : List ℕ) (answer : StreamAnswer) → SpellsReply front answer
    → HeardFits (heard_of answer)
heard-fits front (reply r) spells = spelled_reply-fits front r spells
heard-fits front (strange status) spells = tt

pub asks-fits : (link link' : Option (List ℕ × List ℕ)) (text old new : List ℕ) (h : Heard)
    → Asks link link' text old new h → HeardFits h
asks-fits link link' text old new h (received, exchanged, answered) =
    subst HeardFits (sym answered.heard_is)
    (heard-fits answered.front answered.answer answered.spells)

-- ---- where the visit stands between two turns

kept-left : (b : Bool) (page : Ending) (kept : Option Ending) → kept ≡ kept_ending b page
    → b ≡ false → IsSome kept
kept-left true page kept is e = absurd cc
kept-left false page kept is e = subst IsSome (sym is) refl

kept-fits : (b : Bool) (page : Ending) → EndingFits page → IfSome (kept_ending b page) EndingFits
kept-fits true page fits = tt
kept-fits false page fits = fits

kept-is : (b : Bool) (page ending : Ending) → Some ending ≡ kept_ending b page → page ≡ ending
kept-is true page ending e = absurd cc
kept-is false page ending e = cc

no_loss-turn : (ending : Ending) (turn : VisitTurn) → has_lost (events_of ending turn) ≡ false
no_loss-turn ending (asked t request answer) = refl
no_loss-turn ending (paused t until) = refl
no_loss-turn ending (ran t) = refl

no_loss : (ending : Ending) (turns : List VisitTurn) → has_lost (past_of ending turns) ≡ false
no_loss ending [] = refl
no_loss ending (turn ∷ turns) =
    ap has_lost (flat_map-cons (events_of ending) turn turns)
    ∙ has_lost-append (events_of ending turn) (past_of ending turns)
    ∙ ap (λ b. b || has_lost (past_of ending turns)) (no_loss-turn ending turn)
    ∙ no_loss ending turns

pub may_turn : (page : Ending) (before now : Scene) (kept : Option Ending) (held : List ℕ)
    → VisitIsUnderway page before now kept held → EndingFits page → MayTurn now.visit kept
may_turn page before now kept held run fits = record {
  past = past_of page run.turns;
  stands = run.past;
  linked = no_loss page run.turns;
  left = λ e. kept-left (has_ended (past_of page run.turns)) page kept run.kept_is e;
  fits = subst (λ k. IfSome k EndingFits) (sym run.kept_is)
      (kept-fits (has_ended (past_of page run.turns)) page fits);
}

-- ---- a turn after which the visit goes on

module _ (page : Ending) (before : Scene) (visit visit' : VisitState)
    (link link' : Option (List ℕ × List ℕ)) (pauses pauses' : Option (List ℕ × ℕ))
    (clock clock' : Option (ℕ → ℕ)) (kept kept' : Option Ending) (held held' : List ℕ) (t : ℕ)
    (run : VisitIsUnderway page before
    (record { visit = visit; link = link; pauses = pauses; clock = clock }) kept held)
    (moment : GivesMoment clock clock' t)
  where
    nothing_more : Spelled SpellsReply (run.received ++ []) (answers_of run.turns ++ []) held
    nothing_more =
        subst (λ r. Spelled SpellsReply r (answers_of run.turns ++ []) held)
        (sym (append-nil run.received))
        (subst (λ a. Spelled SpellsReply run.received a held)
        (sym (append-nil (answers_of run.turns))) run.answers)

    -- what the visit does by the terms with which it began
    by_rule : (action : Action)
        → ((past : List Event) → HasPast visit past → action ≡ act_of visit.terms past t)
        → act_of before.visit.terms (past_of page run.turns) t ≡ action
    by_rule action acts =
        ap (λ (terms : VisitTerms). act_of terms (past_of page run.turns) t) (sym run.terms)
        ∙ sym (acts (past_of page run.turns) run.past)

    pub went-paused : (until : ℕ) → link' ≡ link → KeepsPauses pauses pauses' (until ∷ [])
        → ((past : List Event) → HasPast visit past → wait_until until ≡ act_of visit.terms past t)
        → VisitIsUnderway page before
        (record { visit = visit; link = link'; pauses = pauses'; clock = clock' }) kept held
    went-paused until same keeps acts =
        goes_on page before (record { visit = visit; link = link; pauses = pauses; clock = clock })
        (record {
          visit = visit;
          link = link';
          pauses = pauses';
          clock = clock';
        }) kept kept held held
        run
        (paused t until) (record {
          terms = refl;
          past = subst (HasPast visit) (sym (append-nil (past_of page run.turns))) run.past;
          follows = by_rule (wait_until until) acts;
          moment = moment;
          received = [];
          exchanged = subst (λ l. Exchanges link l [] []) (sym same) (Exchanges-nil link);
          pauses = keeps;
          answers = nothing_more;
          steps = λ u. (u, omega arith);
          kept_is = run.kept_is
              ∙ ap (λ p. kept_ending (has_ended p) page)
              (sym (append-nil (past_of page run.turns)));
        })

    or-true : (b : Bool) → (b || true) ≡ true
    or-true true = refl
    or-true false = refl

    pub went-ran : (ending : Ending) → Some ending ≡ kept → visit'.terms ≡ visit.terms
        → ((past : List Event) → HasPast visit past → HasPast visit' (past ++ ended ending ∷ []))
        → ((u w : ℕ) → steps_left visit' w < steps_left visit u)
        → ((past : List Event) → HasPast visit past → IsToRun (act_of visit.terms past t))
        → VisitIsUnderway page before
        (record { visit = visit'; link = link; pauses = pauses; clock = clock' }) None held
    went-ran ending told terms past steps runs =
        let same = kept-is (has_ended (past_of page run.turns)) page ending (told ∙ run.kept_is) in
        goes_on page before (record { visit = visit; link = link; pauses = pauses; clock = clock })
        (record {
          visit = visit';
          link = link;
          pauses = pauses;
          clock = clock';
        }) kept None held held
        run (ran t)
        (record {
          terms = terms;
          past = subst (λ e. HasPast visit' (past_of page run.turns ++ ended e ∷ [])) (sym same)
              (past (past_of page run.turns) run.past);
          follows =
              subst (λ (terms : VisitTerms). IsToRun
              (act_of terms (past_of page run.turns) t)) run.terms
              (runs (past_of page run.turns) run.past);
          moment = moment;
          received = [];
          exchanged = Exchanges-nil link;
          pauses = KeepsPauses-nil pauses;
          answers = nothing_more;
          steps = λ u. (0, omega (arith, steps 0 u));
          kept_is =
              ap (λ b. kept_ending b page)
              (sym (has_ended-append (past_of page run.turns) (ended page ∷ [])
              ∙ or-true (has_ended (past_of page run.turns))));
        })

    or-false : (b : Bool) → (b || false) ≡ b
    or-false true = refl
    or-false false = refl

    pub went-asked : (request : Request) (h : Heard)
        → Asks link link' (request_text request) held held' h → pauses' ≡ pauses
        → visit'.terms ≡ visit.terms
        → ((past : List Event) → HasPast visit past
        → HasPast visit' (past ++ heard t request h ∷ []))
        → ((w : ℕ) → steps_left visit' w < steps_left visit t)
        → ((past : List Event) → HasPast visit past → send request ≡ act_of visit.terms past t)
        → VisitIsUnderway page before
        (record { visit = visit'; link = link'; pauses = pauses'; clock = clock' }) kept held'
    went-asked request h (received, exchanged, answered) still terms past steps acts =
        let bytes : List ℕ = run.received ++ received in
        let behind = Spelled-append SpellsReply run.received (answers_of run.turns) held received
        run.answers in
        let parts = subst (λ l. Spelled SpellsReply bytes (answers_of run.turns) l) answered.bytes
        behind in
        goes_on page before (record { visit = visit; link = link; pauses = pauses; clock = clock })
        (record { visit = visit'; link = link'; pauses = pauses'; clock = clock' }) kept kept held
        held' run
        (asked t request answered.answer) (record {
          terms = terms;
          past = subst (λ e. HasPast visit' (past_of page run.turns ++ heard t request e ∷ []))
              answered.heard_is (past (past_of page run.turns) run.past);
          follows = by_rule (send request) acts;
          moment = moment;
          received = received;
          exchanged = exchanged;
          pauses = KeepsPauses-same pauses pauses' still;
          answers = Spelled-push SpellsReply bytes (answers_of run.turns) answered.front held'
              answered.answer parts answered.spells;
          steps = λ w. (t, omega (arith, steps w));
          kept_is = run.kept_is
              ∙ ap (λ b. kept_ending b page)
              (sym (has_ended-append (past_of page run.turns)
              (heard t request (heard_of answered.answer) ∷ [])
              ∙ or-false (has_ended (past_of page run.turns))));
        })

-- ---- the turn that ends the visit

no_loss-over : (outcome : Outcome) → (outcome ≡ LinkFault → ⊥) → loss_of_outcome outcome ≡ []
no_loss-over Done sound = refl
no_loss-over (LostLocked cookie age) sound = refl
no_loss-over LostMissing sound = refl
no_loss-over (GaveUp cookie age) sound = refl
no_loss-over LinkFault sound = absurd (sound refl)
no_loss-over (Refused status) sound = refl

sent-over : (outcome : Outcome) (action : Action) (texts sent : List ℕ) → (outcome ≡ LinkFault → ⊥)
    → sent ≡ texts → SentOver outcome action texts sent
sent-over Done action texts sent sound same = same
sent-over (LostLocked cookie age) action texts sent sound same = same
sent-over LostMissing action texts sent sound same = same
sent-over (GaveUp cookie age) action texts sent sound same = same
sent-over LinkFault action texts sent sound same = absurd (sound refl)
sent-over (Refused status) action texts sent sound same = same

lost-acts : (terms : VisitTerms) (past : List Event) (t : ℕ) (request : Request)
    → act_of terms past t ≡ send request → act_of terms (past ++ lost ∷ []) t ≡ over LinkFault
lost-acts terms past t request acts =
    ap (λ (p : List Event). act_after terms p t) (reverse-append past (lost ∷ []))
    ∙ ap after_loss acts

module _ (page : Ending) (before : Scene) (visit visit' : VisitState)
    (link link' : Option (List ℕ × List ℕ)) (pauses pauses' : Option (List ℕ × ℕ))
    (clock clock' : Option (ℕ → ℕ)) (kept : Option Ending) (held : List ℕ) (t : ℕ)
    (run : VisitIsUnderway page before
    (record { visit = visit; link = link; pauses = pauses; clock = clock }) kept held)
    (still : pauses' ≡ pauses)
    (moment : GivesMoment clock clock' t)
  where
    -- what the visit does by the terms with which it began
    by_terms : (action : Action) → ((past : List Event) → HasPast visit past
        → action ≡ act_of visit.terms past t)
        → act_of before.visit.terms (past_of page run.turns) t ≡ action
    by_terms action acts =
        ap (λ (terms : VisitTerms). act_of terms (past_of page run.turns) t) (sym run.terms)
        ∙ sym (acts (past_of page run.turns) run.past)

    pub ended-over : (outcome : Outcome) → (outcome ≡ LinkFault → ⊥)
        → ((past : List Event) → HasPast visit past → over outcome ≡ act_of visit.terms past t)
        → IsVisit page before
        (record {
          visit = visit;
          link = link;
          pauses = pauses';
          clock = clock';
        }) (ends.Over outcome)
    ended-over outcome sound acts =
        let behind : past_of page run.turns ≡ past_of page run.turns ++ loss_of_outcome outcome =
        sym (ap (λ l. past_of page run.turns ++ l) (no_loss-over outcome sound)
        ∙ append-nil (past_of page run.turns)) in
        ends_so page before (record { visit = visit; link = link; pauses = pauses; clock = clock })
        (record { visit = visit; link = link; pauses = pauses'; clock = clock' }) kept held run
        (ends.Over outcome) (record {
          last = t;
          part = [];
          received = [];
          terms = refl;
          past = subst (HasPast visit) behind run.past;
          moment = moment;
          exchanged = Exchanges-nil link;
          pauses = still;
          bad = λ e. absurd cc;
          sent_as = sent-over outcome _ (texts_of run.turns) (texts_of run.turns ++ []) sound
              (append-nil (texts_of run.turns));
          over_is = subst (λ p. act_of before.visit.terms p t ≡ over outcome) behind
              (by_terms (over outcome) acts);
        })

    pub ended-lost : (request : Request)
        → AsksInVain link link' (request_text request) held breaks.LinkFault
        → ((past : List Event) → HasPast visit past → send request ≡ act_of visit.terms past t)
        → visit'.terms ≡ visit.terms → ((past : List Event) → HasPast visit past
        → HasPast visit' (past ++ lost ∷ []))
        → IsVisit page before
        (record {
          visit = visit';
          link = link';
          pauses = pauses';
          clock = clock';
        }) (ends.Over LinkFault)
    ended-lost request (part, received, front, exchanged, none) acts terms past =
        ends_so page before (record { visit = visit; link = link; pauses = pauses; clock = clock })
        (record { visit = visit'; link = link'; pauses = pauses'; clock = clock' }) kept held run
        (ends.Over LinkFault) (record {
          last = t;
          part = part;
          received = received;
          terms = terms;
          past = past (past_of page run.turns) run.past;
          moment = moment;
          exchanged = exchanged;
          pauses = still;
          bad = λ e. absurd cc;
          sent_as = (request, by_terms (send request) acts, (part, front, refl));
          over_is = lost-acts before.visit.terms (past_of page run.turns) t request
              (by_terms (send request) acts);
        })

    as_it_is : HasPast visit (past_of page run.turns ++ [])
    as_it_is = subst (HasPast visit) (sym (append-nil (past_of page run.turns))) run.past

    pub ended-bad : (request : Request)
        → AsksInVain link link' (request_text request) held breaks.BadReply
        → ((past : List Event) → HasPast visit past → send request ≡ act_of visit.terms past t)
        → IsVisit page before
        (record { visit = visit; link = link'; pauses = pauses'; clock = clock' }) ends.BadReply
    ended-bad request (part, received, whole, exchanged, bad) acts =
        ends_so page before (record { visit = visit; link = link; pauses = pauses; clock = clock })
        (record { visit = visit; link = link'; pauses = pauses'; clock = clock' }) kept held run
        ends.BadReply
        (record {
          last = t;
          part = part;
          received = received;
          terms = refl;
          past = as_it_is;
          moment = moment;
          exchanged = exchanged;
          pauses = still;
          bad = λ e. bad;
          sent_as = (request, by_terms (send request) acts, (part, whole, refl));
          over_is = tt;
        })

    pub ended-no_memory : (request : Request)
        → AsksInVain link link' (request_text request) held breaks.NoMemory
        → ((past : List Event) → HasPast visit past → send request ≡ act_of visit.terms past t)
        → IsVisit page before
        (record { visit = visit; link = link'; pauses = pauses'; clock = clock' }) ends.NoMemory
    ended-no_memory request (part, received, front, exchanged, none) acts =
        ends_so page before (record { visit = visit; link = link; pauses = pauses; clock = clock })
        (record { visit = visit; link = link'; pauses = pauses'; clock = clock' }) kept held run
        ends.NoMemory
        (record {
          last = t;
          part = part;
          received = received;
          terms = refl;
          past = as_it_is;
          moment = moment;
          exchanged = exchanged;
          pauses = still;
          bad = λ e. absurd cc;
          sent_as = (request, by_terms (send request) acts, (part, front, refl));
          over_is = tt;
        })

-- ---- before the first turn

pub not_begun : (page : Ending) (visit : VisitState) (link : Option (List ℕ × List ℕ))
    (pauses : Option (List ℕ × ℕ)) (clock : Option (ℕ → ℕ)) (held : List ℕ) → IsNew visit
    → held ≡ []
    → VisitIsUnderway page (record { visit = visit; link = link; pauses = pauses; clock = clock })
    (record { visit = visit; link = link; pauses = pauses; clock = clock }) (Some page) held
not_begun page visit link pauses clock held new none = record {
  turns = [];
  received = [];
  terms = refl;
  follow = tt;
  past = new.past;
  moments = GaveMoments-nil clock;
  exchanged = Exchanges-nil link;
  pauses = KeepsPauses-nil pauses;
  answers = sym none;
  steps = λ t. omega (arith, new.steps t);
  kept_is = refl;
}
