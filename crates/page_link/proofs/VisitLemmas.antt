-- A visit goes on by a turn, or comes to its end.
use Rattle.std.proofs.Common.{◌≡◌, ℕ, ◌+◌, ◌<◌, ◌≤◌, List, [], ◌∷◌, ◌++◌, length, map, Option, None, Some, refl, sym, ap, ◌∙◌, subst, inl, inr, arith, append_assoc, append-nil, length-append, below_more}
use Rattle.std.specs.Prelude.{reverse, slice_index}
use Rattle.std.specs.List.{flat_map}
use Rattle.std.proofs.lemmas.Grind.{flat_map-append}
use Rattle.std.proofs.lemmas.List.Concat.{flat_map-cons}
use Rattle.std.proofs.lemmas.List.{map-append, reverse-append, get_or_append_left}
use Rattle.std.proofs.Math.Seq.{get_or-append_seam}
use Rattle.asp_base.specs.Moments.{GivesMoment}
use Rattle.asp_messages.specs.ReplySpelling.{StreamAnswer, SpellsReply}
use Rattle.asp_messages.specs.Stream.{Spelled}
use Rattle.asp_messages.proofs.StreamLemmas.{Spelled-append, IsMessageStream-unique}
use Rattle.asp_messages.proofs.ReplyLemmas.{SpellsReply-unique}
use Rattle.visit_core.specs.declared.act.Ending.{Ending}
use Rattle.visit_core.specs.declared.outcome.Outcome.TheVariants.{LinkFault}
use Rattle.visit_core.specs.Acts.{over}
use Rattle.visit_core.specs.VisitRule.{Event, act_of, has_ended, IsLawful, EachFollows}
use Rattle.visit_core.specs.Stages.{HasPast, steps_left}
use Rattle.visit_core.specs.Terms.{VisitTerms, kept_ending, most_requests}
use Rattle.visit_core.proofs.ReleaseLemmas.{releases}
use Rattle.page_link.specs.declared.visit_end.VisitEnd.{VisitEnd}
use Rattle.page_link.specs.declared.visit_end.VisitEnd.TheVariants as ends
use Rattle.page_link.specs.Exchanges.{VisitIsUnderway}
use Rattle.page_link.specs.Links.{Exchanges, KeepsPauses}
use Rattle.page_link.specs.VisitTurns.{VisitTurn, moment_of, events_of, turn_text, answer_heard, pause_of, past_of, texts_of, answers_of, pauses_of, GaveMoments}
use Rattle.page_link.specs.Visits.{Scene, FollowsVisitRule, AllFollow, IsVisit, ForcesOldLocks, IsBadRest, AreAllReplies, SentAs, loss_of, IfVisitOver, TellsReplies, EndsWell}
use Rattle.page_link.proofs.LinkLemmas.{Exchanges-trans, KeepsPauses-trans}

-- ---- moments

pub GaveMoments-nil : (clock : Option (ℕ → ℕ)) → GaveMoments clock clock []
GaveMoments-nil None = tt
GaveMoments-nil (Some f) = (λ k h. absurd (omega arith), λ k. ap f (omega arith))

moment-more : (f : ℕ → ℕ) (moments : List ℕ) (t : ℕ)
    → ((k : ℕ) → k < length moments → slice_index moments k ≡ f k) → t ≡ f (length moments)
    → (k : ℕ) → k < length (moments ++ t ∷ []) → slice_index (moments ++ t ∷ []) k ≡ f k
moment-more f moments t each last k h =
    below_more (λ k. slice_index (moments ++ t ∷ []) k ≡ f k) (length moments)
    (λ k below. get_or_append_left moments (t ∷ []) 0 k below ∙ each k below)
    (get_or-append_seam moments t [] 0 ∙ last) k (omega (arith, h, length-append moments (t ∷ [])))

pub GaveMoments-push : (a b c : Option (ℕ → ℕ)) (moments : List ℕ) (t : ℕ) → GaveMoments a b moments
    → GivesMoment b c t → GaveMoments a c (moments ++ t ∷ [])
GaveMoments-push None None None moments t p q = tt
GaveMoments-push None None (Some z) moments t p q = absurd q
GaveMoments-push None (Some y) c moments t p q = absurd p
GaveMoments-push (Some x) None c moments t p q = absurd p
GaveMoments-push (Some x) (Some y) None moments t p q = absurd q
GaveMoments-push (Some x) (Some y) (Some z) moments t p q = (
  moment-more x moments t p.0 (q.0 ∙ p.1 0 ∙ ap x (omega arith)),
  λ k. q.1 k ∙ p.1 (k + 1) ∙ ap x (omega (arith, length-append moments (t ∷ []))),
)

-- ---- one turn more

flat_map-push : {A : Type 0} (f : VisitTurn → List A) (turns : List VisitTurn) (turn : VisitTurn)
    → flat_map f (turns ++ turn ∷ []) ≡ flat_map f turns ++ f turn
flat_map-push f turns turn = flat_map-append f turns (turn ∷ [])
    ∙ ap (λ l. flat_map f turns ++ l) (append-nil (f turn))

AllFollow-push : (terms : VisitTerms) (ending : Ending) (past : List Event) (turns : List VisitTurn)
    (turn : VisitTurn) → AllFollow terms ending past turns
    → FollowsVisitRule terms (past ++ past_of ending turns) turn
    → AllFollow terms ending past (turns ++ turn ∷ [])
AllFollow-push terms ending past [] turn all follows =
    (subst (λ p. FollowsVisitRule terms p turn) (append-nil past) follows, tt)
AllFollow-push terms ending past (x ∷ xs) turn all follows =
    let behind :
    past ++ past_of ending (x ∷ xs) ≡ (past ++ events_of ending x) ++ past_of ending xs =
    ap (λ l. past ++ l) (flat_map-cons (events_of ending) x xs)
    ∙ sym (append_assoc past (events_of ending x) (past_of ending xs)) in (
      all.0,
      AllFollow-push terms ending (past ++ events_of ending x) xs turn all.1
          (subst (λ p. FollowsVisitRule terms p turn) behind follows),
    )

-- what a turn does to a visit and its surroundings
pub record Goes (ending : Ending) (before now now' : Scene) (kept kept' : Option Ending)
    (held held' : List ℕ) (run : VisitIsUnderway ending before now kept held)
    (turn : VisitTurn) : Type 0
  where
    pub terms : now'.visit.terms ≡ now.visit.terms
    pub past : HasPast now'.visit (past_of ending run.turns ++ events_of ending turn)
    pub follows : FollowsVisitRule before.visit.terms (past_of ending run.turns) turn
    pub moment : GivesMoment now.clock now'.clock (moment_of turn)
    pub received : List ℕ
    pub exchanged : Exchanges now.link now'.link (turn_text turn) received
    pub pauses : KeepsPauses now.pauses now'.pauses (pause_of turn)
    pub answers : Spelled SpellsReply (run.received ++ received)
        (answers_of run.turns ++ answer_heard turn) held'
    pub steps : (t : ℕ) → (u : ℕ)
        × (length (answer_heard turn) + steps_left now'.visit t ≤ steps_left now.visit u)
    pub kept_is : kept'
        ≡ kept_ending (has_ended (past_of ending run.turns ++ events_of ending turn)) ending

pub goes_on : (ending : Ending) (before now now' : Scene) (kept kept' : Option Ending)
    (held held' : List ℕ) (run : VisitIsUnderway ending before now kept held) (turn : VisitTurn)
    → Goes ending before now now' kept kept' held held' run turn
    → VisitIsUnderway ending before now' kept' held'
goes_on ending before now now' kept kept' held held' run turn goes =
    let pasts = sym (flat_map-push (events_of ending) run.turns turn) in
    let texts = sym (flat_map-push turn_text run.turns turn) in
    let answers = sym (flat_map-push answer_heard run.turns turn) in
    let pauses = sym (flat_map-push pause_of run.turns turn) in
    record {
      turns = run.turns ++ turn ∷ [];
      received = run.received ++ goes.received;
      terms = goes.terms ∙ run.terms;
      follow = AllFollow-push before.visit.terms ending [] run.turns turn run.follow goes.follows;
      past = subst (HasPast now'.visit) pasts goes.past;
      moments = subst (GaveMoments before.clock now'.clock)
          (sym (map-append moment_of run.turns (turn ∷ [])))
          (GaveMoments-push before.clock now.clock now'.clock (map moment_of run.turns)
          (moment_of turn) run.moments goes.moment);
      exchanged = subst (λ s. Exchanges before.link now'.link s (run.received ++ goes.received))
          texts
          (Exchanges-trans before.link now.link now'.link (texts_of run.turns)
          (turn_text turn) run.received goes.received run.exchanged goes.exchanged);
      pauses = subst (KeepsPauses before.pauses now'.pauses) pauses
          (KeepsPauses-trans before.pauses now.pauses now'.pauses (pauses_of run.turns)
          (pause_of turn) run.pauses goes.pauses);
      answers = subst (λ l. Spelled SpellsReply (run.received ++ goes.received) l held') answers
          goes.answers;
      steps = λ t. let more = goes.steps t in
          let size : length (answers_of (run.turns ++ turn ∷ [])) ≡ length
          (answers_of run.turns) + length (answer_heard turn) = ap length (sym answers)
          ∙ length-append (answers_of run.turns) (answer_heard turn) in
          omega (arith, size, more.1, run.steps more.0);
      kept_is = goes.kept_is ∙ ap (λ p. kept_ending (has_ended p) ending) pasts;
    }

-- ---- the forced release

EachFollows-behind : (terms : VisitTerms) (xs ys : List Event) → EachFollows terms (xs ++ ys)
    → EachFollows terms ys
EachFollows-behind terms [] ys follows = follows
EachFollows-behind terms (x ∷ xs) ys follows = EachFollows-behind terms xs ys follows.1

forces : (terms : VisitTerms) (past : List Event) → IsLawful terms past → ForcesOldLocks terms past
forces terms past lawful earlier later t cookie is unended acts =
    let turned = ap reverse is ∙ reverse-append earlier later in
    let front = EachFollows-behind terms (reverse later) (reverse earlier)
    (subst (EachFollows terms) turned lawful) in
    releases terms earlier t cookie front unended acts

-- ---- the end

all-replies : (before after : Option (List ℕ × List ℕ)) (sent received rest : List ℕ)
    (answers : List StreamAnswer) → Exchanges before after sent received
    → Spelled SpellsReply received answers rest → IsBadRest after rest
    → AreAllReplies before answers
all-replies None after sent received rest answers p spelled bad = tt
all-replies (Some x) None sent received rest answers p spelled bad = absurd p
all-replies (Some x) (Some y) sent received rest answers p spelled (none, inl hopeless) = (
  rest ++ y.1,
  record {
    spelled = subst (λ l. Spelled SpellsReply l answers (rest ++ y.1)) (sym p.1)
        (Spelled-append SpellsReply received answers rest y.1 spelled);
    unfinished = hopeless y.1;
  },
)
all-replies (Some x) (Some y) sent received rest answers p spelled (none, inr ended) = (
  rest,
  record {
    spelled = subst (λ l. Spelled SpellsReply l answers rest)
        (sym (p.1 ∙ ap (λ l. received ++ l) ended ∙ append-nil received)) spelled;
    unfinished = none;
  },
)

-- what ends a visit at a turn
pub record Ends (ending : Ending) (before now after : Scene) (kept : Option Ending) (held : List ℕ)
    (run : VisitIsUnderway ending before now kept held) (end : VisitEnd) : Type 0 where
  pub last : ℕ
  pub part : List ℕ
  pub received : List ℕ
  pub terms : after.visit.terms ≡ now.visit.terms
  pub past : HasPast after.visit (past_of ending run.turns ++ loss_of end)
  pub moment : GivesMoment now.clock after.clock last
  pub exchanged : Exchanges now.link after.link part received
  pub pauses : after.pauses ≡ now.pauses
  pub bad : end ≡ ends.BadReply → IsBadRest after.link (held ++ received)
  pub sent_as : SentAs end (act_of before.visit.terms (past_of ending run.turns) last)
      (texts_of run.turns) (texts_of run.turns ++ part)
  pub over_is : IfVisitOver end
      (λ outcome. act_of before.visit.terms (past_of ending run.turns ++ loss_of end) last ≡ over
      outcome)

pub ends_so : (ending : Ending) (before now after : Scene) (kept : Option Ending) (held : List ℕ)
    (run : VisitIsUnderway ending before now kept held) (end : VisitEnd)
    → Ends ending before now after kept held run end → IsVisit ending before after end
ends_so ending before now after kept held run end ended =
    let exchanged = Exchanges-trans before.link now.link after.link (texts_of run.turns) ended.part
    run.received ended.received run.exchanged ended.exchanged in
    let answers = Spelled-append SpellsReply run.received (answers_of run.turns) held ended.received
    run.answers in
    let terms = ended.terms ∙ run.terms in
    let lawful =
    subst (λ (terms : VisitTerms). IsLawful terms (past_of ending run.turns ++ loss_of end)) terms
    ended.past.lawful in
    record {
      turns = run.turns;
      last = ended.last;
      sent = texts_of run.turns ++ ended.part;
      received = run.received ++ ended.received;
      rest = held ++ ended.received;
      terms = terms;
      follow = run.follow;
      past = ended.past;
      outcome = ended.over_is;
      moments = GaveMoments-push before.clock now.clock after.clock (map moment_of run.turns)
          ended.last run.moments ended.moment;
      exchanged = exchanged;
      pauses = subst (λ p. KeepsPauses before.pauses p (pauses_of run.turns)) (sym ended.pauses)
          run.pauses;
      sent_as = ended.sent_as;
      answers = answers;
      few = omega (arith, run.steps 0);
      bad = ended.bad;
      all = λ e. all-replies before.link after.link (texts_of run.turns ++ ended.part)
          (run.received ++ ended.received) (held ++ ended.received) (answers_of run.turns) exchanged
          answers (ended.bad e);
      lawful = lawful;
      forced = forces before.visit.terms (past_of ending run.turns ++ loss_of end) lawful;
    }

-- ---- enough replies

pub complete : (ending : Ending) (before after : Scene) (end : VisitEnd)
    → IsVisit ending before after end
    → TellsReplies before.link (most_requests before.visit.terms.limits + 1)
    → (end ≡ ends.Over LinkFault → ⊥) → EndsWell end
complete ending before after (ends.Over outcome) visit tells sound = λ e. sound (ap ends.Over e)
complete ending before after ends.NoMemory visit tells sound = tt
complete ending before after ends.BadReply visit tells sound =
    enough before.link (visit.all refl) tells
  where
    enough : (link : Option (List ℕ × List ℕ)) → AreAllReplies link (answers_of visit.turns)
        → TellsReplies link (most_requests before.visit.terms.limits + 1) → ⊥
    enough None all tells = tells
    enough (Some told) (rest, stream) (answers, other, others, many) =
        let same =
        (IsMessageStream-unique SpellsReply SpellsReply-unique told.1
        (answers_of visit.turns) answers
        rest other stream others).0 in
        let size = ap length same in
        omega (arith, size, many, visit.few)
