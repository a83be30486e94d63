-- A visit over a link, from its first turn to its end.
use Rattle.std.specs.Prelude.{◌≡◌, ◌≢◌, ◌⊎◌, ℕ, ◌≤◌, List, [], ◌∷◌, ◌++◌, length, take, map, Option, Some, None, false, ⊤}
use Rattle.asp_base.specs.Outside.{IsAtEnd}
use Rattle.asp_messages.specs.declared.request.Request.{Request}
use Rattle.asp_messages.specs.declared.request.Ask.TheVariants.{Release}
use Rattle.asp_messages.specs.ReplySpelling.{StreamAnswer, SpellsReply}
use Rattle.asp_messages.specs.RequestText.{request_text}
use Rattle.asp_messages.specs.Stream.{Spelled, IsMessageStream, IsHopeless, HasNoMessage}
use Rattle.visit_core.specs.declared.act.Ending.{Ending}
use Rattle.visit_core.specs.declared.outcome.Outcome.{Outcome}
use Rattle.visit_core.specs.declared.outcome.Outcome.TheVariants.{LinkFault}
use Rattle.visit_core.specs.Acts.{Action, send, wait_until, over, IsToRun}
use Rattle.visit_core.specs.VisitRule.{Event, lost, act_of, send_ask, has_ended, IsLawful, MeetsOldLock}
use Rattle.visit_core.specs.Stages.{VisitState, HasPast, steps_left}
use Rattle.visit_core.specs.Terms.{VisitTerms, most_requests}
use Rattle.page_link.specs.declared.visit_end.VisitEnd.{VisitEnd}
use Rattle.page_link.specs.declared.visit_end.VisitEnd.TheVariants.{Over, BadReply, NoMemory}
use Rattle.page_link.specs.Links.{Exchanges, KeepsPauses}
use Rattle.page_link.specs.VisitTurns.{VisitTurn, asked, paused, ran, events_of, moment_of, past_of, texts_of, answers_of, pauses_of, GaveMoments}

-- A visit at one time, with what its link tells, of its bytes and of its pauses, and the moments
-- that its clock has still to give.
pub record Scene : Type 0 where
  pub visit : VisitState
  pub link : Option (List ℕ × List ℕ)
  pub pauses : Option (List ℕ × ℕ)
  pub clock : Option (ℕ → ℕ)

-- the scene of a visit, by what its link and its clock tell
abbrev pub scene : VisitState → Option (List ℕ × List ℕ) → Option (List ℕ × ℕ) → Option (ℕ → ℕ)
    → Scene
scene visit link pauses clock =
    record { visit = visit; link = link; pauses = pauses; clock = clock }

-- The visit has not begun.
pub record IsNew (visit : VisitState) : Type 0 where
  pub past : HasPast visit []
  pub steps : (t : ℕ) → steps_left visit t ≤ most_requests visit.terms.limits

-- ---- turns

-- the turn does what the rule says after this past
abbrev pub FollowsVisitRule : VisitTerms → List Event → VisitTurn → Type 0
FollowsVisitRule terms past (asked t request answer) = act_of terms past t ≡ send request
FollowsVisitRule terms past (paused t until) = act_of terms past t ≡ wait_until until
FollowsVisitRule terms past (ran t) = IsToRun (act_of terms past t)

-- each turn does so after the past that those before it lead to
abbrev pub AllFollow : VisitTerms → Ending → List Event → List VisitTurn → Type 0
AllFollow terms ending past [] = ⊤
AllFollow terms ending past (turn ∷ turns) =
    FollowsVisitRule terms past turn × AllFollow terms ending (past ++ events_of ending turn) turns

-- ---- what is sent

-- at the last turn a request was to be sent, and its text was, so far as IsPart says
abbrev pub SentNext : (List ℕ → List ℕ → Type 0) → Action → List ℕ → List ℕ → Type 0
SentNext IsPart action texts sent =
    (request : Request) × (action ≡ send request)
    × ((part : List ℕ) × IsPart (request_text request) part × (sent ≡ texts ++ part))

-- a front of the text, and the whole
abbrev pub IsFront : List ℕ → List ℕ → Type 0
IsFront text part = (n : ℕ) × (n ≤ length text) × (part ≡ take n text)

abbrev pub IsWhole : List ℕ → List ℕ → Type 0
IsWhole text part = part ≡ text

-- The bytes sent are the texts of the requests that were answered. Where the link was lost, or
-- memory was wanting, a front of the next request's text follows, and before a bad reply the whole.
abbrev pub SentOver : Outcome → Action → List ℕ → List ℕ → Type 0
SentOver LinkFault action texts sent = SentNext IsFront action texts sent
SentOver outcome action texts sent = sent ≡ texts

abbrev pub SentAs : VisitEnd → Action → List ℕ → List ℕ → Type 0
SentAs (Over outcome) action texts sent = SentOver outcome action texts sent
SentAs BadReply action texts sent = SentNext IsWhole action texts sent
SentAs NoMemory action texts sent = SentNext IsFront action texts sent

-- ---- the past

-- the link was lost at the end
abbrev pub loss_of_outcome : Outcome → List Event
loss_of_outcome LinkFault = lost ∷ []
loss_of_outcome outcome = []

abbrev pub loss_of : VisitEnd → List Event
loss_of (Over outcome) = loss_of_outcome outcome
loss_of BadReply = []
loss_of NoMemory = []

-- a fact of the outcome, where the visit is over
abbrev pub IfVisitOver : VisitEnd → (Outcome → Type 0) → Type 0
IfVisitOver (Over outcome) P = P outcome
IfVisitOver BadReply P = ⊤
IfVisitOver NoMemory P = ⊤

-- At each place of the past, before the page's end, at which a release is sent, the visit had met
-- that lock by its own ask, and it was older than the page may run: a release by force.
abbrev pub ForcesOldLocks : VisitTerms → List Event → Type 0
ForcesOldLocks terms past = (earlier later : List Event) (t cookie : ℕ) → past ≡ earlier ++ later
    → has_ended earlier ≡ false → act_of terms earlier t ≡ send_ask terms (Release cookie)
    → MeetsOldLock terms earlier cookie

-- ---- replies

-- the rest is no reply: no bytes can follow that make one of it, or the bytes to be received ended
-- before one was whole
abbrev pub IsBadRest : Option (List ℕ × List ℕ) → List ℕ → Type 0
IsBadRest link rest = HasNoMessage SpellsReply rest × (IsHopeless SpellsReply rest ⊎ IsAtEnd link)

-- where the link tells, these are all replies that were to be received
abbrev pub AreAllReplies : Option (List ℕ × List ℕ) → List StreamAnswer → Type 0
AreAllReplies None answers = ⊤
AreAllReplies (Some told) answers =
    (rest : List ℕ) × IsMessageStream SpellsReply told.1 answers rest

-- the link tells, and at least so many replies are to be received
abbrev pub TellsReplies : Option (List ℕ × List ℕ) → ℕ → Type 0
TellsReplies None count = ⊥
TellsReplies (Some told) count = (answers : List StreamAnswer) × (rest : List ℕ)
    × IsMessageStream SpellsReply told.1 answers rest × (count ≤ length answers)

-- ---- a visit

-- A visit with this ending came to its end: its turns, by the rule, and the moment of the last one,
-- which ended it; its past, which is lawful and leads to the visit as it is now; the bytes sent and
-- received, of which the latter are the answers and a rest. The link was told to pause once for
-- each turn that waited, until that turn's moment, and never else.
pub record IsVisit (ending : Ending) (before after : Scene) (end : VisitEnd) : Type 0 where
  pub turns : List VisitTurn
  pub last : ℕ
  pub sent : List ℕ
  pub received : List ℕ
  pub rest : List ℕ
  pub terms : after.visit.terms ≡ before.visit.terms
  pub follow : AllFollow before.visit.terms ending [] turns
  pub past : HasPast after.visit (past_of ending turns ++ loss_of end)
  pub lawful : IsLawful before.visit.terms (past_of ending turns ++ loss_of end)
  pub outcome : IfVisitOver end (λ outcome.
      act_of before.visit.terms (past_of ending turns ++ loss_of end) last ≡ over outcome)
  pub moments : GaveMoments before.clock after.clock (map moment_of turns ++ last ∷ [])
  pub exchanged : Exchanges before.link after.link sent received
  pub pauses : KeepsPauses before.pauses after.pauses (pauses_of turns)
  pub sent_as : SentAs end (act_of before.visit.terms (past_of ending turns) last)
      (texts_of turns) sent
  pub answers : Spelled SpellsReply received (answers_of turns) rest
  pub few : length (answers_of turns) ≤ most_requests before.visit.terms.limits
  pub bad : end ≡ BadReply → IsBadRest after.link rest
  pub all : end ≡ BadReply → AreAllReplies before.link (answers_of turns)
  pub forced : ForcesOldLocks before.visit.terms (past_of ending turns ++ loss_of end)

-- the visit came to an outcome that is no lost link, or memory was wanting
abbrev pub EndsWell : VisitEnd → Type 0
EndsWell (Over outcome) = outcome ≢ LinkFault
EndsWell BadReply = ⊥
EndsWell NoMemory = ⊤
