-- Inside a visit: one request with its answer, and where a visit stands between two turns.
use Rattle.std.specs.Prelude.{◌≡◌, ℕ, ◌+◌, ◌≤◌, List, [], ◌++◌, length, map, Option, false, IfSome, IsSome, ⊤}
use Rattle.asp_messages.specs.ReplySpelling.{StreamAnswer, SpellsReply}
use Rattle.asp_messages.specs.Stream.{Spelled}
use Rattle.message_framing.specs.ReaderState.{ReaderState}
use Rattle.visit_core.specs.declared.act.Ending.{Ending}
use Rattle.visit_core.specs.declared.act.Heard.{Heard}
use Rattle.visit_core.specs.VisitRule.{Event, has_ended}
use Rattle.visit_core.specs.Stages.{VisitState, HasPast, steps_left}
use Rattle.visit_core.specs.Terms.{EndingFits, kept_ending, most_requests}
use Rattle.page_link.specs.declared.visit_end.VisitEnd.{VisitEnd}
use Rattle.page_link.specs.declared.exchange.Break.{Break}
use Rattle.page_link.specs.declared.exchange.Break.TheVariants as breaks
use Rattle.page_link.specs.Links.{Exchanges, Receives, KeepsPauses}
use Rattle.page_link.specs.VisitTurns.{VisitTurn, moment_of, heard_of, has_lost, past_of, texts_of, answers_of, pauses_of, GaveMoments}
use Rattle.page_link.specs.Visits.{Scene, AllFollow, IsVisit, IsBadRest, IsFront, IsWhole}

-- ---- one request

-- The bytes held and then received begin with the answer, and the rest is held now.
pub record IsHeard (old new received : List ℕ) (heard : Heard) : Type 0 where
  pub answer : StreamAnswer
  pub front : List ℕ
  pub heard_is : heard ≡ heard_of answer
  pub spells : SpellsReply front answer
  pub bytes : old ++ received ≡ front ++ new

-- the bytes held and then received begin with no answer; where they are bad, it is that
abbrev pub IsUnanswered : Break → Option (List ℕ × List ℕ) → List ℕ → List ℕ → Type 0
IsUnanswered breaks.BadReply link old received = IsBadRest link (old ++ received)
IsUnanswered breaks.LinkFault link old received = ⊤
IsUnanswered breaks.NoMemory link old received = ⊤

-- how much of the text was sent
abbrev pub IsSentPart : Break → List ℕ → List ℕ → Type 0
IsSentPart breaks.BadReply text part = IsWhole text part
IsSentPart breaks.LinkFault text part = IsFront text part
IsSentPart breaks.NoMemory text part = IsFront text part

-- bytes were received, and the bytes held with them begin with an answer
abbrev pub Hears : Option (List ℕ × List ℕ) → Option (List ℕ × List ℕ) → List ℕ → List ℕ → Heard
    → Type 0
Hears link link' old new heard = (received : List ℕ) × Receives link link' received
    × IsHeard old new received heard

-- bytes were received, and no answer came
abbrev pub HearsNone : Option (List ℕ × List ℕ) → Option (List ℕ × List ℕ) → List ℕ → Break → Type 0
HearsNone link link' old break = (received : List ℕ) × Receives link link' received
    × IsUnanswered break link' old received

-- a text was sent, and answered
abbrev pub Asks : Option (List ℕ × List ℕ) → Option (List ℕ × List ℕ) → List ℕ → List ℕ → List ℕ
    → Heard → Type 0
Asks link link' text old new heard = (received : List ℕ) × Exchanges link link' text received
    × IsHeard old new received heard

-- a text was sent, maybe in part, and not answered
abbrev pub AsksInVain : Option (List ℕ × List ℕ) → Option (List ℕ × List ℕ) → List ℕ → List ℕ
    → Break → Type 0
AsksInVain link link' text old break = (part : List ℕ) × (received : List ℕ)
    × IsSentPart break text part
    × Exchanges link link' part received × IsUnanswered break link' old received

-- the reader was fed these bytes since, and is not broken
pub record IsFed (old new : ReaderState) (received : List ℕ) : Type 0 where
  pub held : new.held ≡ old.held ++ received
  pub whole : new.is_broken ≡ false

-- ---- between two turns

-- A visit whose link was not lost; the ending is kept until its page ended.
pub record MayTurn (visit : VisitState) (kept : Option Ending) : Type 0 where
  pub past : List Event
  pub stands : HasPast visit past
  pub linked : has_lost past ≡ false
  pub left : has_ended past ≡ false → IsSome kept
  pub fits : IfSome kept EndingFits

-- A visit with this ending has made turns up to now; the ending is kept until the page ended, and
-- these bytes are held, of those received.
pub record VisitIsUnderway (ending : Ending) (before now : Scene) (kept : Option Ending)
    (held : List ℕ) : Type 0 where
  pub turns : List VisitTurn
  pub received : List ℕ
  pub terms : now.visit.terms ≡ before.visit.terms
  pub follow : AllFollow before.visit.terms ending [] turns
  pub past : HasPast now.visit (past_of ending turns)
  pub moments : GaveMoments before.clock now.clock (map moment_of turns)
  pub exchanged : Exchanges before.link now.link (texts_of turns) received
  pub pauses : KeepsPauses before.pauses now.pauses (pauses_of turns)
  pub answers : Spelled SpellsReply received (answers_of turns) held
  pub steps : (t : ℕ)
      → length (answers_of turns) + steps_left now.visit t ≤ most_requests before.visit.terms.limits
  pub kept_is : kept ≡ kept_ending (has_ended (past_of ending turns)) ending

-- every visit that was underway in the old scene, with what was kept and held there, still is in
-- the new one
abbrev pub StaysUnderway : Scene → Option Ending → List ℕ → Scene → Option Ending → List ℕ → Type 0
StaysUnderway old kept held new kept' held' = (ending : Ending) (before : Scene)
    → VisitIsUnderway ending before old kept held → VisitIsUnderway ending before new kept' held'

-- every visit that was underway in the old scene came to this end
abbrev pub ComesToEnd : Scene → Option Ending → List ℕ → Scene → VisitEnd → Type 0
ComesToEnd old kept held new end = (ending : Ending) (before : Scene)
    → VisitIsUnderway ending before old kept held → IsVisit ending before new end
