-- A replay: a journal that is read and judged, from the bytes that were taken to the text that was
-- written.
use Rattle.std.specs.Prelude.{◌≡◌, ◌⊎◌, ℕ, ◌<◌, ◌≤◌, List, ◌++◌, length, codes, decimal, Option, Some, None, ⊤}
use Rattle.asp_base.specs.Outside.{Gives, IsAtEnd, Takes, TakesFront}
use Rattle.asp_messages.specs.PlainSpelling.{◌then◌}
use Rattle.plain_words.specs.Words.{HasNo}
use Rattle.session_machine.specs.declared.entry.Entry.{Entry}
use Rattle.session_machine.specs.declared.item.Profile.{Profile}
use Rattle.session_machine.specs.History.{nothing}
use Rattle.session_listing.specs.Listing.{ListsSessions}
use Rattle.lock_laws.specs.Laws.{LocksHoldIn}
use Rattle.journal_text.specs.declared.judging.judgement.Judgement.{Judgement}
use Rattle.journal_text.specs.declared.judging.judgement.Judgement.TheVariants.{Legal, Illegal}
use Rattle.journal_text.specs.declared.judging.judgement.Why.{Why}
use Rattle.journal_text.specs.WritingText.{IsJournal, most_journal_line}
use Rattle.journal_text.specs.JudgingEntries.{Judges, item_before}
use Rattle.journal_text.specs.ReadingText.{Taken, TakenFits, StopsAt, taken_text}
use Rattle.journal_text.specs.JudgingLine.{judgement_line}
use Rattle.journal_replay.specs.declared.report.ReplayReport.{ReplayReport}
use Rattle.journal_replay.specs.declared.report.ReplayReport.TheVariants as reports
use Rattle.journal_replay.specs.declared.replay_verdict.ReplayVerdict.{ReplayVerdict}
use Rattle.journal_replay.specs.declared.replay_verdict.ReplayVerdict.TheVariants as verdicts
use Rattle.command_loop.specs.declared.ending.RunEnd as run
use Rattle.command_loop.specs.declared.ending.RunEnd.TheVariants as ends
use Rattle.command_loop.specs.Status.{status_of_run as status_with}

-- ---- what the bytes are

-- the bytes are all that the source had, and fewer than the most that may be taken
abbrev pub IsAll : Option (List ℕ × List ℕ) → List ℕ → ℕ → Type 0
IsAll source' bytes most = IsAtEnd source' × (length bytes < most)

-- what locks give, where the list is judged legal
abbrev pub GivesLocks : Profile → Judgement → List Entry → Type 0
GivesLocks profile (Legal entries) list = LocksHoldIn profile nothing 0 list
GivesLocks profile (Illegal place why) list = ⊤

-- The bytes are the journal of a profile of a list of entries, and this is the judgement of the
-- list in that profile.
pub record IsJudged (bytes : List ℕ) (judgement : Judgement) : Type 0 where
  pub profile : Profile
  pub place : ℕ
  pub list : List Entry
  pub journal : IsJournal bytes profile place list
  pub judges : Judges profile place list judgement
  pub locks : GivesLocks profile judgement list

-- the input stops being a journal at this offset: the bytes are all of it and stop there, or they
-- stop there whatever follows them
abbrev pub InputStopsAt : Option (List ℕ × List ℕ) → List ℕ → ℕ → ℕ → Type 0
InputStopsAt source' bytes most offset =
    (IsAll source' bytes most × StopsAt bytes offset)
    ⊎ ((more : List ℕ) → StopsAt (bytes ++ more) offset)

-- The bytes are whole lines of a journal, and the front of one more line.
pub record AreJournalLines (bytes : List ℕ) : Type 0 where
  pub taken : Taken
  pub rest : List ℕ
  pub fits : TakenFits taken
  pub bytes_are : bytes ≡ taken_text taken ++ rest
  pub unfinished : HasNo 10 rest
  pub short : length rest ≤ most_journal_line

-- ---- endings

-- how a replay ends
abbrev pub ReplayEnd : Type 0
ReplayEnd = run.RunEnd ReplayVerdict

-- the line that tells at which offset a text is no journal, with its line feed
unfoldable pub stop_line : ℕ → List ℕ
stop_line offset = (codes "not a journal at" then decimal offset) ++ codes "\n"

-- what is reported of a legal history of the profile: the line of its judgement, or what lives
-- behind it at a moment
abbrev pub Reports : ReplayReport → Profile → List Entry → ℕ → List ℕ → Type 0
Reports reports.Judgement profile list entries text =
    text ≡ judgement_line profile (Legal entries)
Reports (reports.Sessions moment) profile list entries text =
    ListsSessions moment (item_before profile list) text

module _ (report : ReplayReport) where
  -- the text that is owed where this was found
  abbrev pub IsOwedText : ReplayVerdict → Option (List ℕ × List ℕ) → List ℕ → ℕ → List ℕ → Type 0
  IsOwedText verdicts.Legal source' bytes most text =
      IsAll source' bytes most
      × ((entries : ℕ) × (judged : IsJudged bytes (Legal entries))
      × Reports report judged.profile judged.list entries text)
  IsOwedText verdicts.Illegal source' bytes most text =
      IsAll source' bytes most
      × ((place : ℕ) × (why : Why) × (judged : IsJudged bytes (Illegal place why))
      × (text ≡ judgement_line judged.profile (Illegal place why)))
  IsOwedText verdicts.NotAJournal source' bytes most text =
      (offset : ℕ) × InputStopsAt source' bytes most offset × (text ≡ stop_line offset)

  -- What holds at each ending: of the source and the sink after it, and of the bytes taken, which
  -- are at most this many.
  abbrev pub ReplayEndsAs : ReplayEnd → Option (List ℕ × List ℕ) → Option (List ℕ)
      → Option (List ℕ) → List ℕ → ℕ → Type 0
  ReplayEndsAs (ends.Over verdict) source' sink sink' bytes most =
      (text : List ℕ) × IsOwedText verdict source' bytes most text × Takes sink sink' text
  ReplayEndsAs ends.ReadFault source' sink sink' bytes most =
      AreJournalLines bytes × (length bytes < most) × (sink' ≡ sink)
  ReplayEndsAs ends.WriteFault source' sink sink' bytes most =
      (verdict : ReplayVerdict) × (text : List ℕ) × IsOwedText verdict source' bytes most text
      × TakesFront sink sink' text
  ReplayEndsAs ends.NoMemory source' sink sink' bytes most = sink' ≡ sink
  ReplayEndsAs ends.Long source' sink sink' bytes most =
      AreJournalLines bytes × (length bytes ≡ most) × (sink' ≡ sink)

-- the exit status of what was found
abbrev pub replay_verdict_status : ReplayVerdict → ℕ
replay_verdict_status verdicts.Legal = 0
replay_verdict_status verdicts.NotAJournal = 3
replay_verdict_status verdicts.Illegal = 8

-- the exit status of an ending: 4 to 7 where it was stopped
abbrev pub status_of_replay : ReplayEnd → ℕ
status_of_replay end = status_with replay_verdict_status end

module _ (report : ReplayReport) where
  -- A replay that reports so: these bytes were taken, and it ended so.
  pub record IsReplay (most : ℕ) (source source' : Option (List ℕ × List ℕ))
      (sink sink' : Option (List ℕ)) (end : ReplayEnd) : Type 0 where
    pub bytes : List ℕ
    pub given : Gives source source' bytes
    pub within : length bytes ≤ most
    pub ends : ReplayEndsAs report end source' sink sink' bytes most

-- ---- completeness

-- the source tells its input, which is the journal of this profile of this list and has fewer than
-- so many bytes
abbrev pub TellsJournal : Option (List ℕ × List ℕ) → ℕ → Profile → ℕ → List Entry → Type 0
TellsJournal None most profile place list = ⊥
TellsJournal (Some told) most profile place list =
    (length told.1 < most) × IsJournal told.1 profile place list

-- the source tells its input, which is no journal and has fewer than so many bytes
abbrev pub TellsNoJournal : Option (List ℕ × List ℕ) → ℕ → Type 0
TellsNoJournal None most = ⊥
TellsNoJournal (Some told) most =
    (length told.1 < most)
    × ((profile : Profile) (place : ℕ) (list : List Entry) → ¬ IsJournal told.1 profile place list)

-- the exit status of a judgement
abbrev pub judgement_status : Judgement → ℕ
judgement_status (Legal entries) = 0
judgement_status (Illegal place why) = 8

-- the status is that of the list's judgement, or memory ran out
abbrev pub IsStatusOf : ℕ → Profile → ℕ → List Entry → Type 0
IsStatusOf status profile place list =
    ((judgement : Judgement) × Judges profile place list judgement
    × (status ≡ judgement_status judgement))
    ⊎ (status ≡ 6)
