-- Inside a replay: where it stands between two lines.
use Rattle.std.specs.Prelude.{◌≡◌, ℕ, ◌≤◌, List, [], ◌++◌, length, Some, None, IsTrue, IsFalse, ⊤}
use Rattle.plain_words.specs.Words.{HasNo}
use Rattle.journal_text.specs.declared.judging.judgement.Judgement.{Judgement}
use Rattle.journal_text.specs.declared.judging.judgement.Judgement.TheVariants.{Legal, Illegal}
use Rattle.journal_text.specs.declared.judging.judgement.Why.{Why}
use Rattle.session_machine.specs.declared.entry.Entry.{Entry}
use Rattle.session_machine.specs.declared.item.Profile.{Profile}
use Rattle.journal_text.specs.JudgingChecker.{Checked, HasTaken}
use Rattle.journal_text.specs.WritingText.{most_journal_line}
use Rattle.journal_text.specs.ReadingText.{JournalReading, StopsAt, Taken, HasRead}
use Rattle.journal_text.specs.JudgingLine.{judgement_line}
use Rattle.journal_replay.specs.declared.report.ReplayReport.{ReplayReport}
use Rattle.journal_replay.specs.declared.replay_verdict.ReplayVerdict.{ReplayVerdict}
use Rattle.journal_replay.specs.declared.replay_verdict.ReplayVerdict.TheVariants as verdicts
use Rattle.journal_replay.specs.declared.replayer.Replayer.{Replayer}
use Rattle.journal_replay.specs.Replay.{IsJudged, Reports, stop_line}
use Rattle.command_loop.specs.Feeding.{Going, GoesOn, OverAnyhow, OverAtEnd}

-- the checker has taken the entries that were taken of a text, the first of them at its place, in
-- the text's profile
abbrev pub Checks : Taken → Checked → Type 0
Checks None checker = ⊤
Checks (Some t) checker = (checker.known.profile ≡ t.0) × (checker.first_place ≡ t.1)
    × HasTaken checker t.2

-- The reader was fed the text, and the checker has taken the entries that were taken of it.
pub record HasReplayed (text : List ℕ) (reader : JournalReading) (checker : Checked) : Type 0 where
  pub taken : Taken
  pub read : HasRead text taken reader
  pub checks : Checks taken checker
  pub whole : IsFalse reader.is_broken

-- The reader waits for more bytes of a line.
pub record ReplayWaits (r : JournalReading) : Type 0 where
  pub may_feed : IsTrue r.may_feed
  pub whole : IsFalse r.is_broken
  pub unfinished : HasNo 10 r.held
  pub short : length r.held ≤ most_journal_line

-- ---- a replay as a consumer

-- the bytes were replayed, and nothing was given
abbrev pub ReplayWent : Replayer → Replayer → List ℕ → List ℕ → Type 0
ReplayWent start now bytes given =
    HasReplayed bytes now.reader now.checker × (given ≡ []) × (now.text.items ≡ [])
    × (now.report ≡ start.report)

-- the bytes stop being a journal, whatever follows them
abbrev pub ReplayBreaks : ReplayVerdict → List ℕ → List ℕ → List ℕ → Type 0
ReplayBreaks verdicts.NotAJournal bytes whole last =
    (whole ≡ []) × ((offset : ℕ) × ((behind : List ℕ) → StopsAt (bytes ++ behind) offset)
    × (last ≡ stop_line offset))
ReplayBreaks verdicts.Legal bytes whole last = ⊥
ReplayBreaks verdicts.Illegal bytes whole last = ⊥

-- what is found of the bytes where none follow, and reported so
abbrev pub Finds : ReplayReport → ReplayVerdict → List ℕ → List ℕ → Type 0
Finds report verdicts.Legal bytes text =
    (entries : ℕ) × (judged : IsJudged bytes (Legal entries))
    × Reports report judged.profile judged.list entries text
Finds report verdicts.Illegal bytes text = (place : ℕ) × (why : Why)
    × (judged : IsJudged bytes (Illegal place why))
    × (text ≡ judgement_line judged.profile (Illegal place why))
Finds report verdicts.NotAJournal bytes text =
    (offset : ℕ) × StopsAt bytes offset × (text ≡ stop_line offset)

-- the entries are a legal history
abbrev pub IsLegalVerdict : Judgement → Type 0
IsLegalVerdict (Legal entries) = ⊤
IsLegalVerdict (Illegal place why) = ⊥

-- what is reported of a list of this judgement
abbrev pub ReportsJudged : ReplayReport → Profile → List Entry → Judgement → List ℕ → Type 0
ReportsJudged report profile list (Legal entries) text = Reports report profile list entries text
ReportsJudged report profile list (Illegal place why) text =
    text ≡ judgement_line profile (Illegal place why)

-- what is reported of the entries that the checker has taken
abbrev pub ReportsTaken : ReplayReport → Checked → List ℕ → Type 0
ReportsTaken report checker text = (list : List Entry) → HasTaken checker list
    → ReportsJudged report checker.known.profile list checker.verdict text

-- what was given last: no line gives anything, and the report is all that is given
abbrev pub ReplayGave : Going ReplayVerdict → Replayer → Replayer → List ℕ → List ℕ → List ℕ
    → Type 0
ReplayGave GoesOn start now bytes whole last = last ≡ []
ReplayGave (OverAnyhow more verdict) start now bytes whole last = ReplayBreaks verdict bytes whole
    last
ReplayGave (OverAtEnd verdict) start now bytes whole last =
    (whole ≡ []) × Finds start.report verdict bytes last

-- nothing was written
abbrev pub ReplayLacks : Replayer → Replayer → List ℕ → List ℕ → Type 0
ReplayLacks start now bytes given = given ≡ []

-- the verdict of a judgement
abbrev pub verdict_of : Judgement → ReplayVerdict
verdict_of (Legal entries) = verdicts.Legal
verdict_of (Illegal place why) = verdicts.Illegal
