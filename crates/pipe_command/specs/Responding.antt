-- A responder as a consumer of the loop.
use Rattle.std.specs.Prelude.{◌≡◌, ◌≢◌, ◌⊎◌, ℕ, Bool, true, false, List, [], ◌++◌, IsTrue, IsFalse, ⊤}
use Rattle.asp_messages.specs.RequestSpelling.{SpellsRequest}
use Rattle.asp_messages.specs.Stream.{HasNoMessage, IsHopeless}
use Rattle.session_machine.specs.Profiles.{newest}
use Rattle.journal_text.specs.WritingText.{journal_text}
use Rattle.plain_desk.specs.DeskStands.{desk_state}
use Rattle.plain_desk.specs.Openings.{NeverBegins, opening_over}
use Rattle.keeper.specs.declared.keeping.Keeper.{Ghosts}
use Rattle.message_framing.specs.ReaderState.{ReaderState}
use Rattle.command_loop.specs.Feeding.{Going, GoesOn, OverAnyhow, OverAtEnd}
use Rattle.pipe_command.specs.declared.pipe.PipeVerdict.{PipeVerdict}
use Rattle.pipe_command.specs.declared.pipe.PipeVerdict.TheVariants.{Whole, Broken}
use Rattle.pipe_command.specs.declared.responder.Responder.{Responder}
use Rattle.asp_messages.specs.declared.request.Message.{Message}
use Rattle.pipe_command.specs.declared.responder.Response.{Response}
use Rattle.pipe_command.specs.declared.pipe.Output.{Output}
use Rattle.pipe_command.specs.Answering.{ServerState, AnswersAtMoment, IsAnsweredInto}
use Rattle.pipe_command.specs.Giving.{given_body, given_head}
use Rattle.pipe_command.specs.PlainRun.{PipeStart, closing, output_of}
use Rattle.pipe_command.specs.PipeProgress.{Progress, ProgressLast}

-- what was given last
abbrev pub given : {K : Type 0} → Responder K → List ℕ
given now = given_head now.given now.line.items ++ given_body now.given

-- the bytes behind the messages that were taken: those that are held, or, where the stream is
-- broken, some that can become no message
abbrev pub IsRest : ReaderState → List ℕ → Type 0
IsRest reader rest = (IsFalse reader.is_broken × (rest ≡ reader.held))
    ⊎ (IsTrue reader.is_broken × IsHopeless SpellsRequest rest)

-- what is owed with the first line of a journal, where that was not given yet
abbrev pub owing : Bool → List ℕ → List ℕ
owing true owed = owed
owing false owed = owed ++ journal_text newest 0 []

-- where the first line of a journal was not given yet, nothing was taken or given
abbrev pub IsUnbegun : Bool → Bool → List ℕ → List ℕ → Type 0
IsUnbegun true journal bytes owed = ⊤
IsUnbegun false journal bytes owed = IsTrue journal × (bytes ≡ []) × (owed ≡ [])

-- the first line of a journal was given before anything was taken
abbrev pub GaveFirstLine : Bool → List ℕ → List ℕ → List ℕ → Type 0
GaveFirstLine journal bytes whole last =
    IsTrue journal × (bytes ≡ []) × (whole ≡ []) × (last ≡ journal_text newest 0 [])

-- one thing to do, where the first line of a journal was not given yet
abbrev pub unbegun : Bool → ℕ
unbegun true = 0
unbegun false = 1

-- all that can be done with the bytes held was done: no message is whole; if more bytes could
-- follow, they may be fed
pub record PipeWaits {K : Type 0} (more : Bool) (now : Responder K) : Type 0 where
  pub is_begun : IsTrue now.is_begun
  pub may_feed : IsTrue now.stream.reader.may_feed
  pub none : IsFalse now.stream.reader.is_broken → HasNoMessage SpellsRequest now.stream.reader.held
  pub whole : IsTrue more → IsFalse now.stream.reader.is_broken

module _ {K : Type 0} (G : Ghosts K) where
  -- the start of a run that begins with this responder
  abbrev pub start_with : Responder K → PipeStart
  start_with first = record {
    pipe = first.pipe;
    opening = opening_over G first.desk.keeper first.desk.cookies;
  }

  -- the server's state
  abbrev pub state_of_responder : Responder K → ServerState
  state_of_responder now = record {
    held = now.stream.reader.held;
    desk = desk_state G now.desk;
    clock = now.clock;
  }

  -- the message was answered, from one state of the server to the next
  abbrev pub ResponderAnswers : Message → Responder K → Responder K → Response → Type 0
  ResponderAnswers message old new answer =
      AnswersAtMoment G.can_count message (state_of_responder old) (state_of_responder new) answer

  -- it was, and what is owed for it satisfies this
  abbrev pub LeavesAnswered : Output → (List ℕ → Type 0) → Message → Responder K → Responder K
      → Type 0
  LeavesAnswered output gives message old new =
      IsAnsweredInto G.can_count output gives message (state_of_responder old)
      (state_of_responder new)

  -- What answering leaves as it was.
  pub record Keeps (old new : Responder K) : Type 0 where
    pub pipe : new.pipe ≡ old.pipe
    pub is_begun : new.is_begun ≡ old.is_begun
    pub reader : new.stream.reader ≡ old.stream.reader
    pub floor : G.floor new.desk.keeper ≡ G.floor old.desk.keeper
    pub tells : NeverBegins (G.told old.desk.keeper) (G.told new.desk.keeper)

  -- The bytes are messages that were answered and a rest, and the bytes that are owed are what a
  -- run of the messages writes.
  pub record HasAnswered (first now : Responder K) (bytes rest owed : List ℕ) : Type 0 where
    pub pipe : now.pipe ≡ first.pipe
    pub floor : G.floor now.desk.keeper ≡ G.floor first.desk.keeper
    pub tells : NeverBegins (G.told first.desk.keeper) (G.told now.desk.keeper)
    pub progress : Progress G.can_count (start_with first) bytes owed
        (record (state_of_responder now) { held = rest })

  -- The same, and what is owed is in two parts: for the messages before the last, and for the last.
  pub record HasAnsweredLast (first now : Responder K) (bytes rest whole last : List ℕ) : Type 0
    where
      pub pipe : now.pipe ≡ first.pipe
      pub floor : G.floor now.desk.keeper ≡ G.floor first.desk.keeper
      pub tells : NeverBegins (G.told first.desk.keeper) (G.told now.desk.keeper)
      pub progress : ProgressLast G.can_count (start_with first) bytes whole last
          (record (state_of_responder now) { held = rest })

  -- ---- the consumer

  abbrev pub PipeWent : Responder K → Responder K → List ℕ → List ℕ → Type 0
  PipeWent first now bytes owed = (rest : List ℕ) × IsRest now.stream.reader rest
      × HasAnswered first now bytes rest (owing now.is_begun owed)
      × IsUnbegun now.is_begun first.pipe.journal bytes owed

  abbrev pub PipeGave : Responder K → Responder K → List ℕ → List ℕ → List ℕ → Type 0
  PipeGave first now bytes whole last = (rest : List ℕ)
      × (HasAnsweredLast first now bytes rest whole last
      ⊎ (HasAnswered first now bytes rest (whole ++ last)
      × GaveFirstLine first.pipe.journal bytes whole last))

  -- the rest can become no message
  abbrev pub PipeBreaks : PipeVerdict → Responder K → Responder K → List ℕ → List ℕ → List ℕ
      → Type 0
  PipeBreaks Whole first now bytes whole last = ⊥
  PipeBreaks Broken first now bytes whole last = (last ≡ closing (output_of first.pipe.journal))
      × ((rest : List ℕ) × IsHopeless SpellsRequest rest × HasAnswered first now bytes rest whole)

  -- the input ended behind a message, or inside one
  abbrev pub PipeCloses : PipeVerdict → Responder K → Responder K → List ℕ → List ℕ → List ℕ
      → Type 0
  PipeCloses Whole first now bytes whole last = (last ≡ []) × HasAnswered first now bytes [] whole
  PipeCloses Broken first now bytes whole last = (last ≡ closing (output_of first.pipe.journal))
      × ((rest : List ℕ) × (rest ≢ []) × HasNoMessage SpellsRequest rest
      × HasAnswered first now bytes rest whole)

  -- what was given last, as it goes on: with the next message, or over
  abbrev pub GaveSo : Going PipeVerdict → Responder K → Responder K → List ℕ → List ℕ → List ℕ
      → Type 0
  GaveSo GoesOn first now bytes whole last = PipeGave first now bytes whole last
  GaveSo (OverAnyhow more verdict) first now bytes whole last =
      IsTrue more × PipeBreaks verdict first now bytes whole last
  GaveSo (OverAtEnd verdict) first now bytes whole last = PipeCloses verdict first now bytes whole
      last

  -- all that is owed was given, or, in a journal, all but the last line
  abbrev pub PipeLacks : Responder K → Responder K → List ℕ → List ℕ → Type 0
  PipeLacks first now bytes owed = (rest : List ℕ) × (HasAnswered first now bytes rest owed
      ⊎ (IsTrue first.pipe.journal × ((line : List ℕ)
      × HasAnsweredLast first now bytes rest owed line)))
