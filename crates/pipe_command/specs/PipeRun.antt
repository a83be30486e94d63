-- A run of `pipe`, from the bytes that were taken to those that were written.
use Rattle.std.specs.Prelude.{◌⊎◌, ◌≡◌, ℕ, ◌<◌, ◌≤◌, ◌^◌, List, [], ◌++◌, length, take, Option, Some, None, IsTrue, ⊤}
use Rattle.std.specs.List.{AllByRecursion}
use Rattle.asp_base.specs.Limits.{most_input}
use Rattle.asp_base.specs.Outside.{Gives, IsAtEnd, Takes}
use Rattle.asp_messages.specs.declared.request.Message.{Message}
use Rattle.asp_messages.specs.RequestSpelling.{SpellsRequest}
use Rattle.asp_messages.specs.Stream.{Spelled, HasNoMessage}
use Rattle.lock_laws.specs.Laws.{LocksHold, NeverFaults}
use Rattle.keeper.specs.Items.{NeverCounts}
use Rattle.session_machine.specs.declared.entry.Entry.{Entry}
use Rattle.session_machine.specs.declared.item.Item.{Item}
use Rattle.session_machine.specs.Profiles.{newest}
use Rattle.journal_text.specs.WritingText.{journal_text}
use Rattle.shard_core.specs.ShardStands.{StandsFor}
use Rattle.stream_core.specs.Whole.{IsBroken}
use Rattle.pipe_command.specs.declared.pipe.Pipe.{Pipe}
use Rattle.pipe_command.specs.declared.pipe.PipeVerdict.{PipeVerdict}
use Rattle.pipe_command.specs.declared.pipe.PipeVerdict.TheVariants.{Whole, Broken}
use Rattle.plain_desk.specs.Openings.{Opening}
use Rattle.pipe_command.specs.PlainRun.{IsPlainRun, PipeStart, SplitsAtLast, output_of, written_as, closing}
use Rattle.command_loop.specs.declared.ending.RunEnd as run
use Rattle.command_loop.specs.declared.ending.RunEnd.TheVariants.{Over, ReadFault, WriteFault, NoMemory, Long}
use Rattle.command_loop.specs.Flow.{Flow}
use Rattle.command_loop.specs.Status.{status_of_run as status_with}

-- how a run ends
abbrev pub PipeEnd : Type 0
PipeEnd = run.RunEnd PipeVerdict

-- The numbers of a run are in range.
pub record PipeFits (pipe : Pipe) : Type 0 where
  pub start : pipe.start ≤ 2 ^ 62
  pub step : pipe.step ≤ 2 ^ 62
  pub some : 0 < pipe.first
  pub first : pipe.first < 2 ^ 63
  pub most : pipe.most ≤ most_input

-- Where a run stood when it ended: its start, the flow of its bytes, the messages that were
-- answered and their entries, the rest that is no whole message, and how many bytes were taken.
pub record PipeReached : Type 0 where
  pub start : PipeStart
  pub flow : Flow
  pub messages : List Message
  pub list : List Entry
  pub rest : List ℕ
  pub count : ℕ

-- the bytes that are owed for the messages: replies, or a journal
abbrev pub owed_in : PipeReached → List ℕ
owed_in r = written_as (output_of r.start.pipe.journal) r.messages r.list

-- the bytes that are owed behind them for a rest that is no whole messages
abbrev pub closing_in : PipeReached → List ℕ
closing_in r = closing (output_of r.start.pipe.journal)

-- the sink took these bytes
abbrev pub Wrote : PipeReached → List ℕ → Type 0
Wrote r bytes = Takes r.flow.sink r.flow.sink' bytes

-- Of what is owed for the last message the sink took so many bytes: its reply, or its entry's line.
-- What is owed for the messages before it was written whole.
pub record PipeWroteInPart (r : PipeReached) (count : ℕ) : Type 0 where
  pub whole : List ℕ
  pub last : List ℕ
  pub splits : SplitsAtLast r.start r.messages r.list whole last
  pub part : count ≤ length last
  pub took : Wrote r (whole ++ take count last)

-- before anything was read, the sink took so many bytes of a journal's first line
abbrev pub WroteFirstInPart : PipeReached → ℕ → Type 0
WroteFirstInPart r count = IsTrue r.start.pipe.journal × (r.count ≡ 0)
    × (count ≤ length (journal_text newest 0 [])) × Wrote r (take count (journal_text newest 0 []))

-- the sink took all that is owed for the messages, and so many bytes of the closing behind it
abbrev pub WroteClosingInPart : PipeReached → ℕ → Type 0
WroteClosingInPart r count =
    (count ≤ length (closing_in r)) × Wrote r (owed_in r ++ take count (closing_in r))

-- the rest is none, and the most bytes were not taken
abbrev pub StopsBroken : PipeReached → Type 0
StopsBroken r =
    IsBroken r.flow.source' r.rest × HasNoMessage SpellsRequest r.rest × (r.count < r.start.pipe.most)

-- What holds at each ending. Where memory was wanting, all that is owed was written, or, in a
-- journal, all but the last entry's line.
abbrev pub PipeEndsAs : PipeEnd → PipeReached → Type 0
PipeEndsAs (Over Whole) r =
    IsAtEnd r.flow.source' × (r.rest ≡ []) × (r.count < r.start.pipe.most) × Wrote r (owed_in r)
PipeEndsAs (Over Broken) r = StopsBroken r × Wrote r (owed_in r ++ closing_in r)
PipeEndsAs ReadFault r =
    HasNoMessage SpellsRequest r.rest × (r.count < r.start.pipe.most) × Wrote r (owed_in r)
PipeEndsAs WriteFault r = (n : ℕ) × (PipeWroteInPart r n ⊎ (WroteFirstInPart r n
    ⊎ (StopsBroken r × WroteClosingInPart r n)))
PipeEndsAs NoMemory r = Wrote r (owed_in r) ⊎ (IsTrue r.start.pipe.journal × PipeWroteInPart r 0)
PipeEndsAs Long r =
    HasNoMessage SpellsRequest r.rest × (r.count ≡ r.start.pipe.most) × Wrote r (owed_in r)

-- the exit status of what was found
abbrev pub pipe_verdict_status : PipeVerdict → ℕ
pipe_verdict_status Whole = 0
pipe_verdict_status Broken = 3

-- the exit status of an ending: 4 to 7 where it was stopped
abbrev pub status_of_pipe : PipeEnd → ℕ
status_of_pipe end = status_with pipe_verdict_status end

-- what locks give, where the keeper tells its items
abbrev pub TellsLocks : Opening → Option (List ℕ → Option Item) → List Entry → Type 0
TellsLocks opening None list = ⊤
TellsLocks opening (Some items) list = LocksHold opening.items opening.count list

-- over a keeper that tells its items, and never counts a fault, none is answered
abbrev pub NeverFails : (ℕ → Type 0) → Option (List ℕ → Option Item) → List Entry → Type 0
NeverFails CanCount None list = ⊤
NeverFails CanCount (Some items) list = NeverCounts CanCount → NeverFaults list

-- A run: the bytes taken, at most the most, are messages and a rest; the entries are a plain run of
-- the messages; each entry has its cause, and the keeper that is handed back has the items and the
-- count after them; locks hold what they give; and the replies, or the journal, were written as the
-- ending says. (CanCount says which counts of faults the keeper's type can have; told and faults
-- are what the keeper tells and counts after the run.)
pub record IsRun (CanCount : ℕ → Type 0) (start : PipeStart) (f : Flow)
    (told : Option (List ℕ → Option Item)) (faults : ℕ) (end : PipeEnd) : Type 0 where
  pub bytes : List ℕ
  pub messages : List Message
  pub rest : List ℕ
  pub list : List Entry
  pub given : Gives f.source f.source' bytes
  pub within : length bytes ≤ start.pipe.most
  pub spelled : Spelled SpellsRequest bytes messages rest
  pub plain : IsPlainRun start messages list
  pub counts : AllByRecursion (λ e. CanCount e.faults) list
  pub stands : StandsFor start.opening.items start.opening.count list told faults
  pub locks : TellsLocks start.opening told list
  pub no_faults : NeverFails CanCount told list
  pub ends : PipeEndsAs end (record {
    start = start;
    flow = f;
    messages = messages;
    list = list;
    rest = rest;
    count = length bytes;
  })
