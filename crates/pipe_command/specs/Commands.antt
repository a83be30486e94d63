-- What each command does.
use Rattle.std.specs.Prelude.{◌≡◌, ◌⊎◌, ◌++◌, ◌∷◌, [], ℕ, List, Option, ⊤}
use Rattle.asp_base.specs.Limits.{most_input}
use Rattle.asp_messages.specs.Fields.{most_cookie}
use Rattle.asp_base.specs.WrittenLine.{WritesLine}
use Rattle.journal_replay.specs.Replay as replay
use Rattle.journal_replay.specs.declared.report.ReplayReport.{ReplayReport}
use Rattle.journal_replay.specs.declared.report.ReplayReport.TheVariants as reports
use Rattle.keeper.specs.declared.keeping.Keeper.{Ghosts}
use Rattle.keeper.specs.declared.ran.Ran.{Ran}
use Rattle.load_generator.specs.declared.load.Load.{Load}
use Rattle.load_generator.specs.LoadRun.{IsLoad}
use Rattle.script_runner.specs.Drive as drive
use Rattle.session_id.specs.Identifiers.{text_of}
use Rattle.session_machine.specs.declared.entry.Entry.{Entry}
use Rattle.session_machine.specs.declared.item.Profile.{Profile}
use Rattle.stream_core.specs.Whole.{IsWholeInput}
use Rattle.command_loop.specs.Flow.{Flow}
use Rattle.pipe_command.specs.declared.pipe.Pipe.{Pipe}
use Rattle.pipe_command.specs.declared.command_words.Command.{Command}
use Rattle.pipe_command.specs.declared.command_words.Command.TheVariants as commands
use Rattle.plain_desk.specs.Openings.{Opening, opening_with}
use Rattle.pipe_command.specs.PipeRun as pipe

-- a fact of a run of `pipe` or `trace`
abbrev pub IfPipe : Command → (Pipe → Type 0) → Type 0
IfPipe (commands.Pipe pipe) P = P pipe
IfPipe command P = ⊤

-- the command may have a PATH: `pipe`, `trace` or `drive`
abbrev pub TakesPath : Command → Type 0
TakesPath (commands.Pipe pipe) = ⊤
TakesPath commands.Drive = ⊤
TakesPath command = ⊥

-- a fact of a load
abbrev pub IfLoad : Command → (Load → Type 0) → Type 0
IfLoad (commands.Load load) P = P load
IfLoad command P = ⊤

-- What is seen of a call: the source before and after it, what source and sink tell, the keeper
-- that it was given, and its result.
pub record Seen (S K : Type 0) : Type 0 where
  pub source : S
  pub source' : S
  pub flow : Flow
  pub keeper : K
  pub result : Ran K

module _ {S K : Type 0} (G : Ghosts K) (seen : Seen S K) where
  -- What a command with a PATH does where the history of its items begins so: `pipe` and `trace` are
  -- one run, `drive` is one run of a page script, and has status 3 on no script.
  abbrev pub DoesFrom : Opening → Command → Type 0
  DoesFrom opening (commands.Pipe run) =
      (end : pipe.PipeEnd) × (seen.result.status ≡ pipe.status_of_pipe end)
      × pipe.IsRun G.can_count (record { pipe = run; opening = opening }) seen.flow
      (G.told seen.result.keeper) (G.count seen.result.keeper) end
  DoesFrom opening commands.Drive = (seen.result.status ≡ 3 → drive.TellsScript seen.flow.source → ⊥)
      × ((end : drive.ScriptEnd) × (seen.result.status ≡ drive.status_of_script end)
      × drive.IsDrive G.can_count (record { most = most_input; opening = opening }) seen.flow
      (G.told seen.result.keeper) (G.count seen.result.keeper) end)
  DoesFrom opening command = ⊥

  -- one replay that reports so, and leaves the keeper as it was
  abbrev pub Replays : ReplayReport → Type 0
  Replays report = (seen.result.keeper ≡ seen.keeper)
      × ((end : replay.ReplayEnd) × (seen.result.status ≡ replay.status_of_replay end)
      × replay.IsReplay report most_input seen.flow.source seen.flow.source' seen.flow.sink
      seen.flow.sink' end)

  -- What each command does. `pipe` and `trace` are one run; `load` is one load, and reads nothing;
  -- `replay` and `mirror` are one replay, which reports the judgement, or what lives at the moment
  -- behind a legal history; `drive` is one run of a page script, and has status 3 on no script;
  -- `id` reads nothing, and writes the identifier and a line feed.
  abbrev pub Does : Command → Type 0
  Does (commands.Pipe run) =
      DoesFrom (opening_with run.first most_cookie) (commands.Pipe run)
  Does (commands.Load load) = (seen.source' ≡ seen.source)
      × IsLoad G.can_count load seen.flow.sink (record {
        status = seen.result.status;
        sink = seen.flow.sink';
        told = G.told seen.result.keeper;
        faults = G.count seen.result.keeper;
      })
  Does commands.Replay = Replays reports.Judgement
  Does (commands.Mirror moment) = Replays (reports.Sessions moment)
  Does commands.Drive = DoesFrom (opening_with 1 most_cookie) commands.Drive
  Does (commands.Id bytes) = (seen.source' ≡ seen.source) × (seen.result.keeper ≡ seen.keeper)
      × WritesLine seen.result.status 0 seen.flow.sink seen.flow.sink' (text_of bytes ++ 10 ∷ [])

-- a journal is judged, and a text that is none is told
abbrev pub CompletesReplay : Option (List ℕ × List ℕ) → ℕ → Type 0
CompletesReplay told status =
    ((profile : Profile) (place : ℕ) (list : List Entry)
    → replay.TellsJournal told most_input profile place list
    → replay.IsStatusOf status profile place list)
    × (replay.TellsNoJournal told most_input → (status ≡ 3) ⊎ (status ≡ 6))

-- What each command does where neither source nor sink fails, if memory is there: whole messages
-- are answered, a journal is judged, a text that is none is told, a script is run whole.
abbrev pub Completes : Option (List ℕ × List ℕ) → ℕ → Command → Type 0
Completes told status (commands.Pipe run) =
    IsWholeInput told run.most → (status ≡ 0) ⊎ (status ≡ 6)
Completes told status commands.Replay = CompletesReplay told status
Completes told status (commands.Mirror moment) = CompletesReplay told status
Completes told status commands.Drive =
    drive.TellsScript told → drive.TellsFewer told most_input → (status ≡ 0) ⊎ (status ≡ 6)
Completes told status (commands.Load load) = ⊤
Completes told status (commands.Id bytes) = ⊤
