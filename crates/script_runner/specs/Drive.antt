-- A run of a page script, from the bytes that were taken to those that were written.
use Rattle.std.specs.Prelude.{◌⊎◌, ◌≢◌, ◌≡◌, ℕ, ◌<◌, ◌≤◌, List, [], ◌∷◌, ◌++◌, length, take, Option, Some, None}
use Rattle.std.specs.List.{AllByRecursion}
use Rattle.asp_base.specs.Outside.{Gives, IsAtEnd, Takes}
use Rattle.plain_desk.specs.Openings.{Opening}
use Rattle.plain_words.specs.Words.{HasNo, SplitsAt}
use Rattle.session_machine.specs.declared.item.Item.{Item}
use Rattle.shard_core.specs.ShardStands.{StandsFor}
use Rattle.page_script.specs.declared.line.Line.{Line}
use Rattle.page_script.specs.Lines.{line_text, IsScriptLine, most_script_line}
use Rattle.page_script.specs.World.{World, history, MayStandNext, WorldStep, IsWorldRun, IsLawfulWorld, PagesForceOldLocks}
use Rattle.page_script.specs.ScriptStands.{IfTold}
use Rattle.script_runner.specs.declared.script_verdict.ScriptVerdict.{ScriptVerdict}
use Rattle.script_runner.specs.declared.script_verdict.ScriptVerdict.TheVariants.{Whole, Broken}
use Rattle.command_loop.specs.Flow.{Flow}
use Rattle.command_loop.specs.Status.{status_of_run as status_with}
use Rattle.command_loop.specs.declared.ending.RunEnd as run
use Rattle.command_loop.specs.declared.ending.RunEnd.TheVariants.{Over, ReadFault, WriteFault, NoMemory, Long}

-- ---- lines in bytes

-- the text of lines, each with a line feed behind it
abbrev pub script_text : List Line → List ℕ
script_text [] = []
script_text (line ∷ script) = line_text line ++ 10 ∷ script_text script

-- each of them is a line of a script: its numbers and lengths are in range
abbrev pub AreScriptLines : List Line → Type 0
AreScriptLines script = AllByRecursion (λ line. IsScriptLine (line_text line) line) script

-- The rest begins with a whole line, which is no line of a script that may follow in this world.
pub record BeginsNoScript (world : World) (rest : List ℕ) : Type 0 where
  pub text : List ℕ
  pub behind : List ℕ
  pub split : SplitsAt 10 rest text behind
  pub none : (line : Line) → IsScriptLine text line → MayStandNext world line → ⊥

-- the rest is no whole line: it is longer than a line may be, or the input ended inside it
abbrev pub IsUnfinished : Option (List ℕ × List ℕ) → List ℕ → Type 0
IsUnfinished source' rest =
    HasNo 10 rest × ((most_script_line < length rest) ⊎ ((rest ≢ []) × IsAtEnd source'))

-- ---- endings

-- What a run is told, and how the history of its items begins: the most bytes that it takes, and the
-- opening.
pub record DriveStart : Type 0 where
  pub most : ℕ
  pub opening : Opening

-- how a run ends
abbrev pub ScriptEnd : Type 0
ScriptEnd = run.RunEnd ScriptVerdict

-- Where a run stood when it ended: its start, the flow of its bytes, the lines that were run, the
-- world after them and what they print, the rest behind them, and how many bytes were taken.
pub record ScriptReached : Type 0 where
  pub start : DriveStart
  pub flow : Flow
  pub script : List Line
  pub world : World
  pub output : List ℕ
  pub rest : List ℕ
  pub count : ℕ

-- The last line is a step whose print failed: all that was printed before it was written, and so
-- many bytes of its own print.
pub record ScriptWroteInPart (r : ScriptReached) (count : ℕ) : Type 0 where
  pub earlier : List Line
  pub last : Line
  pub middle : World
  pub before : List ℕ
  pub printed : List ℕ
  pub lines : r.script ≡ earlier ++ last ∷ []
  pub run : IsWorldRun r.start.opening earlier middle before
  pub step : WorldStep middle last r.world printed
  pub whole : r.output ≡ before ++ printed
  pub within : count ≤ length printed
  pub written : Takes r.flow.sink r.flow.sink' (before ++ take count printed)

-- all that was printed was written
abbrev pub WroteAll : ScriptReached → Type 0
WroteAll r = Takes r.flow.sink r.flow.sink' r.output

-- What holds at each ending. Where memory was wanting in a step, the step was made, and its print
-- is not written; or it was not made.
abbrev pub ScriptEndsAs : ScriptEnd → ScriptReached → Type 0
ScriptEndsAs (Over Whole) r =
    IsAtEnd r.flow.source' × (r.rest ≡ []) × (r.count < r.start.most) × WroteAll r
ScriptEndsAs (Over Broken) r =
    (BeginsNoScript r.world r.rest ⊎ (IsUnfinished r.flow.source' r.rest × (r.count < r.start.most)))
    × WroteAll r
ScriptEndsAs ReadFault r =
    HasNo 10 r.rest × (length r.rest ≤ most_script_line) × (r.count < r.start.most)
    × WroteAll r
ScriptEndsAs WriteFault r = (n : ℕ) × ScriptWroteInPart r n
ScriptEndsAs NoMemory r = WroteAll r ⊎ ScriptWroteInPart r 0
ScriptEndsAs Long r = HasNo 10 r.rest × (r.count ≡ r.start.most) × WroteAll r

-- the exit status of what was found
abbrev pub script_verdict_status : ScriptVerdict → ℕ
script_verdict_status Whole = 0
script_verdict_status Broken = 3

-- the exit status of an ending: 4 to 7 where it was stopped
abbrev pub status_of_script : ScriptEnd → ℕ
status_of_script end = status_with script_verdict_status end

-- ---- a run

-- A run: the bytes taken are lines of a script and a rest; the lines lead from the opening's world to
-- a world, and print an output, which was written as the ending says; each entry of that world's
-- requests has its cause, and the keeper that is handed back has the items and the count after
-- them; its pages are lawful, and release by force only locks that are in force and old. (CanCount
-- says which counts of faults the keeper's type can have; told and faults are what the keeper tells
-- and counts after the run.)
pub record IsDrive (CanCount : ℕ → Type 0) (start : DriveStart) (f : Flow)
    (told : Option (List ℕ → Option Item)) (faults : ℕ) (end : ScriptEnd) : Type 0 where
  pub bytes : List ℕ
  pub script : List Line
  pub rest : List ℕ
  pub world : World
  pub output : List ℕ
  pub given : Gives f.source f.source' bytes
  pub within : length bytes ≤ start.most
  pub spelled : bytes ≡ script_text script ++ rest
  pub lines : AreScriptLines script
  pub run : IsWorldRun start.opening script world output
  pub counts : AllByRecursion (λ e. CanCount e.faults) (history world.turns)
  pub stands : StandsFor start.opening.items start.opening.count (history world.turns) told faults
  pub lawful : IsLawfulWorld world
  pub forced : IfTold told (PagesForceOldLocks world)
  pub ends : ScriptEndsAs end (record {
    start = start;
    flow = f;
    script = script;
    world = world;
    output = output;
    rest = rest;
    count = length bytes;
  })

-- the text is a script: lines that lead from some opening's world to another
abbrev pub IsScript : List ℕ → Type 0
IsScript text = (opening : Opening) × (script : List Line) × (world : World) × (output : List ℕ)
    × (text ≡ script_text script) × AreScriptLines script
    × IsWorldRun opening script world output

-- the source tells an input that is a script
abbrev pub TellsScript : Option (List ℕ × List ℕ) → Type 0
TellsScript None = ⊥
TellsScript (Some told) = IsScript told.1

-- the source tells an input of fewer than so many bytes
abbrev pub TellsFewer : Option (List ℕ × List ℕ) → ℕ → Type 0
TellsFewer None most = ⊥
TellsFewer (Some told) most = length told.1 < most
