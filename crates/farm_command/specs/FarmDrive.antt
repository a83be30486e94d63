-- A run of a page script over a farm, from the bytes that were taken to those that were written.
use Rattle.std.specs.Prelude.{◌⊎◌, ◌≡◌, ℕ, ◌<◌, ◌≤◌, List, [], ◌++◌, length, take, Option, Some, None}
use Rattle.asp_base.specs.Outside.{Gives, IsAtEnd, Takes}
use Rattle.command_loop.specs.Flow.{Flow}
use Rattle.command_loop.specs.declared.ending.RunEnd.TheVariants.{Over, ReadFault, WriteFault, NoMemory, Long}
use Rattle.keeper.specs.declared.keeping.Keeper.{Ghosts}
use Rattle.page_script.specs.declared.line.Line.{Line}
use Rattle.page_script.specs.Lines.{IsScriptLine, most_script_line}
use Rattle.partition.specs.declared.farm_script.FarmScript.{FarmScript}
use Rattle.partition.specs.Farm.{FarmLine, FarmRun, FarmStep, IsFarmRun, farm_text}
use Rattle.partition.specs.FarmStands.{FarmStands, servers_of}
use Rattle.partition.specs.Shares.{EachFollows, MayFollow}
use Rattle.plain_words.specs.Words.{HasNo, SplitsAt}
use Rattle.script_runner.specs.declared.script_verdict.ScriptVerdict.TheVariants.{Whole, Broken}
use Rattle.script_runner.specs.Drive.{AreScriptLines, IsUnfinished, ScriptEnd, script_text}

-- The rest begins with a whole line, which is no line that may follow these on so many servers.
pub record BeginsNoFarmLine (servers : ℕ) (script : List Line) (rest : List ℕ) : Type 0 where
  pub text : List ℕ
  pub behind : List ℕ
  pub split : SplitsAt 10 rest text behind
  pub none : (line : Line) → IsScriptLine text line → MayFollow servers script line → ⊥

-- Where a run stood when it ended: the servers and the most bytes, the flow of its bytes, the run
-- of the farm, the rest behind its lines, and how many bytes were taken.
pub record FarmReached : Type 0 where
  pub servers : ℕ
  pub most : ℕ
  pub flow : Flow
  pub run : FarmRun
  pub rest : List ℕ
  pub count : ℕ

-- The last line is a step whose print failed: all that was printed before it was written, and so
-- many bytes of its own print.
pub record FarmWroteInPart (r : FarmReached) (count : ℕ) : Type 0 where
  pub earlier : FarmRun
  pub last : Line
  pub printed : List FarmLine
  pub is_run : IsFarmRun r.servers earlier
  pub step : FarmStep r.servers earlier last r.run printed
  pub within : count ≤ length (farm_text printed)
  pub written : Takes r.flow.sink r.flow.sink'
      (farm_text earlier.printed ++ take count (farm_text printed))

-- all that was printed was written
abbrev pub FarmWroteAll : FarmReached → Type 0
FarmWroteAll r = Takes r.flow.sink r.flow.sink' (farm_text r.run.printed)

-- What holds at each ending. Where memory was wanting in a step, the step was made, and its print
-- is not written; or it was not made.
abbrev pub FarmEndsAs : ScriptEnd → FarmReached → Type 0
FarmEndsAs (Over Whole) r =
    IsAtEnd r.flow.source' × (r.rest ≡ []) × (r.count < r.most) × FarmWroteAll r
FarmEndsAs (Over Broken) r =
    (BeginsNoFarmLine r.servers r.run.script r.rest
    ⊎ (IsUnfinished r.flow.source' r.rest × (r.count < r.most)))
    × FarmWroteAll r
FarmEndsAs ReadFault r =
    HasNo 10 r.rest × (length r.rest ≤ most_script_line) × (r.count < r.most) × FarmWroteAll r
FarmEndsAs WriteFault r = (n : ℕ) × FarmWroteInPart r n
FarmEndsAs NoMemory r = FarmWroteAll r ⊎ FarmWroteInPart r 0
FarmEndsAs Long r = HasNo 10 r.rest × (r.count ≡ r.most) × FarmWroteAll r

-- A run over a farm: the bytes taken are lines of a script and a rest; the lines are a run of the
-- farm, whose output was written as the ending says; and the farm that is handed back stands for
-- that run, each server's keeper with it.
pub record IsFarm {K : Type 0} (G : Ghosts K) (farm : FarmScript K) (most : ℕ) (f : Flow)
    (end : ScriptEnd) : Type 0 where
  pub bytes : List ℕ
  pub run : FarmRun
  pub rest : List ℕ
  pub given : Gives f.source f.source' bytes
  pub within : length bytes ≤ most
  pub spelled : bytes ≡ script_text run.script ++ rest
  pub lines : AreScriptLines run.script
  pub is_run : IsFarmRun (servers_of farm) run
  pub stands : FarmStands G farm run
  pub ends : FarmEndsAs end (record {
    servers = servers_of farm;
    most = most;
    flow = f;
    run = run;
    rest = rest;
    count = length bytes;
  })

-- the text is a script for so many servers: lines each of which may follow those before it
abbrev pub IsFarmScript : ℕ → List ℕ → Type 0
IsFarmScript servers text =
    (script : List Line) × (text ≡ script_text script) × AreScriptLines script
    × EachFollows servers [] script

-- the source tells an input that is such a script
abbrev pub TellsFarmScript : ℕ → Option (List ℕ × List ℕ) → Type 0
TellsFarmScript servers None = ⊥
TellsFarmScript servers (Some told) = IsFarmScript servers told.1
