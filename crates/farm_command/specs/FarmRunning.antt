-- Inside a run over a farm: where it stands between two lines.
use Rattle.std.specs.Prelude.{◌≡◌, ◌≢◌, ◌⊎◌, ℕ, ◌<◌, ◌≤◌, Bool, List, [], ◌∷◌, ◌++◌, length, IsTrue}
use Rattle.command_loop.specs.Feeding.{Going, GoesOn, OverAnyhow, OverAtEnd}
use Rattle.keeper.specs.declared.keeping.Keeper.{Ghosts}
use Rattle.page_script.specs.declared.line.Line.{Line}
use Rattle.page_script.specs.Lines.{most_script_line}
use Rattle.partition.specs.declared.farm_script.FarmScript.{FarmScript}
use Rattle.partition.specs.Farm.{FarmLine, FarmRun, FarmStep, IsFarmRun, farm_text}
use Rattle.partition.specs.FarmStands.{FarmStands, servers_of}
use Rattle.plain_words.specs.Words.{HasNo}
use Rattle.script_runner.specs.declared.script_verdict.ScriptVerdict.{ScriptVerdict}
use Rattle.script_runner.specs.declared.script_verdict.ScriptVerdict.TheVariants.{Whole, Broken}
use Rattle.script_runner.specs.Drive.{AreScriptLines, script_text}
use Rattle.farm_command.specs.declared.driver.FarmDriver.{FarmDriver}
use Rattle.farm_command.specs.FarmDrive.{BeginsNoFarmLine}

-- no whole line is held, and no more of one than it may have, if more bytes could follow
abbrev pub FarmWaits : {K : Type 0} → Bool → FarmDriver K → Type 0
FarmWaits more now = HasNo 10 now.held × (IsTrue more → length now.held ≤ most_script_line)

module _ {K : Type 0} (G : Ghosts K) where
  -- The bytes are the lines of a run that the farm stands for, which printed the output, and a
  -- rest.
  pub record HasFarmRun (farm : FarmScript K) (bytes rest output : List ℕ) : Type 0 where
    pub run : FarmRun
    pub spelled : bytes ≡ script_text run.script ++ rest
    pub are_lines : AreScriptLines run.script
    pub stands : FarmStands G farm run
    pub printed : farm_text run.printed ≡ output

  -- The same, and the last of the lines prints what is behind that.
  pub record HasFarmRunLast (farm : FarmScript K) (bytes rest output printed : List ℕ) : Type 0
    where
      pub earlier : FarmRun
      pub last : Line
      pub lines : List FarmLine
      pub run : FarmRun
      pub spelled : bytes ≡ script_text run.script ++ rest
      pub are_lines : AreScriptLines run.script
      pub was_run : IsFarmRun (servers_of farm) earlier
      pub step : FarmStep (servers_of farm) earlier last run lines
      pub stands : FarmStands G farm run
      pub before : farm_text earlier.printed ≡ output
      pub behind : farm_text lines ≡ printed

  -- there are as many servers as there were
  abbrev pub KeepsServers : FarmDriver K → FarmDriver K → Type 0
  KeepsServers start now = servers_of now.scripts ≡ servers_of start.scripts

  abbrev pub FarmWent : FarmDriver K → FarmDriver K → List ℕ → List ℕ → Type 0
  FarmWent start now bytes given =
      HasFarmRun now.scripts bytes now.held given × KeepsServers start now

  -- the line that is held first is none, or too long
  abbrev pub FarmBreaks : Bool → ScriptVerdict → FarmDriver K → List ℕ → List ℕ → Type 0
  FarmBreaks more Whole now bytes whole = ⊥
  FarmBreaks more Broken now bytes whole =
      (ran : HasFarmRun now.scripts bytes now.held whole)
      × (BeginsNoFarmLine (servers_of now.scripts) ran.run.script now.held
      ⊎ (HasNo 10 now.held × (most_script_line < length now.held) × IsTrue more))

  -- the input ended behind a line, or inside one
  abbrev pub FarmCloses : ScriptVerdict → FarmDriver K → List ℕ → List ℕ → Type 0
  FarmCloses Whole now bytes whole =
      HasFarmRun now.scripts bytes now.held whole × (now.held ≡ [])
  FarmCloses Broken now bytes whole =
      HasFarmRun now.scripts bytes now.held whole × HasNo 10 now.held × (now.held ≢ [])

  -- what was given last: what the last line printed, or nothing where the script is over
  abbrev pub FarmGave : Going ScriptVerdict → FarmDriver K → FarmDriver K → List ℕ → List ℕ
      → List ℕ → Type 0
  FarmGave GoesOn start now bytes whole last =
      HasFarmRunLast now.scripts bytes now.held whole last × KeepsServers start now
  FarmGave (OverAnyhow more verdict) start now bytes whole last =
      (last ≡ []) × KeepsServers start now × FarmBreaks more verdict now bytes whole
  FarmGave (OverAtEnd verdict) start now bytes whole last =
      (last ≡ []) × KeepsServers start now × FarmCloses verdict now bytes whole

  -- no line was run, or one whose print is not written
  abbrev pub FarmLacks : FarmDriver K → FarmDriver K → List ℕ → List ℕ → Type 0
  FarmLacks start now bytes given = KeepsServers start now
      × ((rest : List ℕ) × (HasFarmRun now.scripts bytes rest given
      ⊎ ((printed : List ℕ) × HasFarmRunLast now.scripts bytes rest given printed)))
