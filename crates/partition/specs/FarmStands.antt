-- When a farm's scripts stand for the worlds of its servers.
use Rattle.std.specs.Prelude.{◌≡◌, ◌⊎◌, ◌↔◌, ℕ, ◌<◌, ◌≤◌, List, length, Some, true, slice_index_or, ⊤}
use Rattle.std.specs.List.{AllByRecursion}
use Rattle.keeper.specs.declared.keeping.Keeper.{Ghosts}
use Rattle.placement.specs.Placement.{server_of_key}
use Rattle.page_script.specs.declared.line.Line.{Line}
use Rattle.page_script.specs.declared.script.Script.{Script}
use Rattle.page_script.specs.Lines.{IsScriptLine}
use Rattle.page_script.specs.ScriptStands.{ScriptStands}
use Rattle.page_script.specs.World.{Page, World, HasName}
use Rattle.partition.specs.declared.farm_script.FarmScript.{FarmScript}
use Rattle.partition.specs.Farm.{FarmLine, FarmRun, FarmStep, IsFarmRun, farm_text}
use Rattle.partition.specs.Shares.{MayFollow, home_of, page_count}

-- how many servers there are
abbrev pub servers_of : {K : Type 0} → FarmScript K → ℕ
servers_of farm = length farm.scripts.items

-- memory was wanting
abbrev pub FarmIsOver : {K : Type 0} → FarmScript K → Type 0
FarmIsOver farm = farm.is_over ≡ true

-- the script of each server stands for the world of that server
abbrev pub ScriptsStand : {K : Type 0} → Ghosts K → List (Script K) → (ℕ → World) → Type 0
ScriptsStand G scripts worlds =
    (server : ℕ) (script : Script _) → server < length scripts
    → script ≡ slice_index_or scripts server script → ScriptStands G script (worlds server)

-- the pages of a server are for keys of its own
abbrev pub OwnPages : ℕ → ℕ → List Page → Type 0
OwnPages servers server pages =
    AllByRecursion (λ (page : Page). server_of_key page.terms.key servers ≡ server) pages

-- The servers' pages are those of the script: each has the names whose home it is.
pub record NamesStand (servers : ℕ) (run : FarmRun) : Type 0 where
  pub homes : (server : ℕ) → server < servers → (name : List ℕ)
      → HasName (run.worlds server).pages name
      ↔ (home_of servers run.script name ≡ Some server)
  pub inside : (name : List ℕ) (server : ℕ) → home_of servers run.script name ≡ Some server
      → server < servers
  pub few : (server : ℕ) → server < servers
      → length (run.worlds server).pages ≤ page_count run.script
  pub own : (server : ℕ) → server < servers → OwnPages servers server (run.worlds server).pages

-- The farm stands for the run.
pub record FarmStands {K : Type 0} (G : Ghosts K) (farm : FarmScript K) (run : FarmRun) : Type
    0 where
  pub scripts : ScriptsStand G farm.scripts.items run.worlds
  pub is_run : IsFarmRun (servers_of farm) run
  pub names : NamesStand (servers_of farm) run
  pub pages : farm.pages ≡ page_count run.script

-- Nothing changed: each server has the script that it had, and the farm has its count of pages.
pub record IsSameFarm {K : Type 0} (farm farm' : FarmScript K) : Type 0 where
  pub scripts : farm'.scripts.items ≡ farm.scripts.items
  pub pages : farm'.pages ≡ farm.pages
  pub is_over : farm'.is_over ≡ farm.is_over

-- a fact of each run that the farm stands for
abbrev pub EachRun : {K : Type 0} → Ghosts K → FarmScript K → (FarmRun → Type 0) → Type 0
EachRun G farm P = (run : FarmRun) → FarmStands G farm run → P run

-- each run that the farm stood for is one that it still stands for
abbrev pub EachRunStays : {K : Type 0} → Ghosts K → FarmScript K → FarmScript K → Type 0
EachRunStays G farm farm' = EachRun G farm (FarmStands G farm')

-- The run takes the line: the farm stands for the run after it, and what is printed for it meets
-- the condition.
pub record FarmTakes {K : Type 0} (G : Ghosts K) (farm' : FarmScript K) (run : FarmRun)
    (line : Line) (Prints : List ℕ → Type 0) : Type 0 where
  pub run' : FarmRun
  pub printed : List FarmLine
  pub step : FarmStep (servers_of farm') run line run' printed
  pub stands : FarmStands G farm' run'
  pub prints : Prints (farm_text printed)

-- each run that the farm stood for takes the line
abbrev pub EachRunTakes : {K : Type 0} → Ghosts K → FarmScript K → FarmScript K → Line
    → (List ℕ → Type 0) → Type 0
EachRunTakes G farm farm' line Prints =
    EachRun G farm (λ run. FarmTakes G farm' run line Prints)

-- each of them stays, or takes the line, whatever is printed for it
abbrev pub EachRunMayTake : {K : Type 0} → Ghosts K → FarmScript K → FarmScript K → Line → Type 0
EachRunMayTake G farm farm' line = EachRun G farm
    (λ run. FarmStands G farm' run ⊎ FarmTakes G farm' run line (λ printed. ⊤))

-- in none of them may the line follow
abbrev pub NoRunTakes : {K : Type 0} → Ghosts K → FarmScript K → Line → Type 0
NoRunTakes G farm line =
    EachRun G farm (λ run. MayFollow (servers_of farm) run.script line → ⊥)

-- The text is a line, and the run takes it.
pub record FarmTakesText {K : Type 0} (G : Ghosts K) (farm' : FarmScript K) (run : FarmRun)
    (text : List ℕ) (Prints : List ℕ → Type 0) : Type 0 where
  pub line : Line
  pub is_line : IsScriptLine text line
  pub takes : FarmTakes G farm' run line Prints

-- the text is a line, and each run that the farm stood for takes it
abbrev pub EachRunTakesText : {K : Type 0} → Ghosts K → FarmScript K → FarmScript K → List ℕ
    → (List ℕ → Type 0) → Type 0
EachRunTakesText G farm farm' text Prints =
    EachRun G farm (λ run. FarmTakesText G farm' run text Prints)

-- each of them stays, or takes the line that the text is, whatever is printed for it
abbrev pub EachRunMayTakeText : {K : Type 0} → Ghosts K → FarmScript K → FarmScript K → List ℕ
    → Type 0
EachRunMayTakeText G farm farm' text = EachRun G farm
    (λ run. FarmStands G farm' run ⊎ FarmTakesText G farm' run text (λ printed. ⊤))

-- the text is no line that may follow in one of them
abbrev pub NoRunTakesText : {K : Type 0} → Ghosts K → FarmScript K → List ℕ → Type 0
NoRunTakesText G farm text = (line : Line) → IsScriptLine text line → NoRunTakes G farm line
