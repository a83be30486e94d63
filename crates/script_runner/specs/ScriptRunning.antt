-- Inside a run: where it stands between two lines.
use Rattle.std.specs.Prelude.{◌≡◌, ◌≢◌, ◌⊎◌, ℕ, ◌<◌, ◌≤◌, Bool, List, [], ◌∷◌, ◌++◌, length, IsTrue}
use Rattle.keeper.specs.declared.keeping.Keeper.{Ghosts}
use Rattle.page_script.specs.declared.line.Line.{Line}
use Rattle.page_script.specs.declared.script.Script.{Script}
use Rattle.page_script.specs.Lines.{most_script_line}
use Rattle.page_script.specs.World.{World, IsWorldRun, WorldStep}
use Rattle.page_script.specs.ScriptStands.{ScriptStands, keeper_of, opening_of}
use Rattle.plain_desk.specs.Openings.{NeverBegins, Opening}
use Rattle.plain_words.specs.Words.{HasNo}
use Rattle.script_runner.specs.declared.driver.Driver.{Driver}
use Rattle.script_runner.specs.declared.script_verdict.ScriptVerdict.{ScriptVerdict}
use Rattle.script_runner.specs.declared.script_verdict.ScriptVerdict.TheVariants.{Whole, Broken}
use Rattle.script_runner.specs.Drive.{script_text, AreScriptLines, BeginsNoScript}
use Rattle.command_loop.specs.Feeding.{Going, GoesOn, OverAnyhow, OverAtEnd}

-- no whole line is held, and no more of one than it may have, if more bytes could follow
abbrev pub ScriptWaits : {K : Type 0} → Bool → Driver K → Type 0
ScriptWaits more now = HasNo 10 now.held × (IsTrue more → length now.held ≤ most_script_line)

module _ {K : Type 0} (G : Ghosts K) where
  -- The bytes are lines and a rest; the lines lead from the opening's world to a world that the
  -- script stands for, and print the output.
  pub record HasRun (opening : Opening) (script : Script K) (bytes rest output : List ℕ) : Type 0
    where
      pub lines : List Line
      pub world : World
      pub spelled : bytes ≡ script_text lines ++ rest
      pub are_lines : AreScriptLines lines
      pub run : IsWorldRun opening lines world output
      pub stands : ScriptStands G script world

  -- The same, and the last of the lines prints what is behind that.
  pub record HasRunLast (opening : Opening) (script : Script K) (bytes rest output printed : List ℕ)
      : Type 0 where
    pub earlier : List Line
    pub last : Line
    pub middle : World
    pub world : World
    pub spelled : bytes ≡ script_text (earlier ++ last ∷ []) ++ rest
    pub are_lines : AreScriptLines (earlier ++ last ∷ [])
    pub run : IsWorldRun opening earlier middle output
    pub step : WorldStep middle last world printed
    pub stands : ScriptStands G script world

  -- no cookie may be drawn below the same number, and the keeper did not begin to tell
  abbrev pub KeepsFloor : Driver K → Driver K → Type 0
  KeepsFloor start now = (G.floor (keeper_of now.script) ≡ G.floor (keeper_of start.script))
      × NeverBegins (G.told (keeper_of start.script)) (G.told (keeper_of now.script))

  -- ---- a script as a consumer

  abbrev pub ScriptWent : Driver K → Driver K → List ℕ → List ℕ → Type 0
  ScriptWent start now bytes given =
      HasRun (opening_of G start.script) now.script bytes now.held given × KeepsFloor start now

  -- the line that is held first is none, or too long
  abbrev pub ScriptBreaks : Bool → ScriptVerdict → Driver K → Driver K → List ℕ → List ℕ
      → Type 0
  ScriptBreaks more Whole start now bytes whole = ⊥
  ScriptBreaks more Broken start now bytes whole =
      (run : HasRun (opening_of G start.script) now.script bytes now.held whole)
      × (BeginsNoScript run.world now.held
      ⊎ (HasNo 10 now.held × (most_script_line < length now.held) × IsTrue more))

  -- the input ended behind a line, or inside one
  abbrev pub ScriptCloses : ScriptVerdict → Driver K → Driver K → List ℕ → List ℕ → List ℕ → Type 0
  ScriptCloses Whole start now bytes whole last = (last ≡ []) × KeepsFloor start now
      × HasRun (opening_of G start.script) now.script bytes now.held whole × (now.held ≡ [])
  ScriptCloses Broken start now bytes whole last = (last ≡ []) × KeepsFloor start now
      × HasRun (opening_of G start.script) now.script bytes now.held whole
      × HasNo 10 now.held × (now.held ≢ [])

  -- what was given last: what the last line printed, or nothing where the script is over
  abbrev pub ScriptGave : Going ScriptVerdict → Driver K → Driver K → List ℕ → List ℕ → List ℕ
      → Type 0
  ScriptGave GoesOn start now bytes whole last =
      HasRunLast (opening_of G start.script) now.script bytes now.held whole last
      × KeepsFloor start now
  ScriptGave (OverAnyhow more verdict) start now bytes whole last =
      (last ≡ []) × KeepsFloor start now
      × ScriptBreaks more verdict start now bytes whole
  ScriptGave (OverAtEnd verdict) start now bytes whole last = ScriptCloses verdict start now bytes
      whole last

  -- no line was run, or one whose print is not written
  abbrev pub ScriptLacks : Driver K → Driver K → List ℕ → List ℕ → Type 0
  ScriptLacks start now bytes given = KeepsFloor start now
      × ((rest : List ℕ) × (HasRun (opening_of G start.script) now.script bytes rest given
      ⊎ ((printed : List ℕ)
      × HasRunLast (opening_of G start.script) now.script bytes rest given printed)))
