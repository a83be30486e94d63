-- Inside a run: where it stands between two pieces.
use Rattle.std.specs.Prelude.{◌≡◌, ℕ, ◌+◌, List, length, Option}
use Rattle.asp_base.specs.Outside.{Gives, Takes}
use Rattle.command_loop.specs.declared.consumer.Consumer.{Ghosts}
use Rattle.command_loop.specs.declared.ending.RunEnd.{RunEnd}
use Rattle.command_loop.specs.Ending.{StopsAs}
use Rattle.command_loop.specs.Feeding.{FollowsFrom, Going, GoesOn}
use Rattle.command_loop.specs.Flow.{Flow}

-- A run up to now: these bytes were taken, those were given for them and written, and so many may
-- still be taken.
pub record Running {C : Type 0} (Went : C → C → List ℕ → List ℕ → Type 0) (most : ℕ) (start now : C)
    (f : Flow) (left : ℕ) : Type 0 where
  pub taken : List ℕ
  pub given : List ℕ
  pub read : Gives f.source f.source' taken
  pub went : Went start now taken given
  pub written : Takes f.sink f.sink' given
  pub left_is : length taken + left ≡ most

-- Wherever the run stood, it stops so behind a consumer that did something, or was asked for the
-- last time: over, if it is, in this way.
abbrev pub RunStops : {C V : Type 0} → Ghosts C V → (V → Going V) → C → C → Option (List ℕ)
    → Option (List ℕ) → RunEnd V → Type 0
RunStops G way old new sink sink' end = (untaken : Option (List ℕ)) → FollowsFrom G.went old
    (λ start fed given. Takes untaken sink given
    → StopsAs (λ over. G.gave (way over) start new fed) (G.gave GoesOn start new fed)
    (G.lacks start new fed) end untaken sink')
