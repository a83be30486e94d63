-- A load under way.
use Rattle.std.specs.Prelude.{◌≡◌, ◌⊎◌, ℕ, ◌+◌, ◌≤◌, List, [], ◌++◌, length}
use Rattle.std.specs.List.{AllByRecursion}
use Rattle.keeper.specs.declared.keeping.Keeper.{Ghosts}
use Rattle.plain_desk.specs.DeskStands.{DeskOf, DeskState, DeskStandsFor, desk_state}
use Rattle.session_machine.specs.declared.entry.Entry.{Entry}
use Rattle.session_machine.specs.History.{nothing}
use Rattle.load_generator.specs.Load.{AreMade, seeded}
use Rattle.load_generator.specs.LoadRun.{IsLastRemoval, EndsLoadSweep}

-- The desk stands for these requests of the load.
pub record HasAsked (CanCount : ℕ → Type 0) (seed : ℕ) (requests : List Entry) (state : DeskState)
    : Type 0 where
  pub made : AreMade (seeded seed) 0 requests
  pub desk : DeskStandsFor CanCount 1 nothing 0 requests state

-- the same of a desk over a keeper of the type
abbrev pub DeskHasAsked : {K : Type 0} → Ghosts K → ℕ → List Entry → DeskOf K → Type 0
DeskHasAsked G seed requests desk = HasAsked G.can_count seed requests (desk_state G desk)

-- So many items were removed behind a history, and then a look removed none, or all the looks that
-- may be made removed one.
pub record SweepsLoad (CanCount : ℕ → Type 0) (first_cookie most : ℕ) (list : List Entry)
    (state : DeskState)
    (removed : ℕ) : Type 0 where
  pub removals : List Entry
  pub looks : List Entry
  pub expired : AllByRecursion IsLastRemoval removals
  pub counted : length removals ≡ removed
  pub few : length removals + length looks ≤ most
  pub desk : DeskStandsFor CanCount first_cookie nothing 0 (list ++ removals ++ looks) state
  pub ends : ((looks ≡ []) × (removed ≡ most)) ⊎ EndsLoadSweep state.told looks

-- the same of a desk over a keeper of the type
abbrev pub DeskSweeps : {K : Type 0} → Ghosts K → ℕ → ℕ → List Entry → DeskOf K → ℕ → Type 0
DeskSweeps G first_cookie most list desk removed =
    SweepsLoad G.can_count first_cookie most list (desk_state G desk) removed

-- so many items were removed behind a history
pub record Removes (CanCount : ℕ → Type 0) (first_cookie : ℕ) (list : List Entry)
    (state : DeskState)
    (removed : ℕ) : Type 0 where
  pub removals : List Entry
  pub expired : AllByRecursion IsLastRemoval removals
  pub counted : length removals ≡ removed
  pub desk : DeskStandsFor CanCount first_cookie nothing 0 (list ++ removals) state
