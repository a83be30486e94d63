-- Passes side by side.
use Rattle.std.specs.Prelude.{◌≡◌, ℕ, ◌<◌, List, length, slice_index_or, All}
use Rattle.session_machine.specs.declared.entry.Entry.{Entry}
use Rattle.keeper.specs.declared.keeping.Keeper.{Ghosts as KeeperGhosts}
use Rattle.turnstile.specs.declared.stands.Stands.{Ghosts}
use Rattle.state_store.specs.declared.store_desk.StoreDesk.{StoreDesk}
use Rattle.state_store.specs.declared.store.Pass.{Pass}
use Rattle.state_store.specs.declared.store.Store.{Store}
use Rattle.state_store.specs.Passes.{caller_of, view_in, IsPassOf}
use Rattle.stream_server.specs.Meeting.{MetUpTo, HasMet}

module _ {K : Type 0} {G : Ghosts (StoreDesk K) Entry} where
  -- they have the caller numbers that they had
  abbrev pub HaveSameCallers : List (Pass K Entry G) → List (Pass K Entry G) → Type 0
  HaveSameCallers old new = (j : ℕ) (d : Pass K Entry G) → j < length old
      → caller_of (slice_index_or new j d) ≡ caller_of (slice_index_or old j d)

  -- in each shard the first met the others before the k-th
  abbrev pub MeetsUpTo : ℕ → Pass K Entry G → Pass K Entry G → List (Pass K Entry G)
      → List (Pass K Entry G) → Type 0
  MeetsUpTo k first first' others others' =
      (shard : ℕ) → MetUpTo (λ (p : Pass K Entry G). view_in p shard) k first first' others others'

  -- in each shard a pass has the one front, which its own began, and its own calls
  abbrev pub HasMetAll : (ℕ → List Entry) → Pass K Entry G → Pass K Entry G → Type 0
  HasMetAll fronts old new =
      (shard : ℕ) → HasMet (λ (p : Pass K Entry G). view_in p shard) (fronts shard) old new

  -- so has each of them
  abbrev pub HaveMetAll : (ℕ → List Entry) → List (Pass K Entry G) → List (Pass K Entry G) → Type 0
  HaveMetAll fronts old new = (j : ℕ) (d : Pass K Entry G) → j < length old
      → HasMetAll fronts (slice_index_or old j d) (slice_index_or new j d)

  -- the front of a pass in each shard
  abbrev pub fronts_of : Pass K Entry G → ℕ → List Entry
  fronts_of p shard = (view_in p shard).front

module _ {K : Type 0} {H : KeeperGhosts K} {G : Ghosts (StoreDesk K) Entry} where
  -- All have met, and no caller but those of as many passes as the roll made stands in their
  -- fronts.
  pub record AllHaveMet (store : Store K Entry H) (made : ℕ)
      (old new : List (Pass K Entry G)) : Type 0 where
    pub each : All (IsPassOf store) new
    pub callers : HaveSameCallers old new
    pub fronts : ℕ → List Entry
    pub met : HaveMetAll fronts old new
    pub below : (shard : ℕ) → All (λ e. e.caller < made) (fronts shard)
