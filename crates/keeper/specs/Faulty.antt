-- A keeper with faults at its listed calls, as contracts see it.
use Rattle.std.specs.Prelude.{◌≡◌, ℕ, ◌+◌, ◌-◌, ◌^◌, List, Option, min, Contains, Result, IsErrOf}
use Rattle.asp_base.specs.InMemory.{counted_once_more}
use Rattle.session_machine.specs.declared.item.Item.{Item}
use Rattle.keeper.specs.KeeperCauses.{HasKeepCause}
use Rattle.keeper.specs.declared.keeping.KeepError.{KeepError}
use Rattle.keeper.specs.declared.keeping.KeepError.TheVariants.{Fault}
use Rattle.keeper.specs.declared.keeping.Keeper.{Ghosts}

-- The keeper that it wraps, how many calls were made, which are listed, and how many of these were
-- made: its own faults.
pub record Wrapped (K : Type 0) : Type 0 where
  pub inner : K
  pub calls : ℕ
  pub fails : List ℕ
  pub faults : ℕ

-- its own faults and those of the keeper that it wraps, up to the last value of a `u64`
abbrev pub all_faults : ℕ → ℕ → ℕ
all_faults own inner = min (own + inner) (2 ^ 64 - 1)

module _ {K : Type 0} (G : Ghosts K) where
  -- what the keeper that it wraps tells
  abbrev pub told_inside : Wrapped K → Option (List ℕ → Option Item)
  told_inside k = G.told k.inner

  -- no call changes the floor of the keeper that it wraps
  abbrev pub FloorStays : Wrapped K → Wrapped K → Type 0
  FloorStays old new = G.floor new.inner ≡ G.floor old.inner

  -- the count of its faults and of those of the keeper that it wraps
  abbrev pub faults_of : Wrapped K → ℕ
  faults_of k = all_faults k.faults (G.count k.inner)

  -- a fault comes only where that count rose
  abbrev pub HasCauseInAll : {T : Type 0} → Wrapped K → Wrapped K → Result T KeepError → Type 0
  HasCauseInAll old new result = HasKeepCause (faults_of old) (faults_of new) result

  -- Each call is counted. A listed call is answered by a fault, which is counted, and does not
  -- reach
  -- the keeper that it wraps; every other call is that keeper's, with its causes.
  pub record FailsListed {T : Type 0} (old new : Wrapped K) (result : Result T KeepError)
      : Type 0 where
    pub calls : new.calls ≡ counted_once_more old.calls
    pub fails : new.fails ≡ old.fails
    pub listed : Contains old.fails old.calls → IsErrOf result Fault × (new.inner ≡ old.inner)
        × (new.faults ≡ counted_once_more old.faults)
    pub other : ¬ Contains old.fails old.calls → (new.faults ≡ old.faults)
        × HasKeepCause (G.count old.inner) (G.count new.inner) result
