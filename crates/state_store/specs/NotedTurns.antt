-- What a turn leaves whose entry is given to the caller.
use Rattle.std.specs.Prelude.{◌≡◌, ℕ, List, Option, ⊤}
use Rattle.asp_messages.specs.declared.request.Request.{Request}
use Rattle.session_machine.specs.declared.entry.Entry.{Entry}
use Rattle.session_machine.specs.declared.item.Item.{Item}
use Rattle.session_machine.specs.History.{IsFormed}
use Rattle.shard_core.specs.declared.shard.Swept.{Swept}
use Rattle.shard_core.specs.ShardStands.{asked_entry}
use Rattle.shard_core.specs.Sweeping.{swept_entry}
use Rattle.state_store.specs.declared.notes.Noted.{Noted}
use Rattle.state_store.specs.declared.notes.Noted.TheVariants as noted
use Rattle.state_store.specs.declared.notes.Placed.{Placed}
use Rattle.state_store.specs.StoreTurns.{View, Call, IsAsked, IsLook}

-- a fact of the entry that a turn left, where it had a place
abbrev pub IfPlaced : Noted → (Placed → Type 0) → Type 0
IfPlaced noted.PlacesOut Fact = ⊤
IfPlaced (noted.Placed placed) Fact = Fact placed

-- no place was left
abbrev pub IsPlacesOut : Noted → Type 0
IsPlacesOut noted.PlacesOut = ⊤
IsPlacesOut (noted.Placed placed) = ⊥

-- A request was answered in this shard, and what is given is the entry that was left at this place,
-- the last of the front.
pub record IsAskedWith (call : Call) (shard : ℕ) (request : Request) (old new : View)
    (placed : Placed) : Type 0 where
  pub shard_is : placed.shard ≡ shard
  pub asked : IsAsked call request old new placed.entry.reply placed.place
  pub entry_is : placed.entry ≡ asked_entry call.caller call.moment request asked.drawn
      placed.entry.reply asked.faults

-- A look was made in this shard, and what is given is the entry that it left at this place, the
-- last of the front. It is in range over every keeper.
pub record IsLookWith {K : Type 0} (told : K → Option (List ℕ → Option Item)) (call : Call)
    (shard : ℕ) (old new : View) (placed : Placed) : Type 0 where
  pub shard_is : placed.shard ≡ shard
  pub found : Swept
  pub look : IsLook told call old new found placed.place
  pub entry_is : placed.entry ≡ swept_entry call.caller call.moment found look.faults
  pub formed : IsFormed placed.entry
