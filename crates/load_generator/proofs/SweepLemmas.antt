-- The sweep goes on by one look.
use Rattle.std.proofs.Common.{◌≡◌, ℕ, ◌+◌, ◌<◌, List, [], ◌∷◌, ◌++◌, Option, None, refl, sym, arith, subst, inl, inr, append_assoc, append-nil, length-append}
use Rattle.asp_base.specs.declared.bytes.Bytes.{Bytes}
use Rattle.asp_base.specs.Moments.{last_moment}
use Rattle.plain_desk.specs.DeskStands.{DeskState, DeskStandsFor}
use Rattle.keeper.specs.Due.{TellsDue}
use Rattle.session_machine.specs.declared.entry.Entry.{Entry}
use Rattle.session_machine.specs.declared.item.Item.{Item}
use Rattle.session_machine.specs.History.{nothing}
use Rattle.session_machine.proofs.HistoryLemmas.{All-push}
use Rattle.shard_core.specs.declared.shard.Swept.{Swept}
use Rattle.shard_core.specs.declared.shard.Swept.TheVariants as swept
use Rattle.shard_core.specs.Sweeping.{swept_entry, IsUnmoved}
use Rattle.load_generator.specs.LoadRun.{IsLastRemoval, EndsLoadSweep}
use Rattle.load_generator.specs.LoadSteps.{Removes, SweepsLoad}

-- a look that removed no item ends the sweep
pub look_ends : (told : Option (List ℕ → Option Item)) (s : Swept) (faults : ℕ) → IsUnmoved s
    → (s ≡ swept.Nothing → TellsDue told last_moment None)
    → EndsLoadSweep told (swept_entry 0 last_moment s faults ∷ [])
look_ends told (swept.Removed key) faults unmoved none = absurd unmoved
look_ends told swept.Nothing faults unmoved none = ((refl, refl, refl), λ done. none refl)
look_ends told swept.KeeperFault faults unmoved none = ((refl, refl, refl), λ done. cc)
look_ends told swept.NoMemory faults unmoved none = ((refl, refl, refl), λ done. cc)

-- what removed no item
pub not_removed : (s : Swept) → ((key : Bytes) → s ≡ swept.Removed key → ⊥) → IsUnmoved s
not_removed (swept.Removed key) other = absurd (other key refl)
not_removed swept.Nothing other = tt
not_removed swept.KeeperFault other = tt
not_removed swept.NoMemory other = tt

pub Removes-none : (CanCount : ℕ → Type 0) (first : ℕ) (list : List Entry)
    (state : DeskState)
    → DeskStandsFor CanCount first nothing 0 list state → Removes CanCount first list state 0
Removes-none CanCount first list state stand = record {
  removals = [];
  expired = tt;
  counted = refl;
  desk = subst (λ (l : List Entry). DeskStandsFor CanCount first nothing 0 l state)
      (sym (append-nil list)) stand;
}

pub Removes-push : (CanCount : ℕ → Type 0) (first : ℕ) (list : List Entry)
    (old new : DeskState) (removed : ℕ) (key : List ℕ)
    → (before : Removes CanCount first list old removed)
    → DeskStandsFor CanCount first nothing 0 ((list ++ before.removals)
    ++ swept_entry 0 last_moment (swept.Removed key) new.faults ∷ []) new
    → Removes CanCount first list new (removed + 1)
Removes-push CanCount first list old new removed key before stand =
    record {
      removals = before.removals ++ entry ∷ [];
      expired = All-push IsLastRemoval before.removals entry before.expired (tt, refl, refl);
      counted = let so_far = before.counted in let more =
          length-append before.removals (entry ∷ []) in
          omega (arith, so_far, more);
      desk = subst (λ (l : List Entry). DeskStandsFor CanCount first nothing 0 l new)
          (append_assoc list before.removals (entry ∷ [])) stand;
    }
  where
    entry : Entry
    entry = swept_entry 0 last_moment (swept.Removed key) new.faults

pub SweepsLoad-look : (CanCount : ℕ → Type 0) (first most : ℕ) (list : List Entry)
    (old new : DeskState) (removed : ℕ) (s : Swept)
    → (before : Removes CanCount first list old removed)
    → DeskStandsFor CanCount first nothing 0 ((list ++ before.removals)
    ++ swept_entry 0 last_moment s new.faults ∷ []) new
    → IsUnmoved s → (s ≡ swept.Nothing → TellsDue new.told last_moment None) → removed < most
    → SweepsLoad CanCount first most list new removed
SweepsLoad-look CanCount first most list old new removed s before stand unmoved none left = record {
  removals = before.removals;
  looks = entry ∷ [];
  expired = before.expired;
  counted = before.counted;
  few = let counted = before.counted in omega (arith, counted, left);
  desk = stand;
  ends = inr (look_ends new.told s new.faults unmoved none);
}
  where
    entry : Entry
    entry = swept_entry 0 last_moment s new.faults

pub SweepsLoad-all : (CanCount : ℕ → Type 0) (first most : ℕ) (list : List Entry)
    (state : DeskState) (removed : ℕ)
    → (before : Removes CanCount first list state removed) → removed ≡ most
    → SweepsLoad CanCount first most list state removed
SweepsLoad-all CanCount first most list state removed before all = record {
  removals = before.removals;
  looks = [];
  expired = before.expired;
  counted = before.counted;
  few = let counted = before.counted in omega (arith, counted, all);
  desk = subst (λ (l : List Entry). DeskStandsFor CanCount first nothing 0 l state)
      (sym (append-nil (list ++ before.removals))) before.desk;
  ends = inl (refl, all);
}
