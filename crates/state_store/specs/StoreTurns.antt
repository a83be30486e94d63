-- What one turn of a shard adds to what a pass knows of it.
use Rattle.std.specs.Prelude.{◌≡◌, ◌≢◌, ◌↔◌, ℕ, ◌+◌, ◌<◌, ◌==◌, List, [], ◌∷◌, ◌++◌, ◌⊎◌, All, Option, IsSome, length}
use mathlib.Core.List.{IsPrefix}
use Rattle.std.specs.List.{AllByRecursion, filter}
use Rattle.asp_base.specs.Causes.{Rose}
use Rattle.asp_messages.specs.declared.request.Request.{Request}
use Rattle.asp_messages.specs.declared.reply.Reply.{Reply}
use Rattle.asp_messages.specs.declared.reply.Reply.TheVariants as replies
use Rattle.session_machine.specs.declared.entry.Entry.{Entry}
use Rattle.session_machine.specs.declared.item.Item.{Item}
use Rattle.session_machine.specs.History.{IsFormed, IsLegal, count_after, item_after, nothing}
use Rattle.keeper.specs.Due.{IsDue}
use Rattle.shard_core.specs.declared.shard.Swept.{Swept}
use Rattle.shard_core.specs.declared.shard.Swept.TheVariants as swept
use Rattle.shard_core.specs.Acting.{IsOutOfCookies}
use Rattle.shard_core.specs.ShardStands.{asked_entry}
use Rattle.shard_core.specs.Sweeping.{swept_entry}
use Rattle.turnstile.specs.declared.stands.TurnTerms.{TurnTerms}
use Rattle.turnstile.specs.TurnRule.{end_of_places}
use Rattle.state_store.specs.StoreDesks.{DrewWithin}

-- ---- what a pass knows

-- What a pass knows of one shard: the entries of its history so far, those of them that are its own
-- calls, in order, and the ticket word that it last saw.
pub record View : Type 0 where
  pub front : List Entry
  pub own : List Entry
  pub ticket : ℕ

-- the entries of a list that a caller left, in order
abbrev pub calls_by : ℕ → List Entry → List Entry
calls_by caller list = filter (λ e. e.caller == caller) list

-- every keeper of this type tells
abbrev pub AlwaysTells : {K : Type 0} → (K → Option (List ℕ → Option Item)) → Type 0
AlwaysTells {K} told = (k : K) → IsSome (told k)

-- A front is legal where the keepers of this type tell, each count of faults in it is one that such
-- a keeper can have, and each cookie that was drawn in it is one of the terms.
pub record IsHistory {K : Type 0} (told : K → Option (List ℕ → Option Item))
    (CanCount : ℕ → Type 0) (terms : TurnTerms) (front : List Entry) : Type 0 where
  pub legal : AlwaysTells told → IsLegal nothing 0 front
  pub counts : AllByRecursion (λ e. CanCount e.faults) front
  pub drawn : AllByRecursion (DrewWithin terms) front

-- ---- one entry

-- Who calls, and when: the place of the first entry in each shard of the store, the number of the
-- caller, and the moment of the call in milliseconds.
pub record Call : Type 0 where
  pub first_place : ℕ
  pub caller : ℕ
  pub moment : ℕ

-- The caller left one entry, at this place: behind the old front stand entries of others, and then
-- this one.
pub record LeavesEntry (call : Call) (old new : View) (e : Entry) (place : ℕ) : Type 0 where
  pub others : List Entry
  pub front : new.front ≡ old.front ++ others ++ e ∷ []
  pub by_others : All (λ o. o.caller ≢ call.caller) others
  pub own : new.own ≡ old.own ++ e ∷ []
  pub is_last : place + 1 ≡ call.first_place + length new.front
  pub in_places : place < end_of_places

-- A request was answered, and its entry left at this place. That no cookie was left is answered
-- exactly where an acquire drew none, and a fault of the keeper only where its count rose with it.
pub record IsAsked (call : Call) (request : Request) (old new : View) (reply : Reply)
    (place : ℕ) : Type 0 where
  pub drawn : ℕ
  pub faults : ℕ
  pub leaves : LeavesEntry call old new
      (asked_entry call.caller call.moment request drawn reply faults) place
  pub formed : IsFormed (asked_entry call.caller call.moment request drawn reply faults)
  pub cookies_out : (reply ≡ replies.CookiesOut) ↔ IsOutOfCookies request.ask drawn
  pub fault : reply ≡ replies.KeeperFault → Rose (count_after 0 (old.front ++ leaves.others)) faults

-- no item of the map has expired at the moment
abbrev pub NothingDue : (List ℕ → Option Item) → ℕ → Type 0
NothingDue items t = (key : List ℕ) → IsDue items t key → ⊥

-- A look for an expired item left its entry at this place. Where the keepers tell, it found nothing
-- only where no item of the map before it is due; a fault is answered only where the count rose.
pub record IsLook {K : Type 0} (told : K → Option (List ℕ → Option Item)) (call : Call)
    (old new : View) (found : Swept) (place : ℕ) : Type 0 where
  pub faults : ℕ
  pub leaves : LeavesEntry call old new (swept_entry call.caller call.moment found faults) place
  pub nothing_due : AlwaysTells told → found ≡ swept.Nothing
      → NothingDue (item_after nothing 0 (old.front ++ leaves.others)) call.moment
  pub fault : found ≡ swept.KeeperFault → Rose (count_after 0 (old.front ++ leaves.others)) faults

-- There was no place: the ticket word stood at the end of places, and nothing else that the pass
-- knows changed.
pub record FindsNoPlace (old new : View) : Type 0 where
  pub front : new.front ≡ old.front
  pub own : new.own ≡ old.own
  pub spent : new.ticket ≡ end_of_places

-- ---- two passes

-- Both fronts are then the longer of the two, with which each of the old ones begins.
pub record Meets (a b a' b' : View) : Type 0 where
  pub one : b'.front ≡ a'.front
  pub either : (a'.front ≡ a.front) ⊎ (a'.front ≡ b.front)
  pub begins : IsPrefix a.front a'.front × IsPrefix b.front a'.front
  pub own : (a'.own ≡ a.own) × (b'.own ≡ b.own)
  pub tickets : (a'.ticket ≡ a.ticket) × (b'.ticket ≡ b.ticket)
