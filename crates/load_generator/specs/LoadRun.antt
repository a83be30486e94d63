-- A load: its requests, the sweep behind them, and what is written of both.
use Rattle.std.specs.Prelude.{◌≡◌, ◌⊎◌, ℕ, ◌==◌, ◌+◌, ◌≤◌, List, [], ◌∷◌, ◌++◌, length, count_by, codes, decimal, Option, None, ⊤}
use Rattle.std.specs.List.{AllByRecursion}
use Rattle.asp_base.specs.Moments.{last_moment}
use Rattle.asp_base.specs.Outside.{Takes, TakesFront}
use Rattle.asp_messages.specs.declared.reply.Reply.TheVariants.{Done}
use Rattle.asp_messages.specs.ReplyText.{http_status}
use Rattle.keeper.specs.declared.keeping.Keeper.{Ghosts}
use Rattle.keeper.specs.declared.ran.Ran.{Ran}
use Rattle.keeper.specs.Due.{TellsDue}
use Rattle.session_machine.specs.declared.entry.Entry.{Entry}
use Rattle.session_machine.specs.declared.entry.Deed.{Deed}
use Rattle.session_machine.specs.declared.entry.Deed.TheVariants.{Asked, Expired, Looked}
use Rattle.session_machine.specs.declared.item.Item.{Item}
use Rattle.session_machine.specs.History.{nothing}
use Rattle.shard_core.specs.ShardStands.{StandsFor}
use Rattle.load_generator.specs.declared.load.Load.{Load}
use Rattle.load_generator.specs.Load.{seeded, AreMade}

-- ---- the sweep

-- an item expired
abbrev pub IsExpiry : Deed → Type 0
IsExpiry (Asked request) = ⊥
IsExpiry (Expired key) = ⊤
IsExpiry Looked = ⊥

-- an item that had expired at the latest moment was removed
abbrev pub IsLastRemoval : Entry → Type 0
IsLastRemoval e = IsExpiry e.deed × (e.caller ≡ 0) × (e.moment ≡ last_moment)

-- a look at the latest moment removed no item
abbrev pub IsLastLook : Entry → Type 0
IsLastLook e = (e.deed ≡ Looked) × (e.caller ≡ 0) × (e.moment ≡ last_moment)

-- The last look of a sweep: it was answered `Done` only where no item is due after it. Over a
-- keeper that does not tell its items there may be none.
abbrev pub EndsLoadSweep : Option (List ℕ → Option Item) → List Entry → Type 0
EndsLoadSweep told [] = told ≡ None
EndsLoadSweep told (e ∷ []) = IsLastLook e × (e.reply ≡ Done → TellsDue told last_moment None)
EndsLoadSweep told (e ∷ f ∷ es) = ⊥

-- ---- the text

-- how many replies have this status
abbrev pub count_of : ℕ → List Entry → ℕ
count_of status list = count_by (λ e. http_status e.reply == status) list

-- a text, and behind it a name, a number and a line feed
infixl 5 ◌and◌
abbrev pub ◌and◌ : List ℕ → List ℕ × ℕ → List ℕ
text and counted = text ++ (counted.0 ++ codes " " ++ decimal counted.1 ++ codes "\n")

-- what a load writes: how many requests it made, the replies by their status, and how many items
-- expired at its end
unfoldable pub load_text : List Entry → List Entry → List ℕ
load_text requests removals =
    [] and (codes "requests", length requests) and (codes "200", count_of 200 requests) and
    (codes "400", count_of 400 requests)
    and (codes "404", count_of 404 requests) and (codes "423", count_of 423 requests) and
    (codes "500", count_of 500 requests)
    and (codes "503", count_of 503 requests) and (codes "507", count_of 507 requests) and
    (codes "removed", length removals)

-- ---- the run

-- What a load left: its status, what its sink has taken, and what its keeper tells and counts.
pub record LoadEnd : Type 0 where
  pub status : ℕ
  pub sink : Option (List ℕ)
  pub told : Option (List ℕ → Option Item)
  pub faults : ℕ

-- The entries of a load: its requests, the removals of items that expired, and the looks that
-- removed none.
pub record LoadEntries : Type 0 where
  pub requests : List Entry
  pub removals : List Entry
  pub looks : List Entry

-- The text was written on status 0, and a front of it on status 5; on status 6 nothing was written,
-- and requests may be missing. (The first number is that of the requests; the sink had taken so
-- much before.)
abbrev pub EndsLoad : ℕ → Option (List ℕ) → LoadEnd → LoadEntries → Type 0
EndsLoad n sink end made =
    ((end.status ≡ 0) × (length made.requests ≡ n) × EndsLoadSweep end.told made.looks
    × Takes sink end.sink (load_text made.requests made.removals))
    ⊎ (((end.status ≡ 5) × (length made.requests ≡ n) × EndsLoadSweep end.told made.looks
    × TakesFront sink end.sink (load_text made.requests made.removals))
    ⊎ ((end.status ≡ 6) × (end.sink ≡ sink)))

-- A load: the requests by the generator's numbers, then items that expired, and a last look, by one
-- look more than requests at most. Each of these entries has its cause, and the keeper that is
-- handed back has the items and the count after them. (CanCount says which counts of faults the
-- keeper's type can have; the sink had taken so much before.)
pub record IsLoad (CanCount : ℕ → Type 0) (load : Load) (sink : Option (List ℕ)) (end : LoadEnd)
    : Type 0 where
  pub requests : List Entry
  pub removals : List Entry
  pub looks : List Entry
  pub made : AreMade (seeded load.seed) 0 requests
  pub removed : AllByRecursion IsLastRemoval removals
  pub few : length removals + length looks ≤ load.requests + 1
  pub stands : StandsFor nothing 0 (requests ++ removals ++ looks) end.told end.faults
  pub counts : AllByRecursion (λ e. CanCount e.faults) (requests ++ removals ++ looks)
  pub ends : EndsLoad load.requests sink end
      (record { requests = requests; removals = removals; looks = looks })

-- the same of a load that ran over a keeper of the type (its sink has taken so much before, and so
-- much after)
abbrev pub RanLoad : {K : Type 0} → Ghosts K → Load → Option (List ℕ) → Option (List ℕ) → Ran K
    → Type 0
RanLoad G load sink sink' ran = IsLoad G.can_count load sink (record {
  status = ran.status;
  sink = sink';
  told = G.told ran.keeper;
  faults = G.count ran.keeper;
})
