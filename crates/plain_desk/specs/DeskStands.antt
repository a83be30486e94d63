-- When a desk stands for a history.
use Rattle.std.specs.Prelude.{◌≡◌, ℕ, ◌+◌, ◌<◌, ◌≤◌, List, Option}
use Rattle.std.specs.List.{AllByRecursion}
use Rattle.cookie_source.specs.Counting.{Counter, counter_after}
use Rattle.session_machine.specs.declared.entry.Entry.{Entry}
use Rattle.session_machine.specs.declared.item.Item.{Item}
use Rattle.session_machine.specs.History.{IsHeldBelow}
use Rattle.keeper.specs.declared.keeping.Keeper.{Ghosts}
use Rattle.shard_core.specs.ShardStands.{StandsFor}
use Rattle.plain_desk.specs.Draws.{draws_in}

-- a desk: what keeps the items, and the cookies that are left
pub record DeskOf (K : Type 0) : Type 0 where
  pub keeper : K
  pub cookies : Counter

-- What a desk's keeper tells, how many faults it has counted, and the cookies that are left.
pub record DeskState : Type 0 where
  pub told : Option (List ℕ → Option Item)
  pub faults : ℕ
  pub cookies : Counter

-- what contracts see of a desk, over a keeper of the type
abbrev pub desk_state : {K : Type 0} → Ghosts K → DeskOf K → DeskState
desk_state G desk = record {
  told = G.told desk.keeper;
  faults = G.count desk.keeper;
  cookies = desk.cookies;
}

-- What the desk's keeper tells and counts are those after the history, each of whose counts of
-- faults is one that a keeper of the type can have; and the cookies drawn in it are those from the
-- first on, in order. None of the cookies left was drawn, or is held in the opening map. (Where
-- the first cookie is the one past the last, there are none.)
pub record DeskStandsFor (CanCount : ℕ → Type 0) (first_cookie : ℕ) (opening : List ℕ → Option Item)
    (count : ℕ) (list : List Entry) (desk : DeskState) : Type 0 where
  pub stands : StandsFor opening count list desk.told desk.faults
  pub counts : AllByRecursion (λ e. CanCount e.faults) list
  pub next : desk.cookies.next ≡ counter_after first_cookie desk.cookies.last (draws_in list)
  pub in_order : first_cookie ≤ desk.cookies.last + 1
  pub drawn : AllByRecursion (λ e. e.drawn < desk.cookies.next) list
  pub held : desk.cookies.next ≤ desk.cookies.last → (key : List ℕ)
      → IsHeldBelow desk.cookies.next (opening key)

-- a desk over a keeper of the type stands for the history
abbrev pub HasHistory : {K : Type 0} → Ghosts K → ℕ → (List ℕ → Option Item) → ℕ → List Entry
    → DeskOf K → Type 0
HasHistory G first_cookie opening count list desk =
    DeskStandsFor G.can_count first_cookie opening count list (desk_state G desk)
