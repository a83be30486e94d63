-- How a history begins that a desk stands for: with items, with a count of faults, and with cookies.
use Rattle.std.specs.Prelude.{◌≡◌, ℕ, ◌≤◌, List, Option, Some, None}
use Rattle.cookie_source.specs.Counting.{Counter, no_cookies}
use Rattle.session_machine.specs.declared.entry.Entry.{Entry}
use Rattle.session_machine.specs.declared.item.Item.{Item}
use Rattle.session_machine.specs.History.{IsHeldBelow, nothing}
use Rattle.keeper.specs.declared.keeping.Keeper.{Ghosts}
use Rattle.plain_desk.specs.DeskStands.{DeskOf, HasHistory}

-- How a history begins: the items, the count of faults, and the cookies that it may draw.
pub record Opening : Type 0 where
  pub items : List ℕ → Option Item
  pub count : ℕ
  pub cookies : Counter

-- the items that a keeper tells, and none where it tells none
abbrev pub told_items : Option (List ℕ → Option Item) → List ℕ → Option Item
told_items None = nothing
told_items (Some items) = items

-- these cookies, and none at all where there are none
abbrev pub cookies_of : Option Counter → Counter
cookies_of None = no_cookies
cookies_of (Some cookies) = cookies

-- a keeper that told nothing tells nothing after
abbrev pub NeverBegins : Option (List ℕ → Option Item) → Option (List ℕ → Option Item) → Type 0
NeverBegins old new = old ≡ None → new ≡ None

-- how a history over a keeper of the type begins, with these cookies
abbrev pub opening_over : {K : Type 0} → Ghosts K → K → Counter → Opening
opening_over G keeper cookies = record {
  items = told_items (G.told keeper);
  count = G.count keeper;
  cookies = cookies;
}

-- how it begins where there are no items and no fault was counted, with the cookies from the first
-- to the last
abbrev pub opening_with : ℕ → ℕ → Opening
opening_with first last = record {
  items = nothing;
  count = 0;
  cookies = record { next = first; last = last };
}

-- where cookies are left, each that is held is below them
abbrev pub HasFreshCookies : Opening → Type 0
HasFreshCookies opening = opening.cookies.next ≤ opening.cookies.last → (key : List ℕ)
    → IsHeldBelow opening.cookies.next (opening.items key)

-- a desk over a keeper of the type stands for the history with this beginning
abbrev pub HasHistoryFrom : {K : Type 0} → Ghosts K → Opening → List Entry → DeskOf K → Type 0
HasHistoryFrom G opening list desk =
    HasHistory G opening.cookies.next opening.items opening.count list desk
