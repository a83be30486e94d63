-- The rule of a counter that threads share, whose only word is the next cookie, and what each kind
-- of step tells.
use Rattle.std.specs.Prelude.{◌≡◌, ◌≢◌, ℕ, zero, suc, ◌+◌, ◌<◌, ◌≤◌, List, [], ◌∷◌, ◌++◌, length, slice_index, All}
use Rattle.std.specs.List.{sum_by}
use mathlib.Core.Option.{some}
use lib.ListN.{get_elem?}
use Rattle.atomic_table.specs.Table.{State, Me, Step}
use Rattle.cookie_source.specs.declared.counter_rule.DrawerView.{DrawerView}

abbrev pub drawer_view : ℕ → List ℕ → ℕ → DrawerView
drawer_view first_cookie drawn seen =
    record { first_cookie = first_cookie; drawn = drawn; seen = seen }

-- a drawer that drew nothing, at a counter that stands at its first cookie
abbrev pub new_drawer : ℕ → DrawerView
new_drawer first_cookie = drawer_view first_cookie [] first_cookie

-- a second drawer, which drew nothing
abbrev pub nothing_drawn : DrawerView → DrawerView
nothing_drawn v = drawer_view v.first_cookie [] v.seen

-- the sum of f over the numbers below n
abbrev pub total_below : (ℕ → ℕ) → ℕ → ℕ
total_below f zero = 0
total_below f (suc n) = total_below f n + f n

-- what the rule says of one drawer
pub record IsDrawer (first_cookie counter : ℕ) (v : DrawerView) : Type 0 where
  pub same_first : v.first_cookie ≡ first_cookie
  pub saw_no_more : v.seen ≤ counter
  pub drew_below : All (λ n. n < counter) v.drawn

-- Between any two steps each cookie from the first one on and below the counter was drawn once, by
-- one drawer, and no other number was drawn: however the numbers are weighed, those drawn weigh
-- what those cookies weigh. Where each weighs 1, the counter is the first cookie plus the number of
-- draws.
pub record IsCounted (first_cookie : ℕ) (s : State (Unit {0}) DrawerView) : Type 0 where
  pub one_word : length s.words ≡ 1
  pub from_first : first_cookie ≤ slice_index s.words 0
  pub drawn_once : (weight : ℕ → ℕ) → sum_by (λ v. sum_by weight v.drawn) s.views
      + total_below weight first_cookie ≡ total_below weight (slice_index s.words 0)
  pub each : (by : ℕ) (v : DrawerView) → get_elem? s.views by ≡ some v
      → IsDrawer first_cookie (slice_index s.words 0) v

-- what a drawer knows, and the slots that it holds
abbrev pub DrawerSeat : Type 0
DrawerSeat = Me (Unit {0}) DrawerView

-- the counter was seen, and nothing drawn
pub record Looks (st : Step (Unit {0})) (before : DrawerSeat) (word : ℕ) (after : DrawerSeat) : Type
    0 where
  pub never_falls : before.0.seen ≤ word
  pub from_first : before.0.first_cookie ≤ word
  pub after_look : after ≡ (drawer_view before.0.first_cookie before.0.drawn word, before.1)

-- the cookie at which the counter stood was drawn, where it is the one that was tried for
pub record Draws (st : Step (Unit {0})) (before : DrawerSeat) (word : ℕ) (after : DrawerSeat) : Type
    0 where
  pub never_falls : before.0.seen ≤ word
  pub from_first : before.0.first_cookie ≤ word
  pub rises : word ≡ st.first → All (λ k. k < word) before.0.drawn
  pub drawn : word ≡ st.first → after ≡ (
    drawer_view before.0.first_cookie (before.0.drawn ++ word ∷ [])
        word,
    before.1,
  )
  pub missed : word ≢ st.first → after
      ≡ (drawer_view before.0.first_cookie before.0.drawn word, before.1)
