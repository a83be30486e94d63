-- A keeper over a connection, as contracts see it, what it rests on, what it tells, and how it
-- counts.
use Rattle.std.specs.Prelude.{ℕ, ◌<◌, ◌-◌, ◌^◌, ◌&&◌, Bool, List, pos, min, refl, Option, None, if◌then◌else◌, Result, Ok, Err, IsTrue}
use Rattle.std.specs.Coded.{Coded, code_by, coded×, coded_ℕ, coded_bool}
use Rattle.asp_base.specs.InMemory.{counted_once_more}
use Rattle.keeper.specs.declared.keeping.KeepError.{KeepError}
use Rattle.keeper.specs.declared.keeping.KeepError.TheVariants.{Fault, NoMemory}
use Rattle.session_machine.specs.declared.item.Item.{Item}
use Rattle.sqlite.specs.Held.{Held, state}
use Rattle.sqlite.specs.State.{State}
use Rattle.sqlite_trees.specs.declared.store.Store.{Ghosts}
use Rattle.sqlite_value.specs.Order.{Row}
use Rattle.sqlite_rows.specs.Calls.{IsKnown}
use Rattle.sqlite_rows.specs.Cookies.{IsLast}
use Rattle.sqlite_rows.specs.Numbers.{AreNumbered}
use Rattle.sqlite_rows.specs.Tables.{cookies_tree, items2_tree}
use Rattle.sqlite_keeper.specs.Told.{told_rows}

-- A keeper over a connection: the last cookie of its blocks, its count of faults, and whether it
-- found its tables alone in their database, with the one row of the last cookie, when it was made.
pub record OverDatabase (C : Type 0) : Type 0 where
  pub connection : C
  pub last : ℕ
  pub faults : ℕ
  pub knows : Bool

-- how such a keeper is stored
abbrev pub over_database_code : {C : Type 0} → Coded C → Coded (OverDatabase C)
over_database_code {C} connection =
    code_by (C × (ℕ × (ℕ × Bool)))
    (coded× connection (coded× coded_ℕ (coded× coded_ℕ coded_bool)))
    (λ k. (k.connection, (k.last, (k.faults, k.knows))))
    (λ p. record { connection = p.0; last = p.1.0; faults = p.1.1.0; knows = p.1.1.1 })
    (λ _. refl)

-- the rows of `items2`
abbrev pub rows_in : State → List Row
rows_in s = s.now.trees items2_tree

-- the rows of `cookies`
abbrev pub cookies_in : State → List Row
cookies_in s = s.now.trees cookies_tree

-- the tables stand alone in their database, no transaction is open, and each row of `items2` has a
-- rowid of its own
abbrev pub Rests : State → Type 0
Rests s = IsKnown s × AreNumbered (rows_in s)

-- what the keeper rests on while it tells: the tables were found alone, and the connection is open,
-- so the disk has returned what was written
abbrev pub may_tell : {S : Type 0} → Ghosts S → OverDatabase (Held S) → Bool
may_tell g k = k.knows && (state g k.connection).is_open

-- the items of the rows, where the keeper rests on them and each is that of a key and an item
abbrev pub told_by : {S : Type 0} → Ghosts S → OverDatabase (Held S)
    → Option (List ℕ → Option Item)
told_by g k = if may_tell g k then told_rows (rows_in (state g k.connection)) else None

-- What a keeper keeps true: its last cookie is in range, and its connection is what it rests on.
pub record KeepsRows {S : Type 0} (g : Ghosts S) (knows : Bool) (last : ℕ) (connection : Held S)
    : Type 0 where
  pub in_range : last < 2 ^ 63
  pub rests : IsTrue knows → IsTrue (state g connection).is_open
      → Rests (state g connection) × IsLast (cookies_in (state g connection)) (pos last)

-- the count of faults that it tells, up to the last value of a `u64`
abbrev pub told_faults : ℕ → ℕ
told_faults faults = min faults (2 ^ 64 - 1)

-- the count after an answer: a fault counts one, and nothing else does
abbrev pub faults_after : {T : Type 0} → ℕ → Result T KeepError → ℕ
faults_after faults (Ok value) = faults
faults_after faults (Err NoMemory) = faults
faults_after faults (Err Fault) = counted_once_more faults
