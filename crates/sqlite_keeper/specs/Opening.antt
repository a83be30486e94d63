-- What the making of a keeper leaves of tables that are ready.
use Rattle.std.specs.Prelude.{◌≡◌, ℕ, pos, false, IsTrue}
use Rattle.sqlite.specs.Held.{Held, state}
use Rattle.sqlite.specs.State.{State}
use Rattle.sqlite_rules.specs.Lists.{Has}
use Rattle.sqlite_trees.specs.declared.store.Store.{Ghosts}
use Rattle.sqlite_value.specs.Order.{Row}
use Rattle.sqlite_rows.specs.Calls.{IsKnown, KeepsDatabase}
use Rattle.sqlite_rows.specs.Cookies.{IsLast}
use Rattle.sqlite_rows.specs.Tables.{items_tree}
use Rattle.sqlite_keeper.specs.Keeping.{OverDatabase, cookies_in, may_tell, rows_in}

-- Tables as a keeper leaves them: they stand alone in their database, no transaction is open, no row
-- of `items` is left to be moved, and `cookies` has its one row, with this last cookie.
pub record IsReady (s : State) (last : ℕ) : Type 0 where
  pub known : IsKnown s
  pub moved : (row : Row) → Has (s.now.trees items_tree) row → ⊥
  pub one : IsLast (cookies_in s) (pos last)

-- Where the connection is open it was open, and tables that were ready are as they were.
pub record KeepsReady (old new : State) : Type 0 where
  pub was_open : IsTrue new.is_open → IsTrue old.is_open
  pub same : (last : ℕ) → IsReady old last → IsTrue new.is_open → KeepsDatabase old new

-- Where the connection is open it was open, and where no transaction was it has the rows it had.
pub record HasRowsOf (old new : State) : Type 0 where
  pub was_open : IsTrue new.is_open → IsTrue old.is_open
  pub trees : old.in_transaction ≡ false → IsTrue new.is_open → new.now.trees ≡ old.now.trees

-- where it may tell, a keeper has these rows, and this last cookie
abbrev pub GoesOn : {S : Type 0} → Ghosts S → State → ℕ → OverDatabase (Held S) → Type 0
GoesOn g old last k = IsTrue (may_tell g k)
    → (rows_in (state g k.connection) ≡ rows_in old) × (k.last ≡ last)
