-- What a call on the tables leaves.
use Rattle.std.specs.Prelude.{◌≡◌, false, IsTrue}
use Rattle.sqlite.specs.State.{State}
use Rattle.sqlite_rows.specs.Others.{KeepsOtherTables}
use Rattle.sqlite_rows.specs.Tables.{known}

-- the database has these tables and nothing else, and no transaction is open
abbrev pub IsKnown : State → Type 0
IsKnown s = (s.now.schema ≡ known) × (s.in_transaction ≡ false)

-- The connection is as it was.
pub record KeepsDatabase (old new : State) : Type 0 where
  pub now : new.now ≡ old.now
  pub was_open : IsTrue old.is_open
  pub mode : new.in_transaction ≡ false

-- The rows of `items2` were written, and nothing else.
pub record WritesItems (old new : State) : Type 0 where
  pub schema : new.now.schema ≡ known
  pub others : KeepsOtherTables old.now.trees new.now.trees
  pub was_open : IsTrue old.is_open
  pub mode : new.in_transaction ≡ false

-- Where the connection is open it was open, and where the tables stood alone it is as it was.
pub record KeepsKnown (old new : State) : Type 0 where
  pub was_open : IsTrue new.is_open → IsTrue old.is_open
  pub same : IsKnown old → IsTrue new.is_open → KeepsDatabase old new
