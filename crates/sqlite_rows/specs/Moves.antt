-- What an insertion does that passes over a taken key, said of the rows of the table alone.
use Rattle.std.specs.Prelude.{◌≡◌, ◌⊎◌, ℕ, List, true}
use Rattle.sqlite_value.specs.Order.{Row, column}
use Rattle.sqlite_rules.specs.Lists.{Has}
use Rattle.sqlite_rows.specs.Gets.{key_is}
use Rattle.sqlite_rows.specs.Puts.{AddsRow, Fields}

-- the row is added, or some row has its key and nothing changes
abbrev pub Moves : List Row → List Row → List ℕ → Fields → Type 0
Moves old new key it = AddsRow old new key it
    ⊎ ((new ≡ old) × (row : Row) × Has old row × (key_is key (column row 1) ≡ true))
