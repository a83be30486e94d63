-- What an upsert on the key does, said of the rows as a set.
use Rattle.std.specs.Prelude.{◌≡◌, ◌⊎◌, ℕ, ℤ, List, ◌∷◌, false}
use Rattle.sqlite_value.specs.declared.value.Value.TheVariants.{Int}
use Rattle.sqlite_value.specs.Order.{Row, column}
use Rattle.sqlite_rules.specs.Lists.{Has}
use Rattle.sqlite_rows.specs.Gets.{key_is}
use Rattle.sqlite_rows.specs.Puts.{Fields, columns_with}

-- One row has the key now, with these columns, and every other row is as it was.
pub record Replaces (old new : List Row) (key : List ℕ) (it : Fields) : Type 0 where
  pub id : ℤ
  pub there : Has new (Int id ∷ columns_with key it)
  pub either : (row : Row) → Has new row
      → (row ≡ Int id ∷ columns_with key it) ⊎ (Has old row × (key_is key (column row 1) ≡ false))
  pub kept : (row : Row) → Has old row → key_is key (column row 1) ≡ false → Has new row
