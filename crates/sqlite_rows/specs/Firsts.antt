-- The first row of the old table in the order of keys, said of its rows alone.
use Rattle.std.specs.Prelude.{◌≡◌, false, List, [], ◌∷◌, Option, Some, None}
use Rattle.std.specs.Ordering.{is_lt}
use Rattle.sqlite_value.specs.Order.{Row, column}
use Rattle.sqlite_sql.specs.Query.{key_cmp}
use Rattle.sqlite_rules.specs.Lists.{Has}
use Rattle.sqlite_rows.specs.Dues.{rising}

-- The row is shown, and no row has a key that comes before its key, as SQL orders them.
pub record ShowsFirst (rows : List Row) (out : Row) : Type 0 where
  pub row : Row
  pub had : Has rows row
  pub shows : out ≡ column row 2 ∷ column row 3 ∷ column row 4 ∷ column row 5 ∷ column row 6
      ∷ column row 7 ∷ column row 8 ∷ column row 1 ∷ []
  pub first : (x : Row) → Has rows x
      → is_lt (key_cmp 0 (rising ∷ []) (column x 1 ∷ []) (column row 1 ∷ [])) ≡ false

-- what a look for the first row answers: it is shown, or there is no row
abbrev pub FindsFirst : List Row → Option Row → Type 0
FindsFirst rows None = (x : Row) → Has rows x → ⊥
FindsFirst rows (Some out) = ShowsFirst rows out
