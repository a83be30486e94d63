-- The table of the last cookie, and the greatest cookie of the items, said of the rows alone.
use Rattle.std.specs.Prelude.{◌≡◌, ℤ, pos, false, true, List, [], ◌∷◌, Option, Some, None}
use Rattle.std.specs.Ordering.{is_lt}
use Rattle.sqlite_value.specs.declared.value.Value.TheVariants.{Int}
use Rattle.sqlite_value.specs.declared.keys.Collation.TheVariants.{Binary}
use Rattle.sqlite_value.specs.declared.keys.Key.{Key}
use Rattle.sqlite_value.specs.Order.{Row, column}
use Rattle.sqlite_sql.specs.Query.{key_cmp}
use Rattle.sqlite_rules.specs.Lists.{Has}
use Rattle.sqlite_rows.specs.Dues.{rising}

-- The table has one row, the row with id 1, and this is its last cookie.
pub record IsLast (rows : List Row) (last : ℤ) : Type 0 where
  pub row : Row
  pub only : rows ≡ row ∷ []
  pub id : column row 0 ≡ Int (pos 1)
  pub shows : column row 2 ≡ Int last

-- what a selection of `last` shows: that of some row, so of the only one
abbrev pub ShowsLast : List Row → Row → Type 0
ShowsLast rows out = (row : Row) × Has rows row × (out ≡ column row 2 ∷ [])

-- The id and the last cookie of each row are shown, and of no other.
pub record ShowsAll (rows out : List Row) : Type 0 where
  pub each : (row : Row) → Has rows row → Has out (column row 0 ∷ column row 2 ∷ [])
  pub only : (shown : Row) → Has out shown
      → (row : Row) × Has rows row × (shown ≡ column row 0 ∷ column row 2 ∷ [])

-- what an update of `last` does
abbrev pub SetsLast : List Row → List Row → ℤ → Type 0
SetsLast old new last = (before : ℤ) → IsLast old before → IsLast new last

abbrev pub falling : Key
falling = record { collation = Binary; descending = true }

-- A row's cookie is shown, and no row has a greater one, as SQL orders them.
pub record ShowsGreatest (rows : List Row) (out : Row) : Type 0 where
  pub row : Row
  pub had : Has rows row
  pub shows : out ≡ column row 5 ∷ []
  pub first : (x : Row) → Has rows x
      → is_lt (key_cmp 0 (falling ∷ rising ∷ []) (column x 5 ∷ column x 1 ∷ [])
      (column row 5 ∷ column row 1 ∷ [])) ≡ false

-- what a look for the greatest cookie answers: it is shown, or there is no row
abbrev pub FindsGreatest : List Row → Option Row → Type 0
FindsGreatest rows None = (x : Row) → Has rows x → ⊥
FindsGreatest rows (Some out) = ShowsGreatest rows out
