-- The row that expired first, said of the rows of the table alone.
use Rattle.std.specs.Prelude.{◌≡◌, ℤ, Bool, true, false, List, [], ◌∷◌, Option, Some, None}
use Rattle.std.specs.declared.cmp.Ordering.{Ordering}
use Rattle.std.specs.Ordering.{is_lt}
use Rattle.sqlite_value.specs.declared.value.Value.TheVariants.{Int}
use Rattle.sqlite_value.specs.declared.keys.Collation.TheVariants.{Binary}
use Rattle.sqlite_value.specs.declared.keys.Key.{Key}
use Rattle.sqlite_value.specs.Order.{Row, column}
use Rattle.sqlite_sql.specs.declared.ops.BinaryOp.TheVariants.{Compare}
use Rattle.sqlite_sql.specs.declared.ops.CompareOp.TheVariants.{Le}
use Rattle.sqlite_sql.specs.declared.ops.UnaryOp.TheVariants.{ToNumeric}
use Rattle.sqlite_sql.specs.Ops.{unary, binary, is_true}
use Rattle.sqlite_sql.specs.Query.{key_cmp}
use Rattle.sqlite_rules.specs.Lists.{Has}

abbrev pub rising : Key
rising = record { collation = Binary; descending = false }

-- the row's column `expiry` is at most the moment, as SQL compares them
abbrev pub is_due : ℤ → Row → Bool
is_due t row = is_true (binary (Compare Le Binary) (column row 9) (unary ToNumeric (Int t)))

-- by `expiry`, and then by `key`, as SQL orders them
abbrev pub due_row_cmp : Row → Row → Ordering
due_row_cmp a b =
    key_cmp 0 (rising ∷ rising ∷ []) (column a 9 ∷ column a 1 ∷ []) (column b 9 ∷ column b 1 ∷ [])

-- The row is due, its key is shown, and no row that is due comes before it.
pub record ShowsFirstDue (rows : List Row) (t : ℤ) (out : Row) : Type 0 where
  pub row : Row
  pub had : Has rows row
  pub due : is_due t row ≡ true
  pub shows : out ≡ column row 1 ∷ []
  pub first : (x : Row) → Has rows x → is_due t x ≡ true → is_lt (due_row_cmp x row) ≡ false

-- no row is due
abbrev pub LacksDue : List Row → ℤ → Type 0
LacksDue rows t = (x : Row) → Has rows x → is_due t x ≡ false

-- what a look answers: this is shown of the row that is due first, or none is due
abbrev pub FindsDue : List Row → ℤ → Option Row → Type 0
FindsDue rows t None = LacksDue rows t
FindsDue rows t (Some out) = ShowsFirstDue rows t out
