-- What an upsert on the key does, said of the rows of the table alone.
use Rattle.std.specs.Prelude.{◌≡◌, ◌⊎◌, ℕ, ℤ, List, [], ◌∷◌, true, false, filter}
use Rattle.sqlite_value.specs.declared.value.Value.TheVariants.{Int, Blob}
use Rattle.sqlite_value.specs.Order.{Row, column}
use Rattle.sqlite_trees.specs.Tree.{rowid, has_rowid, put_row, without_rowid}
use Rattle.sqlite_rules.specs.Lists.{Has}
use Rattle.sqlite_rules.specs.Edit.{next_rowid, is_taken}
use Rattle.sqlite_rows.specs.Gets.{key_is, LacksKey}

-- what a row holds behind its rowid and its key
pub record Fields : Type 0 where
  pub body : List ℕ
  pub minutes : ℤ
  pub fresh : ℤ
  pub cookie : ℤ
  pub since : ℤ
  pub touched : ℤ
  pub ends : ℤ
  pub expiry : ℤ

abbrev pub columns_with : List ℕ → Fields → Row
columns_with key it =
    Blob key ∷ Blob it.body ∷ Int it.minutes ∷ Int it.fresh ∷ Int it.cookie ∷ Int it.since
    ∷ Int it.touched ∷ Int it.ends ∷ Int it.expiry ∷ []

-- no row had the key, and one has it now, under a rowid of its own
pub record AddsRow (old new : List Row) (key : List ℕ) (it : Fields) : Type 0 where
  pub lacked : LacksKey old key
  pub free : is_taken old (Int (next_rowid old) ∷ columns_with key it) ≡ false
  pub added : new ≡ put_row (Int (next_rowid old) ∷ columns_with key it) old

-- the row that had the key is this one now, under the same rowid
pub record SetsRow (old new : List Row) (key : List ℕ) (it : Fields) : Type 0 where
  pub row : Row
  pub id : ℤ
  pub had : Has old row
  pub keyed : key_is key (column row 1) ≡ true
  pub named : rowid row ≡ Int id
  pub free : is_taken (without_rowid id old) (Int id ∷ columns_with key it) ≡ false
  pub set : new ≡ put_row (Int id ∷ columns_with key it) (without_rowid id old)

abbrev pub Puts : List Row → List Row → List ℕ → Fields → Type 0
Puts old new key it = AddsRow old new key it ⊎ SetsRow old new key it

-- each row has a rowid of its own
abbrev pub HaveIds : List Row → Type 0
HaveIds rows = (row : Row) → Has rows row → (id : ℤ) × (rowid row ≡ Int id)
    × (filter (has_rowid id) rows ≡ row ∷ [])
