-- What a selection by key shows, said of the rows of the table alone.
use Rattle.std.specs.Prelude.{◌≡◌, ℕ, Bool, true, false, List, [], ◌∷◌, Option, Some, None}
use Rattle.std.specs.Str.{bytes_eq}
use Rattle.sqlite_value.specs.declared.value.Value.{Value}
use Rattle.sqlite_value.specs.declared.value.Value.TheVariants.{Null, Int, Real, Text, Blob}
use Rattle.sqlite_value.specs.Order.{Row, column}
use Rattle.sqlite_rules.specs.Lists.{Has}

-- the value is this key
abbrev pub key_is : List ℕ → Value → Bool
key_is key Null = false
key_is key (Int n) = false
key_is key (Real x) = false
key_is key (Text t) = false
key_is key (Blob b) = bytes_eq b key

-- the columns behind the key, as the selection shows them
abbrev pub shown : Row → Row
shown row = column row 2 ∷ column row 3 ∷ column row 4 ∷ column row 5 ∷ column row 6 ∷ column row 7
    ∷ column row 8 ∷ column row 9 ∷ []

-- a row of the table has the key, and this is shown of it
abbrev pub ShowsKey : List Row → List ℕ → Row → Type 0
ShowsKey rows key out = (row : Row) × Has rows row × (key_is key (column row 1) ≡ true)
    × (out ≡ shown row)

-- no row of the table has the key
abbrev pub LacksKey : List Row → List ℕ → Type 0
LacksKey rows key = (row : Row) → Has rows row → key_is key (column row 1) ≡ false

-- what a selection by key answers: this is shown of a row that has the key, or no row has it
abbrev pub Gets : List Row → List ℕ → Option Row → Type 0
Gets rows key None = LacksKey rows key
Gets rows key (Some out) = ShowsKey rows key out
