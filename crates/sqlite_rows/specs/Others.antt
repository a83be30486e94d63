-- The rows of the other tables.
use Rattle.std.specs.Prelude.{◌≡◌, ◌≢◌, ℕ}
use Rattle.sqlite_trees.specs.Tree.{Trees}
use Rattle.sqlite_rules.specs.Edit.{IsNoIndex}
use Rattle.sqlite_rows.specs.Tables.{known, items_tree, cookies_tree}

-- each tree but this one and the indexes has the rows that it had
abbrev pub LeavesOthers : ℕ → Trees → Trees → Type 0
LeavesOthers tree old new = (t : ℕ) → t ≢ tree → IsNoIndex known t → new t ≡ old t

-- the other two tables have the rows that they had
abbrev pub KeepsOtherTables : Trees → Trees → Type 0
KeepsOtherTables old new = (new items_tree ≡ old items_tree) × (new cookies_tree ≡ old cookies_tree)
