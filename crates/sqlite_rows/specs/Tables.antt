-- The tables of SQL mode, and the schema of a database that has them and nothing else.
use Rattle.std.specs.Prelude.{ℕ, Bool, true, false, List, [], ◌∷◌, None, Some, codes}
use Rattle.sqlite.specs.Collation.TheVariants.{Binary}
use Rattle.sqlite.specs.declared.types.Value.TheVariants.{Null}
use Rattle.sqlite.specs.Kind.{Kind}
use Rattle.sqlite.specs.Kind.TheVariants.{Integer, Any}
use Rattle.sqlite.specs.Schema.{Schema}
use Rattle.sqlite.specs.Table.{Table}
use Rattle.sqlite_schema.specs.declared.schema.Column.{Column}
use Rattle.sqlite_schema.specs.declared.schema.Index.{Index}
use Rattle.sqlite_value.specs.Keys.{plain}

abbrev pub column_of : List ℕ → Kind → Bool → Column
column_of name kind not_null = record {
  name = name;
  kind = kind;
  is_strict = false;
  not_null = not_null;
  default = Null;
  collation = Binary;
}

abbrev pub number_column : List ℕ → Column
number_column name = column_of name Integer true

-- a table whose first column is its primary key, with an index of its own
abbrev pub keyed_table : List ℕ → ℕ → List Column → Table
keyed_table name tree columns = record {
  name = name;
  tree = tree;
  columns = columns;
  key = None;
  primary = 1 ∷ [];
  uniques = (1 ∷ []) ∷ [];
  orders = plain ∷ [];
  checks = [];
  references = [];
  computed = [];
  stamps = record { places = []; terms = []; formats = [] };
  is_counted = false;
}

-- the trees of the rows
abbrev pub items_tree : ℕ
items_tree = 0

abbrev pub items2_tree : ℕ
items2_tree = 3

abbrev pub cookies_tree : ℕ
cookies_tree = 6

-- the columns of an item's row, before those of its moments and with them
abbrev pub lock_columns : List Column → List Column
lock_columns moments =
    number_column (codes "fresh") ∷ number_column (codes "cookie") ∷ number_column (codes "since")
    ∷ moments

abbrev pub item_columns : List Column → List Column
item_columns moments =
    column_of (codes "key") Any false ∷ column_of (codes "body") Any true
    ∷ number_column (codes "minutes") ∷ lock_columns moments

-- the old table, whose rows are moved, has no column of the end
abbrev pub items_moments : List Column
items_moments = number_column (codes "touched") ∷ number_column (codes "expiry") ∷ []

abbrev pub items2_moments : List Column
items2_moments =
    number_column (codes "touched") ∷ number_column (codes "ends")
    ∷ number_column (codes "expiry") ∷ []

abbrev pub items : Table
items = keyed_table (codes "items") items_tree (item_columns items_moments)

abbrev pub items2 : Table
items2 = keyed_table (codes "items2") items2_tree (item_columns items2_moments)

abbrev pub cookies_columns : List Column
cookies_columns = column_of (codes "id") Integer false ∷ number_column (codes "last") ∷ []

-- its first column is the rowid
abbrev pub cookies : Table
cookies = record {
  name = codes "cookies";
  tree = cookies_tree;
  columns = cookies_columns;
  key = Some 0;
  primary = 0 ∷ [];
  uniques = [];
  orders = [];
  checks = [];
  references = [];
  computed = [];
  stamps = record { places = []; terms = []; formats = [] };
  is_counted = false;
}

abbrev pub index_of : List ℕ → ℕ → ℕ → List ℕ → Bool → Index
index_of name tree table columns is_unique = record {
  name = name;
  tree = tree;
  table = table;
  columns = columns;
  order = plain;
  is_unique = is_unique;
}

abbrev pub indexes : List Index
indexes = index_of (codes "sqlite_autoindex_items_1") 1 items_tree (1 ∷ []) true
    ∷ index_of (codes "items_by_expiry") 2 items_tree (8 ∷ 1 ∷ []) false
    ∷ index_of (codes "sqlite_autoindex_items2_1") 4 items2_tree (1 ∷ []) true
    ∷ index_of (codes "items2_by_expiry") 5 items2_tree (9 ∷ 1 ∷ []) false ∷ []

-- the schema that `over` leaves in a file that it or an older version made
abbrev pub known : Schema
known = record { tables = items ∷ items2 ∷ cookies ∷ []; indexes = indexes; views = [] }
