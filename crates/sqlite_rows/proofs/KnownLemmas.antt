-- Two tables that are the same field by field are one.
use Rattle.std.proofs.Common.{◌≡◌}
use Rattle.sqlite.specs.Table.{Table}

pub table_is : (t u : Table) → t.name ≡ u.name → t.tree ≡ u.tree → t.columns ≡ u.columns
    → t.key ≡ u.key → t.primary ≡ u.primary → t.uniques ≡ u.uniques → t.orders ≡ u.orders
    → t.checks ≡ u.checks → t.references ≡ u.references → t.computed ≡ u.computed
    → t.stamps ≡ u.stamps → t.is_counted ≡ u.is_counted → t ≡ u
table_is t u name tree columns key primary uniques orders checks references computed stamps counted =
    λ i. record {
      name = name i;
      tree = tree i;
      columns = columns i;
      key = key i;
      primary = primary i;
      uniques = uniques i;
      orders = orders i;
      checks = checks i;
      references = references i;
      computed = computed i;
      stamps = stamps i;
      is_counted = counted i;
    }
