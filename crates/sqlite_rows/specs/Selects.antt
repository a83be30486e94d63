-- A selection over one table.
use Rattle.std.specs.Prelude.{ℕ, pos, false, List, [], None}
use Rattle.sqlite_value.specs.declared.value.Value.TheVariants.{Int}
use Rattle.sqlite_value.specs.declared.keys.Key.{Key}
use Rattle.sqlite_sql.specs.Term.{Term, lit}
use Rattle.sqlite_sql.specs.Query.{Query, inner, end}

-- the rows of the table that pass the filter, in this order, as many as the limit says
abbrev pub select : ℕ → List Term → List Term → List (Term × Key) → Term → Query
select tree filter project order limit = record {
  from = inner tree end;
  filter = filter;
  group = None;
  project = project;
  distinct = false;
  collations = [];
  order = order;
  limit = limit;
  offset = lit (Int (pos 0));
}
