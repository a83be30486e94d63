-- The other tables.
use Rattle.std.proofs.Common.{arith}
use Rattle.sqlite_trees.specs.Tree.{Trees}
use Rattle.sqlite_rules.specs.Edit.{IsNoIndex}
use Rattle.sqlite_rows.specs.Others.{LeavesOthers, KeepsOtherTables}
use Rattle.sqlite_rows.specs.Tables.{known}

no_index_0 : IsNoIndex known 0
no_index_0 = (
  λ e. omega (arith, e),
  (λ e. omega (arith, e), (λ e. omega (arith, e), (λ e. omega (arith, e), tt))),
)

no_index_6 : IsNoIndex known 6
no_index_6 = (
  λ e. omega (arith, e),
  (λ e. omega (arith, e), (λ e. omega (arith, e), (λ e. omega (arith, e), tt))),
)

pub keeps_other_tables : (old new : Trees) → LeavesOthers 3 old new → KeepsOtherTables old new
keeps_other_tables old new leaves = (
  leaves 0 (λ e. omega (arith, e)) no_index_0,
  leaves 6 (λ e. omega (arith, e)) no_index_6,
)
