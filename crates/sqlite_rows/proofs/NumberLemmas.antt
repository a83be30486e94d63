-- Rowids: each row of a tree has one of its own, and the statements keep that.
use Rattle.std.proofs.Common.{◌≡◌, inl, inr, ℕ, ℤ, List, [], ◌∷◌, true, false, refl, sym, ap, subst, ◌∙◌}
use Rattle.std.specs.Prelude.{filter, not, IsTrue}
use Rattle.std.specs.List.{AllByRecursion}
use Rattle.std.specs.Ordering.{is_eq, ordering_reverse}
use Rattle.std.specs.declared.cmp.Ordering.TheVariants.{Less}
use Rattle.std.proofs.lemmas.Cmp.{tied_itself}
use Rattle.sqlite_value.specs.declared.value.Value.TheVariants.{Int}
use Rattle.sqlite_value.specs.Order.{Row, value_cmp}
use Rattle.sqlite_value.proofs.OrderLemmas.{value_cmp_total}
use Rattle.sqlite_trees.specs.declared.store.Shape.TheVariants.{Table}
use Rattle.sqlite_trees.specs.Tree.{rowid, has_rowid, without_rowid, IsTable}
use Rattle.sqlite_trees.specs.View.{is_int}
use Rattle.sqlite_trees.proofs.TreeLemmas.{IsShaped-filter, IsShaped-put_row}
use Rattle.sqlite_rules.specs.Lists.{Has}
use Rattle.sqlite_rules.specs.Edit.{id_in, without_all}
use Rattle.sqlite_rules.proofs.TableLemmas.{int_is}
use Rattle.sqlite_rows.specs.Puts.{HaveIds, Puts, Fields}
use Rattle.sqlite_rows.specs.Numbers.{AreNumbered}
use Rattle.sqlite_rows.proofs.HasLemmas.{all_at}

-- the row before, whose rowid is less, has not this one
before : (r x : Row) (id : ℤ) → value_cmp (rowid r) (rowid x) ≡ Less → rowid x ≡ Int id
    → has_rowid id r ≡ false
before r x id less is = ap is_eq (subst (λ v. value_cmp (rowid r) v ≡ Less) is less)

-- nor has a row behind
behind : (r x : Row) (id : ℤ) → value_cmp (rowid r) (rowid x) ≡ Less → rowid r ≡ Int id
    → has_rowid id x ≡ false
behind r x id less is =
    ap is_eq (value_cmp_total.antisymm (rowid x) (Int id)
    ∙ ap ordering_reverse (subst (λ v. value_cmp v (rowid x) ≡ Less) is less))

itself : (r : Row) (id : ℤ) → rowid r ≡ Int id → has_rowid id r ≡ true
itself r id is = rw is (ap is_eq (tied_itself value_cmp_total (Int id)))

none_behind : (r : Row) (rows : List Row) (id : ℤ) → rowid r ≡ Int id
    → AllByRecursion (λ x. value_cmp (rowid r) (rowid x) ≡ Less) rows
    → filter (has_rowid id) rows ≡ []
none_behind r [] id is below = refl
none_behind r (x ∷ rows) id is below = rw (behind r x id below.0 is)
    (none_behind r rows id is below.1)

only : (rows : List Row) → IsTable rows → (row : Row) → Has rows row → (id : ℤ) → rowid row ≡ Int id
    → filter (has_rowid id) rows ≡ row ∷ []
only [] t row h id is = absurd h
only (r ∷ rows) t row (inl same) id is =
    let mine : rowid r ≡ Int id = ap rowid (sym same) ∙ is in
    rw (itself r id mine) (ap (λ xs. r ∷ xs) (none_behind r rows id mine t.0)
    ∙ ap (λ x. x ∷ []) (sym same))
only (r ∷ rows) t row (inr later) id is =
    rw (before r row id (all_at (λ x. value_cmp (rowid r) (rowid x) ≡ Less) rows t.0 row later) is)
    (only rows t.1 row later id is)

pub have_ids : (rows : List Row) → AreNumbered rows → HaveIds rows
have_ids rows n row h =
    let named = int_is (rowid row) (all_at (λ r. IsTrue (is_int (rowid r))) rows n.1 row h) in
    (id_in (rowid row), named, only rows n.0 row h (id_in (rowid row)) named)

pub left_numbered : (ids : List ℤ) (rows : List Row) → AreNumbered rows
    → AreNumbered (without_all rows ids)
left_numbered [] rows n = n
left_numbered (id ∷ ids) rows n = left_numbered ids (without_rowid id rows)
    (IsShaped-filter Table (λ r. not (has_rowid id r)) rows n)

pub put_numbered : (old new : List Row) (key : List ℕ) (it : Fields) → AreNumbered old
    → Puts old new key it → AreNumbered new
put_numbered old new key it n (inl a) = subst AreNumbered (sym a.added)
    (IsShaped-put_row _ old refl n)
put_numbered old new key it n (inr s) =
    subst AreNumbered (sym s.set)
    (IsShaped-put_row _ (without_rowid s.id old) refl
    (IsShaped-filter Table (λ r. not (has_rowid s.id r)) old n))
