-- A connection that is opened over its store anew, and the one row of `cookies`.
use Rattle.std.proofs.Common.{◌≡◌, inl, inr, ℕ, ℤ, pos, List, [], ◌∷◌, true, false, refl, sym, ap, subst, ◌∙◌, true≢false}
use Rattle.std.specs.Prelude.{IsTrue, filter}
use Rattle.std.specs.Ordering.{is_eq}
use Rattle.std.proofs.lemmas.Bool.{cases_Bool}
use Rattle.std.proofs.lemmas.Cmp.{tied_itself}
use Rattle.sqlite_value.specs.declared.value.Value.TheVariants.{Int}
use Rattle.sqlite_value.specs.Order.{Row, column}
use Rattle.sqlite_value.proofs.OrderLemmas.{value_cmp_total}
use Rattle.sqlite_trees.specs.Tree.{Trees, has_rowid}
use Rattle.sqlite_trees.specs.View.{View, IsClean, IsOrdered, IsRolledBack, IsShaped}
use Rattle.sqlite_trees.specs.declared.store.Shape.{Shape}
use Rattle.sqlite_trees.specs.declared.store.Shape.TheVariants.{Table}
use Rattle.sqlite_rules.specs.Lists.{Has}
use Rattle.sqlite.specs.Steps.{IsFresh}
use Rattle.sqlite_rows.specs.Cookies.{IsLast, ShowsAll}
use Rattle.sqlite_rows.specs.Numbers.{AreNumbered}
use Rattle.sqlite_rows.proofs.NumberLemmas.{have_ids}
use Rattle.sqlite_keeper.specs.Rows.{IsOneLast}

-- a store that was rolled back is as one that was just opened
pub fresh_after : (old v : View) → IsRolledBack old v → (IsClean v → IsTrue v.is_numbered)
    → (IsClean v → v.is_broken ≡ false) → (v.is_open ≡ false → IsTrue v.is_broken) → IsClean v
    → IsFresh v
fresh_after old v undone numbered sound law clean = elim (cases_Bool v.is_open) [
  | inl opened ↦
      let kept = undone.kept clean in
      let trees = undone.undone opened in
      record {
        sound = sound clean;
        numbered = numbered clean;
        clean = trees.0 ∙ sym (kept.committed opened);
        unmarked = kept.marks opened;
      }
  | inr shut ↦ absurd (true≢false (sym (law shut) ∙ sound clean))
]

filter_all : (rows : List Row) (id : ℤ)
    → ((row : Row) → Has rows row → has_rowid id row ≡ true) → filter (has_rowid id) rows ≡ rows
filter_all [] id each = refl
filter_all (r ∷ rows) id each = rw (each r (inl refl))
    (ap (λ xs. r ∷ xs) (filter_all rows id (λ row h. each row (inr h))))

same_id : (a b : ℤ) → Int a ≡ Int b → a ≡ b
same_id a b e = cc

-- where one row is shown of all rows, there is one
pub one_last : (rows out : List Row) (last : ℕ) → AreNumbered rows → ShowsAll rows out
    → IsOneLast out last → IsLast rows (pos last)
one_last rows out last numbered shows one =
    let f = shows.only one.0 (subst (λ xs. Has xs one.0) (sym one.1) (inl refl)) in
    let same : (row : Row) → Has rows row → column row 0 ∷ column row 2 ∷ [] ≡ one.0 =
    λ row had. elim (subst (λ xs. Has xs (column row 0 ∷ column row 2 ∷ [])) one.1
    (shows.each row had)) [ inl is ↦ is | inr none ↦ absurd none ] in
    let first : (row : Row) → Has rows row → column row 0 ≡ Int (pos 1) =
    λ row had. ap (λ (r : Row). column r 0) (same row had) ∙ one.2 in
    let hits : (row : Row) → Has rows row → has_rowid (pos 1) row ≡ true =
    λ row had. rw (first row had) (ap is_eq (tied_itself value_cmp_total (Int (pos 1)))) in
    let ids = have_ids rows numbered f.0 f.1 in
    let id : ids.0 ≡ pos 1 = same_id ids.0 (pos 1) (sym ids.1 ∙ first f.0 f.1) in
    let alone : filter (has_rowid (pos 1)) rows ≡ f.0 ∷ [] =
    subst (λ n. filter (has_rowid n) rows ≡ f.0 ∷ []) id ids.2 in
    record {
      row = f.0;
      only = sym (filter_all rows (pos 1) hits) ∙ alone;
      id = first f.0 f.1;
      shows = ap (λ (r : Row). column r 1) (sym f.2) ∙ one.3;
    }

-- a table of a store that is not broken has rowids that rise
pub tree_numbered : (shape : ℕ → Shape) (trees now : Trees) (t : ℕ) → IsOrdered shape trees
    → shape t ≡ Table → now ≡ trees → AreNumbered (now t)
tree_numbered shape trees now t ordered is same =
    subst (λ ts. AreNumbered (ts t)) (sym same)
    (subst (λ s. IsShaped s (trees t)) is (ordered t))
