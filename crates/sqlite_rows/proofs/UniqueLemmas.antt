-- The index of the primary key keeps two rows from having one key.
use Rattle.std.proofs.Common.{◌≡◌, inl, inr, ℕ, ℤ, List, [], ◌∷◌, Bool, true, false, refl, sym, ap, subst}
use Rattle.std.specs.Prelude.{◌&&◌}
use Rattle.std.specs.List.{AllByRecursion, list_any}
use Rattle.std.specs.Ordering.{is_eq}
use Rattle.std.specs.declared.cmp.Ordering.{Ordering}
use Rattle.std.specs.declared.cmp.Ordering.TheVariants.{Less, Equal, Greater}
use Rattle.std.proofs.lemmas.Bool.{and_parts, or_parts, not-true}
use Rattle.sqlite_value.specs.declared.value.Value.TheVariants.{Int, Blob}
use Rattle.sqlite_value.specs.Keys.{first_key, plain}
use Rattle.sqlite_value.specs.Order.{Row, column, value_cmp}
use Rattle.sqlite_trees.specs.Tree.{rowid, has_rowid}
use Rattle.sqlite_sql.specs.Ops.{binary}
use Rattle.sqlite_schema.specs.declared.schema.Constraint.TheVariants.{Unique}
use Rattle.sqlite_schema.specs.Rules.{agree, clashes, differ, passes}
use Rattle.sqlite_rules.specs.Lists.{Has}
use Rattle.sqlite_rules.proofs.ListLemmas.{has_kept}
use Rattle.sqlite.specs.Effect.{Database, IsDatabase}
use Rattle.sqlite_rows.specs.Numbers.{AreNumbered}
use Rattle.sqlite_rows.specs.Tables.{known, items2}
use Rattle.sqlite_rows.specs.Uniques.{HaveOwnKeys}
use Rattle.sqlite_rows.proofs.GetLemmas.{equal-key}
use Rattle.sqlite_rows.proofs.HasLemmas.{all_at}
use Rattle.sqlite_rows.proofs.KeyLemmas.{bytes_eq-refl}
use Rattle.sqlite_rows.proofs.NumberLemmas.{have_ids}
use Rattle.sqlite_rows.proofs.PutLemmas.{key_value}

pub none_is : {X : Type 0} (p : X → Bool) (xs : List X) → list_any p xs ≡ false → (x : X) → Has xs x
    → p x ≡ false
none_is p [] none x h = absurd h
none_is p (y ∷ xs) none x (inl same) = rw same (or_parts _ _ none).0
none_is p (y ∷ xs) none x (inr h) = none_is p xs (or_parts _ _ none).1 x h

alike : (key : List ℕ) (a b : Row) → column a 1 ≡ Blob key → column b 1 ≡ Blob key
    → agree plain (1 ∷ []) a (1 ∷ []) b ≡ true
unfolding first_key
alike key a b p q = rw (p, q, equal-key key (Blob key), bytes_eq-refl key) refl

-- integers that do not differ are one
same_id : (m n : ℤ) → differ (Int m) (Int n) ≡ false → is_eq (value_cmp (Int m) (Int n)) ≡ true
unfolding binary
same_id m n h = ap is_eq (equal (value_cmp (Int m) (Int n)) refl h)
  where
    equal : (o : Ordering) → value_cmp (Int m) (Int n) ≡ o → differ (Int m) (Int n) ≡ false
        → value_cmp (Int m) (Int n) ≡ Equal
    equal Less e h = absurd (let f = rw e at h in cc)
    equal Equal e h = e
    equal Greater e h = absurd (let f = rw e at h in cc)

no_clash : (db : Database) → db.schema ≡ known → IsDatabase db → (row : Row) → Has (db.trees 3) row
    → clashes plain (1 ∷ []) (db.trees 3) row ≡ false
no_clash db has sound row had =
    let unique = (sound.obeys.rules Unique) in
    let here = subst (λ s. AllByRecursion
    (λ t. AllByRecursion (λ r. passes Unique s db.trees t r ≡ true) (db.trees t.tree)) s.tables)
    has unique in
    not-true _ (and_parts _ _
    (all_at (λ r. passes Unique known db.trees items2 r ≡ true) (db.trees 3) here.1.0 row
    had)).0

pub own_keys : (db : Database) → db.schema ≡ known → IsDatabase db → AreNumbered (db.trees 3)
    → HaveOwnKeys (db.trees 3)
own_keys db has sound n key row other had there hit too =
    let rows = db.trees 3 in
    let clash = none_is (λ x. agree plain (1 ∷ []) x (1 ∷ []) row && differ (rowid x) (rowid row))
    rows (no_clash db has sound row had) other there in
    let both = alike key other row (key_value key (column other 1) too)
    (key_value key (column row 1) hit) in
    let close : differ (rowid other) (rowid row) ≡ false = rw both at clash in
    let own = have_ids rows n row had in
    let far = have_ids rows n other there in
    let one = same_id far.0 own.0
    (subst (λ v. differ v (Int own.0) ≡ false) far.1
    (subst (λ v. differ (rowid other) v ≡ false) own.1 close)) in
    let named : has_rowid own.0 other ≡ true = subst (λ v. is_eq (value_cmp v (Int own.0)) ≡ true)
    (sym far.1) one in
    sym (only (subst (λ xs. Has xs other) own.2
    (has_kept (has_rowid own.0) rows other there named)))
  where
    only : Has (row ∷ []) other → other ≡ row
    only (inl e) = e
    only (inr none) = absurd none
