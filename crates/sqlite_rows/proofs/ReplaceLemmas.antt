-- An upsert replaces the row of the key.
use Rattle.std.proofs.Common.{◌≡◌, inl, inr, ℕ, List, [], ◌∷◌, true, false, refl, sym, subst, ◌∙◌, true≢false}
use Rattle.std.specs.Prelude.{filter, not}
use Rattle.std.proofs.lemmas.Bool.{cases_Bool, not-true}
use Rattle.sqlite_value.specs.declared.value.Value.TheVariants.{Int}
use Rattle.sqlite_value.specs.Order.{Row, column}
use Rattle.sqlite_trees.specs.Tree.{has_rowid, put_row, without_rowid}
use Rattle.sqlite_rules.specs.Edit.{is_taken, next_rowid}
use Rattle.sqlite_rules.specs.Lists.{Has}
use Rattle.sqlite_rules.proofs.ListLemmas.{has_filtered, has_kept}
use Rattle.sqlite_rules.proofs.TableLemmas.{has_put, put_has, put_all_keeps}
use Rattle.sqlite_rows.specs.Gets.{key_is}
use Rattle.sqlite_rows.specs.Puts.{HaveIds, Puts, SetsRow, Fields, columns_with}
use Rattle.sqlite_rows.specs.Replaces.{Replaces}
use Rattle.sqlite_rows.specs.Uniques.{HaveOwnKeys}

stays_in : (new : Row) (rows : List Row) (x : Row) → is_taken rows new ≡ false → Has rows x
    → Has (put_row new rows) x
stays_in new rows x free h = put_all_keeps (new ∷ []) rows x (rw free) h

module _ (old new : List Row) (key : List ℕ) (it : Fields) (own : HaveOwnKeys old)
    (ids : HaveIds old) where
  -- the row that had the key is the only one with its rowid
  only_one : (s : SetsRow old new key it) (row : Row) → Has old row → has_rowid s.id row ≡ true
      → row ≡ s.row
  only_one s row had hit =
      let mine = ids s.row s.had in
      let same : mine.0 ≡ s.id = (let f = sym mine.1 ∙ s.named in cc) in
      let alone = subst (λ n. filter (has_rowid n) old ≡ s.row ∷ []) same mine.2 in
      one (subst (λ xs. Has xs row) alone (has_kept (has_rowid s.id) old row had hit))
    where
      one : Has (s.row ∷ []) row → row ≡ s.row
      one (inl e) = e
      one (inr none) = absurd none

  itself : (s : SetsRow old new key it) → has_rowid s.id s.row ≡ true
  itself s =
      let mine = ids s.row s.had in
      let same : mine.0 ≡ s.id = (let f = sym mine.1 ∙ s.named in cc) in
      let alone = subst (λ n. filter (has_rowid n) old ≡ s.row ∷ []) same mine.2 in
      (has_filtered (has_rowid s.id) old s.row
      (subst (λ xs. Has xs s.row) (sym alone) (inl refl))).1

  pub replaces : Puts old new key it → Replaces old new key it
  replaces (inl a) = record {
    id = next_rowid old;
    there = subst (λ xs. Has xs (Int (next_rowid old) ∷ columns_with key it)) (sym a.added)
        (has_put (Int (next_rowid old) ∷ columns_with key it) old);
    either = λ row h. elim
        (put_has (Int (next_rowid old) ∷ columns_with key it) old row
        (subst (λ xs. Has xs row) a.added h)) [
          | inl here ↦ inl here
          | inr was ↦ inr (was, a.lacked row was)
        ];
    kept = λ row had miss. subst (λ xs. Has xs row) (sym a.added)
        (stays_in (Int (next_rowid old) ∷ columns_with key it) old row a.free had);
  }
  replaces (inr s) = record {
    id = s.id;
    there = subst (λ xs. Has xs (Int s.id ∷ columns_with key it)) (sym s.set)
        (has_put (Int s.id ∷ columns_with key it) (without_rowid s.id old));
    either = λ row h. elim (put_has (Int s.id ∷ columns_with key it) (without_rowid s.id old) row
        (subst (λ xs. Has xs row) s.set h)) [
          | inl here ↦ inl here
          | inr was ↦
              let f = has_filtered (λ r. not (has_rowid s.id r)) old row was in
              let far = not-true _ f.1 in
              inr (
                f.0,
                elim (cases_Bool (key_is key (column row 1))) [
                  | inl hit ↦ absurd (true≢false
                      (sym (itself s) ∙ subst (λ r. has_rowid s.id r ≡ false)
                      (own key row s.row f.0 s.had hit s.keyed) far))
                  | inr miss ↦ miss
                ],
              )
        ];
    kept = λ row had miss.
        let far : has_rowid s.id row ≡ false = elim (cases_Bool (has_rowid s.id row)) [
          | inl hit ↦ absurd (true≢false
              (sym s.keyed ∙ subst (λ r. key_is key (column r 1) ≡ false) (only_one s row had hit)
              miss))
          | inr far ↦ far
        ] in
        subst (λ xs. Has xs row) (sym s.set)
        (stays_in (Int s.id ∷ columns_with key it) (without_rowid s.id old) row s.free
        (has_kept (λ r. not (has_rowid s.id r)) old row had (rw far)));
  }
