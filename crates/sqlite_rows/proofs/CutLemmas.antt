-- What a deletion by key removes.
use Rattle.std.proofs.Common.{◌≡◌, inl, inr, ℕ, ℤ, List, [], ◌∷◌, Bool, true, false, None, Ok, refl, sym, ap, subst, ◌∙◌, true≢false}
use Rattle.std.specs.Prelude.{filter, ◌&&◌, IsTrue}
use Rattle.std.proofs.lemmas.Bool.{cases_Bool}
use Rattle.sqlite_value.specs.declared.value.Value.TheVariants.{Null, Int, Blob}
use Rattle.sqlite_value.specs.Order.{Row, column}
use Rattle.sqlite_trees.specs.Tree.{Trees, rowid, has_rowid}
use Rattle.sqlite_schema.specs.declared.command.Command.{Command}
use Rattle.sqlite_schema.specs.declared.command.Command.TheVariants.{Delete}
use Rattle.sqlite_sql.specs.Program.{overlay}
use Rattle.sqlite_rules.specs.Calls.{ids_of}
use Rattle.sqlite_rules.specs.declared.error.Rowids.TheVariants.{Given}
use Rattle.sqlite_rules.specs.Edit.{Edit, edit_of, id_in, without_all}
use Rattle.sqlite_rules.specs.Lists.{Has}
use Rattle.sqlite_rules.proofs.TableLemmas.{without_all_has}
use Rattle.sqlite.specs.Does.{Tally, Does}
use Rattle.sqlite.specs.Effect.{Database}
use Rattle.sqlite.specs.Listing.{understood}
use Rattle.sqlite.specs.Rows.{Written}
use Rattle.sqlite.specs.State.{State, mode_of, Executes}
use Rattle.sqlite.proofs.Callers.{runs_as, statement_of, one_step}
use Rattle.sqlite_rows.specs.Cuts.{Cuts}
use Rattle.sqlite_rows.specs.Gets.{key_is}
use Rattle.sqlite_rows.specs.Numbers.{AreNumbered}
use Rattle.sqlite_rows.specs.Others.{LeavesOthers}
use Rattle.sqlite_rows.specs.Tables.{known, items, items2}
use Rattle.sqlite_rows.specs.Texts.{cut_text, drop_text}
use Rattle.sqlite_rows.proofs.GetLemmas.{equal-key}
use Rattle.sqlite_rows.proofs.HasLemmas.{has_map, left_keeps, left_lacks, mapped}
use Rattle.sqlite_rows.proofs.NumberLemmas.{have_ids, left_numbered}
use Rattle.sqlite_rows.proofs.PutLemmas.{same_value, went}
use Rattle.sqlite_rows.proofs.SelectLemmas.{all_rows, passes}
use Rattle.sqlite_rows.proofs.TextLemmas.{alone, cut_is, cut_plain, drop_is, drop_plain, key_test, no_limit, col_rowid, rows_of_key}

-- the selected rows are those that have the key
pub passes_key : (tree : ℕ) (key : List ℕ) (r : Row)
    → passes tree (key_test ∷ []) (col_rowid ∷ []) [] no_limit (Blob key ∷ []) r ≡ key_is key
    (column r 1)
passes_key tree key r = rw (equal-key key (column r 1)) (same (key_is key (column r 1)))
  where
    same : (b : Bool) → (b && true) ≡ b
    same true = refl
    same false = refl

module _ (tree : ℕ) (key : List ℕ) (trees : Trees) (rows shown : List Row) (are : trees tree ≡ rows)
    (n : AreNumbered rows)
    (a : Rattle.sqlite_sql.specs.Query.IsAnswer (rows_of_key tree) trees (Blob key ∷ []) shown)
  where
    both : ((o : Row) → Has shown o → (r : Row) × Has rows r
        × (passes tree (key_test ∷ []) (col_rowid ∷ []) [] no_limit (Blob key ∷ []) r ≡ true)
        × (o ≡ column r 0 ∷ []))
        × ((r : Row) → Has rows r → passes tree (key_test ∷ []) (col_rowid ∷ []) [] no_limit
        (Blob key ∷ []) r ≡ true → Has shown (column r 0 ∷ []))
    both = all_rows tree (key_test ∷ []) (col_rowid ∷ []) [] no_limit (Blob key ∷ []) trees rows are
        (λ xs. inl refl) (λ xs. refl) shown a

    -- the rowid of a row that goes is that of a row with the key
    gone_of : (id : ℤ) → Has (ids_of shown) id → (r : Row) × Has rows r
        × (key_is key (column r 1) ≡ true) × (rowid r ≡ Int id)
    gone_of id h =
        let o = mapped (λ (x : Row). id_in (rowid x)) shown id h in
        let r = both.0 o.0 o.1 in
        let named = have_ids rows n r.0 r.1 in (
          r.0,
          r.1,
          sym (passes_key tree key r.0) ∙ r.2,
          named.1
              ∙ ap Int (sym (ap id_in named.1) ∙ sym (o.2 ∙ ap (λ (x : Row). id_in (rowid x)) r.3)),
        )

    goes : (r : Row) → Has rows r → key_is key (column r 1) ≡ true
        → Has (ids_of shown) (id_in (rowid r))
    goes r had hit = has_map (λ (x : Row). id_in (rowid x)) shown (column r 0 ∷ [])
        (both.1 r had (passes_key tree key r ∙ hit))

    itself : (r : Row) → Has rows r → has_rowid (id_in (rowid r)) r ≡ true
    itself r had =
        let own = have_ids rows n r had in
        let here : id_in (rowid r) ≡ own.0 = ap id_in own.1 in
        subst (λ id. has_rowid id r ≡ true) (sym here)
        (Rattle.sqlite_rules.proofs.ListLemmas.has_filtered (has_rowid own.0) rows r
        (subst (λ xs. Has xs r) (sym own.2) (inl refl))).1

    only_one : (r x : Row) → Has rows r → Has rows x → (id : ℤ) → rowid r ≡ Int id
        → has_rowid id x ≡ true → x ≡ r
    only_one r x had there id named hit =
        let own = have_ids rows n r had in
        let same : own.0 ≡ id = (let f = sym own.1 ∙ named in cc) in
        let alone = subst (λ m. filter (has_rowid m) rows ≡ r ∷ []) same own.2 in
        one (subst (λ xs. Has xs x) alone
        (Rattle.sqlite_rules.proofs.ListLemmas.has_kept (has_rowid id) rows x there hit))
      where
        one : Has (r ∷ []) x → x ≡ r
        one (inl e) = e
        one (inr none) = absurd none

    pub cuts : Cuts rows (without_all rows (ids_of shown)) key
    cuts = record {
      left = λ row h.
          let had = without_all_has (ids_of shown) rows row h in (
            had,
            elim (cases_Bool (key_is key (column row 1))) [
              | inl hit ↦ absurd (true≢false (sym (itself row had)
                  ∙ left_lacks (ids_of shown) rows row h (id_in (rowid row)) (goes row had hit)))
              | inr miss ↦ miss
            ],
          );
      kept = λ row had miss. left_keeps (ids_of shown) rows row had (λ id among.
          let r = gone_of id among in
          elim (cases_Bool (has_rowid id row)) [
            | inl hit ↦ absurd (true≢false
                (sym r.2 ∙ subst (λ (x : Row). key_is key (column x 1) ≡ false)
                (only_one r.0 row r.1 had id r.3 hit) miss))
            | inr far ↦ far
          ]);
      numbered = left_numbered (ids_of shown) rows n;
    }

pub record Deleted (old new : State) (key : List ℕ) (tree : ℕ) : Type 0 where
  pub cuts : AreNumbered (old.now.trees tree) → Cuts (old.now.trees tree) (new.now.trees tree) key
  pub others : LeavesOthers tree old.now.trees new.now.trees
  pub schema : new.now.schema ≡ known
  pub was_open : IsTrue old.is_open
  pub mode : new.in_transaction ≡ old.in_transaction

pub cut : (key : List ℕ) (old new : State) (count : ℕ) → old.now.schema ≡ known
    → Executes cut_text (Blob key ∷ []) old new (Ok count) → Deleted old new key 3
cut key old new count has h =
    let params : Row = Blob key ∷ [] in
    let db = old.now.trees in
    let command : Command = Delete 1 (alone (rows_of_key 3)) in
    let w = runs_as cut_text params old new known has command cut_is cut_plain count h in
    let text = statement_of cut_text (understood known cut_text) in
    let done = went (subst
    (λ s. Does old.step_limit (mode_of old) params (record old.now { schema = s }) text None
    command (Ok (w.tally, new.now))) has w.changed) in
    let now = ap (λ (p : Tally × Database). p.1) (same_value (went (went done.2).2).2) in
    let asked = went done.1 in
    let wrote = went asked.2 in
    let edit : Edit = edit_of db items2 (ids_of asked.0) Given 0 [] in
    let applied = one_step known _ db wrote.0 edit refl wrote.1 in
    let trees : new.now.trees ≡ wrote.0 = ap (λ (d : Database). d.trees) now
    ∙ ap (λ (x : Written). x.trees) (same_value wrote.2) in
    record {
      cuts = λ n. subst (λ rows. Cuts (db 3) rows key)
          (sym (ap (λ (t : Trees). t 3) trees ∙ applied.rows))
          (cuts 3 key (overlay db []) (db 3) asked.0 refl n (asked.1.answer Null));
      others = λ t far none. ap (λ (x : Trees). x t) trees ∙ applied.others t far none;
      schema = ap (λ (d : Database). d.schema) now;
      was_open = w.shown.was_open;
      mode = w.shown.mode;
    }

-- the same of the old table
pub drop : (key : List ℕ) (old new : State) (count : ℕ) → old.now.schema ≡ known
    → Executes drop_text (Blob key ∷ []) old new (Ok count) → Deleted old new key 0
drop key old new count has h =
    let params : Row = Blob key ∷ [] in
    let db = old.now.trees in
    let command : Command = Delete 0 (alone (rows_of_key 0)) in
    let w = runs_as drop_text params old new known has command drop_is drop_plain count h in
    let text = statement_of drop_text (understood known drop_text) in
    let done = went (subst
    (λ s. Does old.step_limit (mode_of old) params (record old.now { schema = s }) text None
    command (Ok (w.tally, new.now))) has w.changed) in
    let now = ap (λ (p : Tally × Database). p.1) (same_value (went (went done.2).2).2) in
    let asked = went done.1 in
    let wrote = went asked.2 in
    let edit : Edit = edit_of db items (ids_of asked.0) Given 0 [] in
    let applied = one_step known _ db wrote.0 edit refl wrote.1 in
    let trees : new.now.trees ≡ wrote.0 = ap (λ (d : Database). d.trees) now
    ∙ ap (λ (x : Written). x.trees) (same_value wrote.2) in
    record {
      cuts = λ n. subst (λ rows. Cuts (db 0) rows key)
          (sym (ap (λ (t : Trees). t 0) trees ∙ applied.rows))
          (cuts 0 key (overlay db []) (db 0) asked.0 refl n (asked.1.answer Null));
      others = λ t far none. ap (λ (x : Trees). x t) trees ∙ applied.others t far none;
      schema = ap (λ (d : Database). d.schema) now;
      was_open = w.shown.was_open;
      mode = w.shown.mode;
    }
