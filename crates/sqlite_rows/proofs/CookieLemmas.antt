-- The table of the last cookie.
use Rattle.std.proofs.Common.{◌≡◌, inl, inr, ℕ, ℤ, pos, List, [], ◌∷◌, map, Bool, true, false, None, Ok, Err, Result, OnOk, refl, ap, subst, ◌∙◌, arith}
use Rattle.std.specs.Prelude.{IfOk, IsTrue, ◌&&◌}
use Rattle.std.specs.List.{flat_map, list_all}
use Rattle.std.specs.List.Sorted.{IsPermutation}
use Rattle.std.proofs.lemmas.Cmp.{tied_itself}
use Rattle.std.proofs.Common.{cond}
use Rattle.sqlite_value.specs.declared.value.Value.TheVariants.{Null, Int}
use Rattle.sqlite_value.specs.Order.{Row, column}
use Rattle.sqlite_value.proofs.OrderLemmas.{value_cmp_total}
use Rattle.sqlite_trees.specs.Tree.{Trees, put_row, without_rowid}
use Rattle.sqlite_sql.specs.Ops.{binary}
use Rattle.sqlite_sql.specs.Term.{Env, holds}
use Rattle.sqlite_schema.specs.declared.command.Command.{Command}
use Rattle.sqlite_schema.specs.declared.command.Command.TheVariants.{Update}
use Rattle.sqlite_sql.specs.Program.{overlay}
use Rattle.sqlite_sql.specs.Query.{Output, output, page, IsAnswer}
use Rattle.sqlite_rules.specs.Calls.{ids_of}
use Rattle.sqlite_rules.specs.declared.error.Rowids.TheVariants.{Given}
use Rattle.sqlite_rules.specs.Edit.{Edit, edit_of, edited, IsNoIndex}
use Rattle.sqlite_rules.specs.Cast.{cast_row}
use Rattle.sqlite_rules.specs.Lists.{Has}
use Rattle.sqlite.specs.declared.error.Error.{Error}
use Rattle.sqlite.specs.declared.error.Error.TheVariants.{QueryReturnedNoRows}
use Rattle.sqlite.specs.Does.{Tally, Does}
use Rattle.sqlite.specs.Effect.{Database}
use Rattle.sqlite.specs.Listing.{understood}
use Rattle.sqlite.specs.Rows.{Written}
use Rattle.sqlite.specs.State.{State, mode_of, Executes, QueriesRow, Shown}
use Rattle.sqlite.proofs.Callers.{one_permutation, one_step, runs_as, statement_of}
use Rattle.sqlite_rows.specs.Calls.{IsKnown}
use Rattle.sqlite_rows.specs.Cookies.{IsLast, ShowsAll, ShowsGreatest, ShowsLast, SetsLast}
use Rattle.sqlite_rows.specs.Others.{LeavesOthers}
use Rattle.sqlite_rows.specs.Tables.{cookies, known}
use Rattle.sqlite_rows.specs.Texts.{all_cookies_text, greatest_text, last_text, set_last_text}
use Rattle.sqlite_rows.proofs.PutLemmas.{cast_int, cast_null, same_value, went}
use Rattle.sqlite_rows.proofs.QueryLemmas.{each_row, one_row, no_rows}
use Rattle.sqlite_rows.proofs.TextLemmas.{all_cookies_columns, all_cookies_is, all_cookies_plain, alone, greatest_is, greatest_plain, is_one, last_is, last_plain, no_limit, set_last_is, set_last_plain, set_last_query, one_row as limit_one, col_last, col_cookie, greatest_order}

and_true : (b : Bool) → (b && true) ≡ b
and_true true = refl
and_true false = refl

pub last_ok : (old new : State) (r : Result Row Error) → IsKnown old
    → QueriesRow last_text [] old new r → IfOk r (ShowsLast (old.now.trees 6))
last_ok old new (Err e) fits h = tt
last_ok old new (Ok row) fits h =
    let f = one_row last_text [] old new fits.0 last_plain 6 (is_one ∷ [])
    (col_last ∷ []) [] no_limit _ last_is.0 last_is.1 (old.now.trees 6) refl
    (λ xs. inl refl) row h in
    (f.row, f.had, f.shows)

pub greatest_ok : (old new : State) (r : Result Row Error) → IsKnown old
    → QueriesRow greatest_text [] old new r → IfOk r (ShowsGreatest (old.now.trees 3))
greatest_ok old new (Err e) fits h = tt
greatest_ok old new (Ok row) fits h =
    let f = one_row greatest_text [] old new fits.0 greatest_plain 3 []
    (col_cookie ∷ []) greatest_order limit_one _ greatest_is.0 greatest_is.1
    (old.now.trees 3) refl (λ xs. inr refl) row h in
    record { row = f.row; had = f.had; shows = f.shows; first = λ x had. f.first x had refl }

pub none_greatest : (old new : State) (r : Result Row Error) → IsKnown old
    → QueriesRow greatest_text [] old new r → r ≡ Err QueryReturnedNoRows → (x : Row)
    → Has (old.now.trees 3) x → ⊥
none_greatest old new r fits h e x had =
    let f = no_rows greatest_text [] old new fits.0 greatest_plain 3 []
    (col_cookie ∷ []) greatest_order limit_one _ greatest_is.0 greatest_is.1
    (old.now.trees 3) refl (λ xs. inr refl) (rw e at h) x had in cc

pub all_cookies_ok : {V : Type 0} (items : V → List Row) (old new : State) (r : Result V Error)
    → IsKnown old → IfOk r (λ v. Shown all_cookies_text [] old new (items v))
    → IfOk r (λ v. ShowsAll (old.now.trees 6) (items v))
all_cookies_ok items old new (Err e) fits h = tt
all_cookies_ok items old new (Ok v) fits h =
    let f = each_row all_cookies_text [] old new fits.0 all_cookies_plain 6 [] all_cookies_columns
    [] no_limit _ all_cookies_is.0 all_cookies_is.1 (old.now.trees 6) refl (λ xs. inl refl)
    (λ xs. refl) (items v) h in
    record {
      each = λ row had. f.1 row had refl;
      only = λ shown had. let o = f.0 shown had in (o.0, o.1, o.3);
    }

-- ---- the update

is_one_holds : (params row : Row) → column row 0 ≡ Int (pos 1)
    → holds (params ∷ row ∷ []) is_one ≡ true
unfolding binary
is_one_holds params row is = rw (is, tied_itself value_cmp_total (Int (pos 1))) refl

abbrev row_with : ℤ → Row
row_with last = Int (pos 1) ∷ Null ∷ Int last ∷ []

-- the row as the update shows it, behind its old rowid
abbrev moved : ℤ → Row
moved m = Int (pos 1) ∷ Int (pos 1) ∷ Null ∷ Int m ∷ []

abbrev found_in : ℤ → List Row → List Env
found_in m rows = flat_map (λ r. cond (list_all (holds ((Int m ∷ []) ∷ r ∷ [])) (is_one ∷ []))
    (((Int m ∷ []) ∷ r ∷ []) ∷ []) []) rows

one_found : (m : ℤ) (row : Row) → column row 0 ≡ Int (pos 1)
    → map (output set_last_query) (found_in m (row ∷ [])) ≡ ([], moved m) ∷ []
one_found m row is = rw (is_one_holds (Int m ∷ []) row is, is) refl

shown_is : (db : Trees) (m l : ℤ) (rows : List Row) → IsLast (db 6) l
    → IsAnswer set_last_query (overlay db []) (Int m ∷ []) rows → rows ≡ moved m ∷ []
shown_is db m l rows has a =
    let o : Output = ([], moved m) in
    let kept : a.kept ≡ o ∷ [] = a.distinct ∙ ap (map (output set_last_query)) a.grouped
    ∙ ap (λ (xs : List Row). map (output set_last_query) (found_in m xs)) has.only
    ∙ one_found m has.row has.id in
    let ordered = one_permutation o a.ordered (subst (λ k. IsPermutation k a.ordered) kept a.same)
    in
    a.shown ∙ ap (λ xs. page set_last_query (Int m ∷ []) (map (λ (p : Output). p.1) xs)) ordered

cast_moved : (m : ℤ) → cast_row cookies (row_with m) ≡ row_with m
cast_moved m = rw (cast_int (pos 1), cast_null, cast_int m)

gone : (row : Row) → column row 0 ≡ Int (pos 1) → without_rowid (pos 1) (row ∷ []) ≡ []
gone row is = rw (is, tied_itself value_cmp_total (Int (pos 1))) refl

pub record Updated (old new : State) (m : ℤ) : Type 0 where
  pub sets : SetsLast (old.now.trees 6) (new.now.trees 6) m
  pub others : LeavesOthers 6 old.now.trees new.now.trees
  pub schema : new.now.schema ≡ known
  pub was_open : IsTrue old.is_open
  pub mode : new.in_transaction ≡ old.in_transaction

pub update : (m : ℤ) (old new : State) (count : ℕ) → old.now.schema ≡ known
    → Executes set_last_text (Int m ∷ []) old new (Ok count) → Updated old new m
update m old new count has h =
    let params : Row = Int m ∷ [] in
    let db = old.now.trees in
    let command : Command = Update 2 (alone set_last_query) in
    let w = runs_as set_last_text params old new known has command set_last_is set_last_plain count
    h in
    let text = statement_of set_last_text (understood known set_last_text) in
    let done = went (subst
    (λ s. Does old.step_limit (mode_of old) params (record old.now { schema = s }) text None
    command (Ok (w.tally, new.now))) has w.changed) in
    let now = ap (λ (p : Tally × Database). p.1) (same_value (went (went done.2).2).2) in
    let asked = went done.1 in
    let wrote = went asked.2 in
    let edit : List Row → Edit = λ rows. edit_of db cookies (ids_of rows) Given 1 rows in
    let applied = one_step known _ db wrote.0 (edit asked.0) refl wrote.1 in
    let trees : new.now.trees ≡ wrote.0 = ap (λ (d : Database). d.trees) now
    ∙ ap (λ (x : Written). x.trees) (same_value wrote.2) in
    record {
      sets = λ l is.
          let shows = shown_is db m l asked.0 is (asked.1.answer Null) in
          let rows = subst (λ all. wrote.0 6 ≡ edited db (edit all)) shows applied.rows in
          let left : without_rowid (pos 1) (db 6) ≡ [] =
          ap (without_rowid (pos 1)) is.only ∙ gone is.row is.id in
          record {
            row = row_with m;
            only = ap (λ (t : Trees). t 6) trees ∙ rows
                ∙ ap (λ r. put_row r (without_rowid (pos 1) (db 6))) (cast_moved m)
                ∙ ap (put_row (row_with m)) left;
            id = refl;
            shows = refl;
          };
      others = λ t far none. ap (λ (x : Trees). x t) trees ∙ applied.others t far none;
      schema = ap (λ (d : Database). d.schema) now;
      was_open = w.shown.was_open;
      mode = w.shown.mode;
    }

no_index_3 : IsNoIndex known 3
no_index_3 = (
  λ e. omega (arith, e),
  (λ e. omega (arith, e), (λ e. omega (arith, e), (λ e. omega (arith, e), tt))),
)

pub set_last_ok : (m : ℤ) (old new : State) (r : Result ℕ Error) → IsKnown old
    → Executes set_last_text (Int m ∷ []) old new r
    → OnOk r (SetsLast (old.now.trees 6) (new.now.trees 6) m × IsKnown new
    × (new.now.trees 3 ≡ old.now.trees 3))
set_last_ok m old new (Err e) fits h = tt
set_last_ok m old new (Ok count) fits h =
    let u = update m old new count fits.0 h in
    (u.sets, (u.schema, u.mode ∙ fits.1), u.others 3 (λ e. omega (arith, e)) no_index_3)
