-- The calls on the tables, from the clauses of the database.
use Rattle.std.proofs.Common.{◌≡◌, inr, ℕ, ℤ, List, [], ◌∷◌, Bool, true, false, Ok, Err, Result, OnOk, refl, sym, ◌∙◌}
use Rattle.std.specs.Prelude.{IsTrue, IfOk, OnErr, ◌&&◌}
use Rattle.sqlite_value.specs.declared.value.Value.TheVariants.{Int, Blob}
use Rattle.sqlite_value.specs.Order.{Row}
use Rattle.sqlite.specs.declared.error.Error.{Error}
use Rattle.sqlite.specs.declared.error.Error.TheVariants.{QueryReturnedNoRows}
use Rattle.sqlite.specs.State.{State, Executes, QueriesRow}
use Rattle.sqlite_rows.specs.Calls.{IsKnown, KeepsDatabase, WritesItems}
use Rattle.sqlite_rows.specs.Cuts.{Cuts}
use Rattle.sqlite_rows.specs.Dues.{LacksDue, ShowsFirstDue, is_due}
use Rattle.sqlite_rows.specs.Numbers.{AreNumbered}
use Rattle.sqlite_rows.specs.Puts.{Fields, Puts, columns_with}
use Rattle.sqlite_rows.specs.Texts.{put_text, cut_text, due_text}
use Rattle.sqlite_rows.proofs.CutLemmas.{cut}
use Rattle.sqlite_rows.proofs.NumberLemmas.{have_ids, put_numbered}
use Rattle.sqlite_rows.proofs.OthersLemmas.{keeps_other_tables}
use Rattle.sqlite_rows.proofs.PutLemmas.{upsert}
use Rattle.sqlite_rows.proofs.QueryLemmas.{one_row, no_rows}
use Rattle.sqlite_rows.proofs.StayLemmas.{stays, refused_keeps}
use Rattle.sqlite_rows.proofs.TextLemmas.{due_is, due_plain, due_test, due_order, col_key, one_row as limit_one}

and_true : (b : Bool) → (b && true) ≡ b
and_true true = refl
and_true false = refl

pub put_ok : (key : List ℕ) (it : Fields) (old new : State) (r : Result ℕ Error) → IsKnown old
    → AreNumbered (old.now.trees 3) → Executes put_text (columns_with key it) old new r
    → OnOk r (Puts (old.now.trees 3) (new.now.trees 3) key it × WritesItems old new
    × AreNumbered (new.now.trees 3))
put_ok key it old new (Err e) known n h = tt
put_ok key it old new (Ok count) known n h =
    let u = upsert key it old new count known.0 h in
    let ids = have_ids (old.now.trees 3) n in (
      u.puts ids,
      record {
        schema = u.schema;
        others = u.others ids;
        was_open = u.was_open;
        mode = u.mode
            ∙ known.1;
      },
      put_numbered (old.now.trees 3) (new.now.trees 3) key it n (u.puts ids),
    )

pub cut_ok : (key : List ℕ) (old new : State) (r : Result ℕ Error) → IsKnown old
    → AreNumbered (old.now.trees 3) → Executes cut_text (Blob key ∷ []) old new r
    → OnOk r (Cuts (old.now.trees 3) (new.now.trees 3) key × WritesItems old new)
cut_ok key old new (Err e) known n h = tt
cut_ok key old new (Ok count) known n h =
    let d = cut key old new count known.0 h in (
      d.cuts n,
      record {
        schema = d.schema;
        others = keeps_other_tables old.now.trees new.now.trees
            d.others;
        was_open = d.was_open;
        mode = d.mode ∙ known.1;
      },
    )

pub err_stays : (text : List ℕ) (params : Row) (old new : State) (r : Result ℕ Error) → IsKnown old
    → (IsTrue old.is_open → old.now ≡ old.committed) → IsTrue new.is_open
    → Executes text params old new r → OnErr r (KeepsDatabase old new)
err_stays text params old new (Ok count) known settled opened h = tt
err_stays text params old new (Err e) known settled opened h = stays old new known.1 settled
    (refused_keeps text params old new e h) opened

pub due_ok : (t : ℤ) (old new : State) (r : Result Row Error) → IsKnown old
    → QueriesRow due_text (Int t ∷ []) old new r → IfOk r (ShowsFirstDue (old.now.trees 3) t)
due_ok t old new (Err e) known h = tt
due_ok t old new (Ok row) known h =
    let f = one_row due_text (Int t ∷ []) old new known.0 due_plain 3 (due_test ∷ [])
    (col_key ∷ []) due_order limit_one _ due_is.0 due_is.1 (old.now.trees 3) refl
    (λ xs. inr refl) row h in
    record {
      row = f.row;
      had = f.had;
      due = sym (and_true (is_due t f.row)) ∙ f.passed;
      shows = f.shows;
      first = λ x had hit. f.first x had (and_true (is_due t x) ∙ hit);
    }

pub due_none : (t : ℤ) (old new : State) (r : Result Row Error) → IsKnown old
    → QueriesRow due_text (Int t ∷ []) old new r → r ≡ Err QueryReturnedNoRows
    → LacksDue (old.now.trees 3) t
due_none t old new r known h e x had =
    sym (and_true (is_due t x)) ∙ no_rows due_text (Int t ∷ []) old new known.0 due_plain 3
    (due_test ∷ []) (col_key ∷ []) due_order limit_one _ due_is.0 due_is.1
    (old.now.trees 3) refl (λ xs. inr refl) (rw e at h) x had
