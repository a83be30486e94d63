-- What the statements do that make the tables, where these are there.
use Rattle.std.proofs.Common.{◌≡◌, ◌⊎◌, inl, inr, ℕ, ℤ, pos, List, [], ◌∷◌, Bool, true, false, None, Some, Option, Ok, Err, Result, OnOk, refl, sym, ap, subst, ◌∙◌, true≢false}
use Rattle.std.specs.Prelude.{IfOk, IsOk, IsTrue}
use Rattle.std.proofs.lemmas.Cmp.{tied_itself}
use Rattle.sqlite_value.specs.declared.value.Value.TheVariants.{Null, Int}
use Rattle.sqlite_value.specs.Keys.{first_key}
use Rattle.sqlite_value.specs.Order.{Row, column}
use Rattle.sqlite_value.proofs.OrderLemmas.{value_cmp_total}
use Rattle.sqlite_trees.specs.Tree.{Trees}
use Rattle.sqlite_trees.specs.View.{doubt}
use Rattle.sqlite_sql.specs.Ops.{binary}
use Rattle.sqlite_schema.specs.declared.command.Command.TheVariants.{Nothing}
use Rattle.sqlite_schema.specs.declared.command.Conflict.TheVariants.{Abort}
use Rattle.sqlite_rules.specs.Cast.{cast_row}
use Rattle.sqlite_rules.specs.Edit.{with_rowid}
use Rattle.sqlite_rules.specs.declared.error.Rowids.TheVariants.{Chosen}
use Rattle.sqlite_rules.specs.declared.error.Refusal.{Refusal}
use Rattle.sqlite_rules.specs.Keys.{AreConflicts, conflicts}
use Rattle.sqlite_rules.specs.Lists.{Has}
use Rattle.sqlite.specs.declared.error.Error.{Error}
use Rattle.sqlite.specs.Does.{Tally, Does}
use Rattle.sqlite.specs.Effect.{Database}
use Rattle.sqlite.specs.Listing.{understood}
use Rattle.sqlite.specs.Rows.{Judged, Meets, Task, Tries, TriesEach, Upserts, Written, count_of, nothing}
use Rattle.sqlite.specs.State.{State, mode_of, Executes, HasCleanDisk, IsUnchanged}
use Rattle.sqlite.proofs.Callers.{runs_as, statement_of}
use Rattle.sqlite_rows.specs.Calls.{IsKnown, KeepsDatabase, KeepsKnown}
use Rattle.sqlite_rows.specs.Cookies.{IsLast}
use Rattle.sqlite_rows.specs.Tables.{cookies, indexes, known}
use Rattle.sqlite_rows.specs.Texts.{begin_cookies_text}
use Rattle.sqlite_rows.proofs.PutLemmas.{cast_int, cast_null, same_value, went}
use Rattle.sqlite_rows.proofs.StayLemmas.{opened}
use Rattle.sqlite_rows.proofs.TextLemmas.{DoesNothing, begin_clause, begin_command, begin_is, begin_plain}

pub unchanged_keeps : (old new : State) → IsKnown old → IsUnchanged old new → KeepsDatabase old new
unchanged_keeps old new fits u = record {
  now = u.0.now_is;
  was_open = u.0.was_open;
  mode = u.0.mode ∙ fits.1;
}

pub nothing_ok : (text : List ℕ) (old new : State) (r : Result ℕ Error) → DoesNothing text
    → IsKnown old → Executes text [] old new r → OnOk r (KeepsDatabase old new)
nothing_ok text old new (Err e) is fits h = tt
nothing_ok text old new (Ok count) is fits h =
    let w = runs_as text [] old new known fits.0 Nothing is.0 is.1 count h in
    unchanged_keeps old new fits w.0

-- what is said where the disk was clean is said where the connection is open
abbrev ShutIfDirty : State → Type 0
ShutIfDirty s = s.is_clean ≡ false → s.is_open ≡ false

clean_of : (clean is_open : Bool) → (clean ≡ false → is_open ≡ false) → is_open ≡ true
    → doubt clean ≡ 0
unfolding doubt
clean_of true is_open law is = refl
clean_of false is_open law is = absurd (true≢false (sym is ∙ law refl))

open_clean : (s : State) → ShutIfDirty s → IsTrue s.is_open → HasCleanDisk s
open_clean s law is = clean_of s.is_clean s.is_open law is

pub made : (text : List ℕ) (old new : State) (r : Result ℕ Error) → DoesNothing text
    → ShutIfDirty new → (HasCleanDisk new → Executes text [] old new r) → OnOk r (KeepsKnown old new)
made text old new (Err e) is law runs = tt
made text old new (Ok count) is law runs = record {
  was_open = λ o. opened text [] old new (Ok count) (runs (open_clean new law o)) o;
  same = λ fits o. nothing_ok text old new (Ok count) is fits (runs (open_clean new law o));
}

understood_keeps : (old new : State) → ShutIfDirty new
    → (HasCleanDisk new → IsUnchanged old new) → KeepsKnown old new
understood_keeps old new law same = record {
  was_open = λ o. (same (open_clean new law o)).0.was_open;
  same = λ fits o. unchanged_keeps old new fits (same (open_clean new law o));
}

pub understood_ok : {T : Type 0} (P : T → Type 0) (old new : State) (s : Result T Error)
    (r : Result (Unit {0}) Error) → ShutIfDirty new
    → (HasCleanDisk new → IfOk s (λ x. P x × IsUnchanged old new)) → OnOk r (IsOk s)
    → OnOk r (KeepsKnown old new)
understood_ok P old new s (Err e) law same ok = tt
understood_ok P old new (Err e) (Ok x) law same ok = absurd (true≢false (sym ok))
understood_ok P old new (Ok s) (Ok x) law same ok =
    understood_keeps old new law (λ clean. (same clean).1)

-- ---- the row of the last cookie

abbrev task_of : State → Task
task_of old = record {
  limit = old.step_limit;
  keys = (mode_of old).keys;
  schema = known;
  table = cookies;
  params = [];
}

abbrev begin_row : Row
begin_row = Int (pos 1) ∷ Null ∷ Int (pos 0) ∷ []

record Ran (old new : State) : Type 0 where
  pub one : Written
  pub tried : Tries (task_of old) Abort (begin_clause ∷ []) begin_row old.now.trees (Ok one)
  pub trees : new.now.trees ≡ one.trees
  pub schema : new.now.schema ≡ known
  pub was_open : IsTrue old.is_open
  pub mode : new.in_transaction ≡ old.in_transaction

new_is : (rows : List Row) → with_rowid Chosen rows (cast_row cookies begin_row) ≡ begin_row
new_is rows = rw (cast_int (pos 1), cast_null, cast_int (pos 0))

ran : (old new : State) (count : ℕ) → old.now.schema ≡ known
    → Executes begin_cookies_text [] old new (Ok count) → Ran old new
ran old new count has h =
    let db = old.now.trees in
    let w = runs_as begin_cookies_text [] old new known has begin_command begin_is begin_plain count
    h in
    let text = statement_of begin_cookies_text (understood known begin_cookies_text) in
    let done = went (subst
    (λ s. Does old.step_limit (mode_of old) [] (record old.now { schema = s }) text None
    begin_command (Ok (w.tally, new.now))) has w.changed) in
    let now = ap (λ (p : Tally × Database). p.1) (same_value (went (went done.2).2).2) in
    let given = went done.1 in
    let counter = went given.2 in
    let tried = went counter.2 in
    let counted = went tried.2 in
    let each = subst (λ rows. TriesEach (task_of old) Abort (begin_clause ∷ []) rows
    (count_of counter.0) (nothing db) (Ok tried.0)) given.1.1 tried.1 in
    let one = went each in
    record {
      one = one.0;
      tried = subst (λ r. Tries (task_of old) Abort (begin_clause ∷ []) r db (Ok one.0))
          (new_is (db 6)) one.1;
      trees = ap (λ (d : Database). d.trees) now
          ∙ ap (λ (w : Written). w.trees) (same_value counted.2) ∙ same_value counted.1
          ∙ ap (λ (p : Written × ℤ). p.0.trees) (same_value one.2);
      schema = ap (λ (d : Database). d.schema) now;
      was_open = w.shown.was_open;
      mode = w.shown.mode;
    }

conflict_one : (row : Row) → column row 0 ≡ Int (pos 1)
    → conflicts (Some (0 ∷ [])) indexes cookies begin_row row ≡ true
unfolding binary first_key
conflict_one row is = rw (is, tied_itself value_cmp_total (Int (pos 1))) refl

met : (old : State) (last : ℤ) (db : Trees) (found : List Row) (one : Written) → IsLast (db 6) last
    → AreConflicts (Some (0 ∷ [])) indexes cookies (db 6) begin_row found
    → Meets (task_of old) (Upserts (task_of old) Abort begin_row db []) begin_row db begin_clause
    found (Ok one) → one.trees ≡ db
met old last db [] one is free h = absurd (free.complete is.row
    (subst (λ xs. Has xs is.row) (sym is.only) (inl refl)) (conflict_one is.row is.id))
met old last db (there ∷ more) one is hit h = ap (λ (w : Written). w.trees) (same_value h)

judged : (t : Task) (db : Trees) (verdict : Option Refusal) (one : Written)
    → Judged t Abort (begin_clause ∷ []) begin_row db verdict (Ok one)
    → Upserts t Abort begin_row db (begin_clause ∷ []) (Ok one)
judged t db None one h = h
judged t db (Some why) one h = absurd (let e = h in cc)

tries : (old : State) (last : ℤ) (db : Trees) (one : Written) → IsLast (db 6) last
    → Tries (task_of old) Abort (begin_clause ∷ []) begin_row db (Ok one) → one.trees ≡ db
tries old last db one is (inl refused) = absurd (let e = refused.1 in cc)
tries old last db one is (inr h) =
    let u = judged (task_of old) db h.0 one h.2 in
    met old last db u.0 one is u.1 u.2

same_database : (a b : Database) → a.schema ≡ b.schema → a.trees ≡ b.trees → a ≡ b
same_database a b s t =
    let one : a ≡ record { schema = b.schema; trees = a.trees } =
    ap (λ x. record { schema = x; trees = a.trees }) s in
    one ∙ ap (λ (x : Trees). record { schema = b.schema; trees = x }) t

pub begin_ok : (last : ℤ) (old new : State) (r : Result ℕ Error) → IsKnown old
    → IsLast (old.now.trees 6) last → Executes begin_cookies_text [] old new r
    → OnOk r (KeepsDatabase old new)
begin_ok last old new (Err e) fits is h = tt
begin_ok last old new (Ok count) fits is h =
    let it = ran old new count fits.0 h in
    record {
      now = same_database new.now old.now (it.schema ∙ sym fits.0)
          (it.trees ∙ tries old last old.now.trees it.one is it.tried);
      was_open = it.was_open;
      mode = it.mode ∙ fits.1;
    }
