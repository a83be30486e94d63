-- What an insertion does that passes over a taken key.
use Rattle.std.proofs.Common.{◌≡◌, inl, inr, ℕ, ℤ, List, [], ◌∷◌, Bool, true, false, None, Some, Option, Ok, Err, Result, OnOk, refl, sym, ap, subst, ◌∙◌}
use Rattle.std.specs.Prelude.{IsTrue}
use Rattle.std.proofs.lemmas.Bool.{cases_Bool}
use Rattle.sqlite_value.specs.declared.keys.Collation.TheVariants.{Binary}
use Rattle.sqlite_value.specs.declared.value.Value.TheVariants.{Blob}
use Rattle.sqlite_value.specs.Keys.{first_key}
use Rattle.sqlite_value.specs.Order.{Row, column}
use Rattle.sqlite_trees.specs.Tree.{Trees}
use Rattle.sqlite_schema.specs.declared.command.Command.{Command}
use Rattle.sqlite_schema.specs.declared.command.Command.TheVariants.{InsertOr}
use Rattle.sqlite_schema.specs.declared.command.Conflict.TheVariants.{Abort}
use Rattle.sqlite_schema.specs.declared.command.Source.TheVariants.{Values}
use Rattle.sqlite_schema.specs.Rules.{equal}
use Rattle.sqlite_rules.specs.declared.error.Refusal.{Refusal}
use Rattle.sqlite_rules.specs.Keys.{AreConflicts, conflicts}
use Rattle.sqlite.specs.declared.error.Error.{Error}
use Rattle.sqlite.specs.Does.{Tally, Does}
use Rattle.sqlite.specs.Effect.{Database}
use Rattle.sqlite.specs.Listing.{understood}
use Rattle.sqlite.specs.Rows.{Judged, Meets, Task, Tries, TriesEach, Upserts, Written, count_of, nothing}
use Rattle.sqlite.specs.State.{State, mode_of, Executes}
use Rattle.sqlite.proofs.Callers.{runs_as, statement_of}
use Rattle.sqlite_rows.specs.Calls.{IsKnown, WritesItems}
use Rattle.sqlite_rows.specs.Gets.{key_is, LacksKey}
use Rattle.sqlite_rows.specs.Moves.{Moves}
use Rattle.sqlite_rows.specs.Numbers.{AreNumbered}
use Rattle.sqlite_rows.specs.Others.{LeavesOthers}
use Rattle.sqlite_rows.specs.Puts.{Fields, columns_with}
use Rattle.sqlite_rows.specs.Tables.{indexes, items2, known}
use Rattle.sqlite_rows.specs.Texts.{move_text}
use Rattle.sqlite_rows.proofs.GetLemmas.{equal-key}
use Rattle.sqlite_rows.proofs.NumberLemmas.{put_numbered}
use Rattle.sqlite_rows.proofs.OthersLemmas.{keeps_other_tables}
use Rattle.sqlite_rows.proofs.PutLemmas.{adds, cleared, new_is, new_row, same_value, task_of, went}
use Rattle.sqlite_rows.proofs.TextLemmas.{move_is, move_plain, nothing_clause, put_terms}

abbrev move_command : Command
move_command = InsertOr 1 Abort (Values put_terms 10) (nothing_clause ∷ [])

record Ran (old new : State) (key : List ℕ) (it : Fields) : Type 0 where
  pub one : Written
  pub tried : Tries (task_of old (columns_with key it)) Abort (nothing_clause ∷ [])
      (new_row (old.now.trees 3) key it) old.now.trees (Ok one)
  pub trees : new.now.trees ≡ one.trees
  pub schema : new.now.schema ≡ known
  pub was_open : IsTrue old.is_open
  pub mode : new.in_transaction ≡ old.in_transaction

ran : (key : List ℕ) (it : Fields) (old new : State) (count : ℕ) → old.now.schema ≡ known
    → Executes move_text (columns_with key it) old new (Ok count) → Ran old new key it
ran key it old new count has h =
    let params = columns_with key it in
    let db = old.now.trees in
    let w = runs_as move_text params old new known has move_command move_is move_plain count h in
    let text = statement_of move_text (understood known move_text) in
    let done = went (subst
    (λ s. Does old.step_limit (mode_of old) params (record old.now { schema = s }) text None
    move_command (Ok (w.tally, new.now))) has w.changed) in
    let now = ap (λ (p : Tally × Database). p.1) (same_value (went (went done.2).2).2) in
    let given = went done.1 in
    let counter = went given.2 in
    let tried = went counter.2 in
    let counted = went tried.2 in
    let each = subst (λ rows. TriesEach (task_of old params) Abort (nothing_clause ∷ []) rows
    (count_of counter.0) (nothing db) (Ok tried.0)) given.1.1 tried.1 in
    let one = went each in
    record {
      one = one.0;
      tried = subst (λ r. Tries (task_of old params) Abort (nothing_clause ∷ []) r db (Ok one.0))
          (new_is (db 3) key it) one.1;
      trees = ap (λ (d : Database). d.trees) now
          ∙ ap (λ (w : Written). w.trees) (same_value counted.2) ∙ same_value counted.1
          ∙ ap (λ (p : Written × ℤ). p.0.trees) (same_value one.2);
      schema = ap (λ (d : Database). d.schema) now;
      was_open = w.shown.was_open;
      mode = w.shown.mode;
    }

-- ---- who has the key

conflict_when : (rows : List Row) (key : List ℕ) (it : Fields) (r : Row) (k : Bool)
    → equal Binary (column r 1) (Blob key) ≡ k
    → conflicts (Some (1 ∷ [])) indexes items2 (new_row rows key it) r ≡ k
unfolding first_key
conflict_when rows key it r true q = rw q refl
conflict_when rows key it r false q = rw q refl

module _ (rows : List Row) (key : List ℕ) (it : Fields) where
  conflict_is : (r : Row)
      → conflicts (Some (1 ∷ [])) indexes items2 (new_row rows key it) r ≡ key_is key (column r 1)
  conflict_is r = conflict_when rows key it r (key_is key (column r 1))
      (equal-key key (column r 1))

  lacked : AreConflicts (Some (1 ∷ [])) indexes items2 rows (new_row rows key it) [] → LacksKey rows key
  lacked free r had = elim (cases_Bool (key_is key (column r 1))) [
    | inl hit ↦ absurd (free.complete r had (conflict_is r ∙ hit))
    | inr miss ↦ miss
  ]

moved : (old : State) (key : List ℕ) (it : Fields) (db : Trees) (found : List Row) (one : Written)
    → AreNumbered (db 3) → AreConflicts (Some (1 ∷ [])) indexes items2 (db 3) (new_row (db 3) key it) found
    → Meets (task_of old (columns_with key it))
    (Upserts (task_of old (columns_with key it)) Abort (new_row (db 3) key it) db [])
    (new_row (db 3) key it) db nothing_clause found (Ok one)
    → Moves (db 3) (one.trees 3) key it × LeavesOthers 3 db one.trees
moved old key it db [] one n free h =
    let t = task_of old (columns_with key it) in
    let all = adds old (columns_with key it) key it db one
    (cleared t (new_row (db 3) key it) db h.0 one h.2) in
    (inl (record { lacked = lacked (db 3) key it free; free = all.1; added = all.0 }), all.2)
moved old key it db (there ∷ more) one n hit h =
    let r = hit.sound there (inl refl) in
    let same : one ≡ nothing db = same_value h in (
      inr (
        ap (λ (w : Written). w.trees 3) same,
        r.0,
        r.1,
        sym (conflict_is (db 3) key it r.0)
            ∙ r.2,
      ),
      λ t far none. ap (λ (w : Written). w.trees t) same,
    )

judged : (t : Task) (new : Row) (db : Trees) (verdict : Option Refusal) (one : Written)
    → Judged t Abort (nothing_clause ∷ []) new db verdict (Ok one)
    → Upserts t Abort new db (nothing_clause ∷ []) (Ok one)
judged t new db None one h = h
judged t new db (Some why) one h = absurd (let e = h in cc)

tries : (old : State) (key : List ℕ) (it : Fields) (db : Trees) (one : Written) → AreNumbered (db 3)
    → Tries (task_of old (columns_with key it)) Abort (nothing_clause ∷ []) (new_row (db 3) key it)
    db (Ok one)
    → Moves (db 3) (one.trees 3) key it × LeavesOthers 3 db one.trees
tries old key it db one n (inl refused) = absurd (let e = refused.1 in cc)
tries old key it db one n (inr h) =
    let u = judged (task_of old (columns_with key it)) (new_row (db 3) key it) db h.0 one h.2 in
    moved old key it db u.0 one n u.1 u.2

moves_numbered : (old new : List Row) (key : List ℕ) (it : Fields) → AreNumbered old
    → Moves old new key it → AreNumbered new
moves_numbered old new key it n (inl a) = put_numbered old new key it n (inl a)
moves_numbered old new key it n (inr s) = subst AreNumbered (sym s.0) n

pub move_ok : (key : List ℕ) (it : Fields) (old new : State) (r : Result ℕ Error) → IsKnown old
    → AreNumbered (old.now.trees 3) → Executes move_text (columns_with key it) old new r
    → OnOk r (Moves (old.now.trees 3) (new.now.trees 3) key it × WritesItems old new
    × AreNumbered (new.now.trees 3))
move_ok key it old new (Err e) fits n h = tt
move_ok key it old new (Ok count) fits n h =
    let it2 = ran key it old new count fits.0 h in
    let both = tries old key it old.now.trees it2.one n it2.tried in
    let rows : new.now.trees 3 ≡ it2.one.trees 3 = ap (λ (t : Trees). t 3) it2.trees in
    let moves = subst (λ xs. Moves (old.now.trees 3) xs key it) (sym rows) both.0 in (
      moves,
      record {
        schema = it2.schema;
        others = keeps_other_tables old.now.trees new.now.trees
            (λ t far none. ap (λ (x : Trees). x t) it2.trees ∙ both.1 t far none);
        was_open = it2.was_open;
        mode = it2.mode ∙ fits.1;
      },
      moves_numbered (old.now.trees 3) (new.now.trees 3) key it n moves,
    )
