-- What a statement leaves that was refused, or that only reads.
use Rattle.std.proofs.Common.{◌≡◌, ◌⊎◌, inl, inr, ℕ, List, [], None, Some, false, Option, Ok, Err, Result, sym, ◌∙◌}
use Rattle.std.specs.Prelude.{IfErr, IfOk, IsTrue}
use Rattle.std.proofs.lemmas.Bool.{cases_Bool}
use Rattle.sqlite_value.specs.Order.{Row}
use Rattle.sqlite.specs.declared.error.Error.{Error}
use Rattle.sqlite_schema.specs.declared.command.Command.{Command}
use Rattle.sqlite_schema.specs.declared.command.Command.TheVariants.{Select, Insert, InsertOr, Update, Delete, CreateTable, CreateIndex, DropTable, DropIndex, Begin, Commit, Rollback, Savepoint, Release, RollbackTo, Nothing, CreateView, DropView, Rows}
use Rattle.sqlite_schema.specs.declared.command.Returning.{Returning}
use Rattle.sqlite.specs.State.{State, Executes, ExecutesIn, FailsToQuery, FailsToShow, IsNotRun, IsUnchanged, IsRolledBack, QueriesRow, Runs, Shown, ShowsRows, shows_rows}
use Rattle.sqlite_resolve.specs.declared.compiled.Compiled.{Compiled}
use Rattle.sqlite_rows.specs.Calls.{KeepsDatabase}

-- outside a transaction, a roll back leaves what was there
pub stays : (old new : State) → old.in_transaction ≡ false
    → (IsTrue old.is_open → old.now ≡ old.committed) → IsUnchanged old new ⊎ IsRolledBack old new
    → IsTrue new.is_open → KeepsDatabase old new
stays old new auto settled (inl u) opened = record {
  now = u.0.now_is;
  was_open = u.0.was_open;
  mode = u.0.mode ∙ auto;
}
stays old new auto settled (inr b) opened = record {
  now = (b.undone opened).0
      ∙ sym (settled (b.was_open opened));
  was_open = b.was_open opened;
  mode = b.autocommit;
}

-- a write that was refused changed nothing, or the store failed and what was not committed is undone
pub refused_keeps : (text : List ℕ) (params : Row) (old new : State) (e : Error)
    → Executes text params old new (Err e) → IsUnchanged old new ⊎ IsRolledBack old new
unfolding ExecutesIn IsNotRun
refused_keeps text params old new e (inl (inl h)) = inl h.1
refused_keeps text params old new e (inl (inr h)) = inr h.3
refused_keeps text params old new e (inr h) = elim (cases_Bool (shows_rows false h.0)) [
  | inl shows ↦ inl (rw shows at h.2).1
  | inr runs ↦ elim (rw runs at h.2) [ inl not ↦ inl not.1 | inr fails ↦ inr fails.3 ]
]

-- what a statement leaves open was open
opened_by : (old new : State) (returning : Option Returning) (command : Command) (text : List ℕ)
    (params : Row) (count : ℕ) → Runs old new returning command text params count
    → IsTrue new.is_open → IsTrue old.is_open
opened_by old new returning (Select q names) text params count h o = absurd h
opened_by old new returning (Insert at from) text params count h o = h.shown.was_open
opened_by old new returning (InsertOr at how from clauses) text params count h o = h.shown.was_open
opened_by old new returning (Update at q) text params count h o = h.shown.was_open
opened_by old new returning (Delete at q) text params count h o = h.shown.was_open
opened_by old new returning CreateTable text params count h o = h.shown.was_open
opened_by old new returning (CreateIndex at) text params count h o = h.shown.was_open
opened_by old new returning (DropTable at) text params count h o = h.shown.was_open
opened_by old new returning (DropIndex at) text params count h o = h.shown.was_open
opened_by old new returning Begin text params count h o = h.1.was_open
opened_by old new returning Commit text params count h o = h.1.was_open
opened_by old new returning Rollback text params count h o = h.1.was_open o
opened_by old new returning (Savepoint name) text params count h o = h.0.0.was_open
opened_by old new returning (Release name) text params count h o = elim
    (h.2) [ inl commits ↦ commits.1.0.was_open | inr drops ↦ drops.1.0.was_open ]
opened_by old new returning (RollbackTo name) text params count h o = h.2.2.was_open
opened_by old new returning (Rows values width names) text params count h o = h.0.0.was_open
opened_by old new returning Nothing text params count h o = h.0.0.was_open
opened_by old new returning CreateView text params count h o = h.shown.was_open
opened_by old new returning (DropView at) text params count h o = h.shown.was_open

pub opened : (text : List ℕ) (params : Row) (old new : State) (r : Result ℕ Error)
    → Executes text params old new r → IsTrue new.is_open → IsTrue old.is_open
unfolding ExecutesIn
opened text params old new (Err e) h o = elim (refused_keeps text params old new e h)
    [ inl u ↦ u.0.was_open | inr b ↦ b.was_open o ]
opened text params old new (Ok count) h o = elim (cases_Bool (shows_rows false h.0)) [
  | inl shows ↦ (rw shows at h.2).1.0.was_open
  | inr runs ↦ opened_by old new h.0.returning h.0.command _ _ count (rw runs at h.2) o
]

shows_opened : (old new : State) (sql : List ℕ) (c : Compiled) (params : Row) (rows : List Row)
    (o : Option Returning) → ShowsRows old new sql c params rows o → IsTrue old.is_open
shows_opened old new sql c params rows None h = h.3.0.was_open
shows_opened old new sql c params rows (Some what) h = h.1.shown.was_open

fails_opened : (old new : State) (sql : List ℕ) (c : Compiled) (params : Row) (e : Error)
    (o : Option Returning) → FailsToShow old new sql c params e o → IsTrue new.is_open
    → IsTrue old.is_open
fails_opened old new sql c params e None h o = h.3.0.was_open
fails_opened old new sql c params e (Some what) h o =
    elim h [ inl not ↦ not.1.0.was_open | inr fails ↦ fails.3.was_open o ]

pub query_opened : (text : List ℕ) (params : Row) (old new : State) (r : Result Row Error)
    → QueriesRow text params old new r → IsTrue new.is_open → IsTrue old.is_open
unfolding QueriesRow FailsToQuery IsNotRun Shown
query_opened text params old new (Ok row) (inl h) o = h.1.0.was_open
query_opened text params old new (Ok row) (inr h) o = shows_opened old new text h.1.0 _ h.0
    h.1.0.returning h.1.2
query_opened text params old new (Err e) (inr h) o = shows_opened old new text h.1.0 _ []
    h.1.0.returning h.1.2
query_opened text params old new (Err e) (inl (inl (inl h))) o = h.1.0.was_open
query_opened text params old new (Err e) (inl (inl (inr h))) o = h.3.was_open o
query_opened text params old new (Err e) (inl (inr h)) o = fails_opened old new text h.0 _ e
    h.0.returning h.2 o

shown_opened : (text : List ℕ) (params : Row) (old new : State) (rows : List Row)
    → Shown text params old new rows → IsTrue old.is_open
unfolding Shown
shown_opened text params old new rows h =
    shows_opened old new text h.0 _ rows h.0.returning h.2

pub all_opened : {V : Type 0} (items : V → List Row) (text : List ℕ) (params : Row)
    (old new : State) (r : Result V Error) → IfOk r (λ v. Shown text params old new (items v))
    → IfErr r (FailsToQuery text params old new) → IsTrue new.is_open → IsTrue old.is_open
unfolding QueriesRow
all_opened items text params old new (Ok v) shows fails o =
    shown_opened text params old new (items v) shows
all_opened items text params old new (Err e) shows fails o =
    query_opened text params old new (Err e) (inl fails) o
