-- What a selection with one row shows, and that it changes nothing.
use Rattle.std.proofs.Common.{◌≡◌, ◌⊎◌, inl, inr, ℕ, List, [], true, false, Option, Ok, Err, Result, sym, ap, subst, ◌∙◌}
use Rattle.std.specs.Prelude.{IfErr, IfOk}
use Rattle.sqlite_trees.specs.declared.error.StoreError.{StoreError}
use Rattle.sqlite_trees.specs.declared.error.StoreError.TheVariants.{OutOfMemory, Io, Corrupt, Full, Broken, Unstorable}
use Rattle.sqlite_value.specs.declared.keys.Key.{Key}
use Rattle.sqlite_value.specs.declared.value.Value.TheVariants.{Null}
use Rattle.sqlite_value.specs.Order.{Row}
use Rattle.sqlite_sql.specs.Program.{overlay}
use Rattle.sqlite_sql.specs.Term.{Term, eval_all}
use Rattle.sqlite_sql.specs.Query.{page}
use Rattle.sqlite_rules.specs.Lists.{Has}
use Rattle.sqlite.specs.declared.error.Error.{Error}
use Rattle.sqlite.specs.declared.error.Error.TheVariants.{QueryReturnedNoRows}
use Rattle.sqlite.specs.Clock.{timed}
use Rattle.sqlite.specs.Command.{Command}
use Rattle.sqlite.specs.Command.TheVariants.{Select, Rows}
use Rattle.sqlite.specs.Effect.{Database, RefusesToRead}
use Rattle.sqlite.specs.Given.{IsPlain}
use Rattle.sqlite.specs.Listing.{understood, reads_listing}
use Rattle.sqlite.specs.State.{State, QueriesRow, Shown, ShowsRows, IsNotRun, IsUnchanged, IsRolledBack, FailsToQuery, FailsToShow, store_error}
use Rattle.sqlite.proofs.Callers.{command_of, first_as, reads_as}
use Rattle.sqlite_rows.specs.Selects.{select}
use Rattle.sqlite_rows.specs.Tables.{known}
use Rattle.sqlite_rows.proofs.SelectLemmas.{all_rows, env, passes, IsFirstRow, PagesOne, first_row, no_row}
use Rattle.sqlite_rows.proofs.TextLemmas.{alone}

named : (cause : StoreError) → QueryReturnedNoRows ≡ store_error cause → ⊥
named OutOfMemory e = cc
named Io e = cc
named Corrupt e = cc
named Full e = cc
named Broken e = cc
named Unstorable e = cc

never_unrun : (old new : State) (sql : List ℕ) (params : Row)
    → IsNotRun old new sql params QueryReturnedNoRows → ⊥
unfolding IsNotRun
never_unrun old new sql params (inr f) = named f.0 f.1
never_unrun old new sql params (inl not) = elim (not.0) [
  | inl bad ↦ (let e = bad.2 in cc)
  | inr other ↦ elim (other.2) [
    | inl many ↦ (let e = many.1 in cc)
    | inr few ↦ elim few [
      | inl count ↦ (let e = count.1 in cc)
      | inr late ↦ (let e = late.1 in cc)
    ]
  ]
]

never_refused : (limit : Option ℕ) (command : Command) (db : Database) (params : Row)
    → RefusesToRead limit command db params QueryReturnedNoRows → ⊥
never_refused limit (Select q names) db params (inl h) = let e = h.0 in cc
never_refused limit (Select q names) db params (inr (inl h)) = let e = h.0 in cc
never_refused limit (Select q names) db params (inr (inr h)) = let e = h.0 in cc
never_refused limit (Rows values width names) db params h = let e = h.0 in cc
never_refused limit _ db params h = cc

module _ (text : List ℕ) (params : Row) (old new : State) (has : old.now.schema ≡ known)
    (plain : IsPlain (understood known text)) where
  missing : QueriesRow text params old new (Err QueryReturnedNoRows) → Shown text params old new []
  unfolding QueriesRow FailsToQuery
  missing (inr h) = h.1
  missing (inl (inl h)) = absurd (never_unrun old new text params h)
  missing (inl (inr h)) =
      let c = h.0 in
      let it = h.1 in
      let bare : IsPlain (Ok c) = subst IsPlain (sym (ap (λ s. understood s text) has) ∙ it.is)
      plain in
      let failed = subst (FailsToShow old new text c (timed params c.formats it.now)
      QueryReturnedNoRows) bare.0 h.2 in
      absurd (never_refused old.step_limit c.command failed.0 (timed params c.formats it.now)
      failed.2)

  pub showing_keeps : (rows : List Row) → Shown text params old new rows → IsUnchanged old new
  unfolding Shown
  showing_keeps rows h =
      let bare : IsPlain (Ok h.0) = subst IsPlain (sym (ap (λ s. understood s text) has) ∙ h.1.is)
      plain in
      let it = subst (ShowsRows old new text h.0 (timed params h.0.formats h.1.now) rows) bare.0 h.2
      in it.3

  -- a query that was refused changed nothing, or the store failed and what was not committed is undone
  pub failing_keeps : (e : Error) → QueriesRow text params old new (Err e) → IsUnchanged old new
      ⊎ IsRolledBack old new
  unfolding QueriesRow FailsToQuery IsNotRun
  failing_keeps e (inr h) = inl (showing_keeps [] h.1)
  failing_keeps e (inl (inl (inl h))) = inl h.1
  failing_keeps e (inl (inl (inr h))) = inr h.3
  failing_keeps e (inl (inr h)) =
      let c = h.0 in
      let it = h.1 in
      let bare : IsPlain (Ok c) = subst IsPlain (sym (ap (λ s. understood s text) has) ∙ it.is)
      plain in
      let failed = subst (FailsToShow old new text c (timed params c.formats it.now) e) bare.0 h.2
      in inl failed.3

  pub row_keeps : (row : Row) → QueriesRow text params old new (Ok row) → IsUnchanged old new
  unfolding QueriesRow
  row_keeps row (inl h) = h.1
  row_keeps row (inr h) = showing_keeps h.0 h.1

  -- whatever all rows of an answer are
  pub all_keeps : {V : Type 0} (items : V → List Row) (r : Result V Error)
      → IfOk r (λ v. Shown text params old new (items v))
      → IfErr r (FailsToQuery text params old new) → IsUnchanged old new ⊎ IsRolledBack old new
  unfolding QueriesRow
  all_keeps items (Ok v) shows fails = inl (showing_keeps (items v) shows)
  all_keeps items (Err e) shows fails = failing_keeps e (inl fails)

  -- whatever it answers
  pub query_keeps : (r : Result Row Error) → QueriesRow text params old new r → IsUnchanged old new
      ⊎ IsRolledBack old new
  query_keeps (Ok row) h = inl (row_keeps row h)
  query_keeps (Err e) h = failing_keeps e h

  pub none_keeps : QueriesRow text params old new (Err QueryReturnedNoRows) → IsUnchanged old new
  none_keeps h = showing_keeps [] (missing h)

  module _ (tree : ℕ) (filter project : List Term) (order : List (Term × Key)) (limit : Term)
      (names : List (List ℕ))
      (is : command_of (understood known text) ≡ Select
      (alone (select tree filter project order limit)) names)
      (unlisted : reads_listing known text ≡ false)
      (rows : List Row) (are : overlay old.now.trees [] tree ≡ rows)
      (pages : PagesOne tree filter project order limit params) where
    pub one_row : (row : Row) → QueriesRow text params old new (Ok row)
        → IsFirstRow tree filter project order limit params rows row
    one_row row h =
        let got = (first_as text params old new known has _ is plain unlisted row h).1 in
        first_row tree filter project order limit params (overlay old.now.trees []) rows are pages
        row got.0 (got.1 Null)

    pub no_rows : QueriesRow text params old new (Err QueryReturnedNoRows) → (x : Row) → Has rows x
        → passes tree filter project order limit params x ≡ false
    no_rows h =
        let got = (reads_as text params old new known has _ is plain unlisted [] (missing h)).answer
        in
        no_row tree filter project order limit params (overlay old.now.trees []) rows are pages
        (got Null)

    pub each_row : ((xs : List Row) → page (select tree filter project order limit) params xs ≡ xs)
        → (out : List Row) → Shown text params old new out
        → ((shown : Row) → Has out shown → (r : Row) × Has rows r
        × (passes tree filter project order limit params r ≡ true)
        × (shown ≡ eval_all project (env tree filter project order limit params r)))
        × ((r : Row) → Has rows r → passes tree filter project order limit params r ≡ true
        → Has out (eval_all project (env tree filter project order limit params r)))
    each_row whole out h =
        let got = (reads_as text params old new known has _ is plain unlisted out h).answer in
        all_rows tree filter project order limit params (overlay old.now.trees []) rows are pages
        whole out (got Null)
