-- What the upsert writes.
use Rattle.std.proofs.Common.{◌≡◌, ◌⊎◌, inl, inr, ℕ, ℤ, List, [], ◌∷◌, ◌++◌, map, Bool, true, false, cond, Some, None, Ok, Err, Result, refl, sym, ap, subst, ◌∙◌, arith, Option}
use Rattle.sqlite_value.specs.declared.value.Value.{Value}
use Rattle.sqlite_value.specs.declared.value.Value.TheVariants.{Null, Int, Real, Text, Blob}
use Rattle.sqlite_value.specs.Order.{Row, column}
use Rattle.sqlite_sql.specs.Ops.{unary}
use Rattle.sqlite_schema.specs.declared.schema.Kind.TheVariants.{Integer}
use Rattle.sqlite_schema.specs.declared.command.Conflict.TheVariants.{Abort}
use Rattle.sqlite_rules.specs.Cast.{cast, cast_row}
use Rattle.sqlite_rules.specs.Edit.{next_rowid, edit_of, edited}
use Rattle.sqlite_rules.specs.declared.error.Rowids.TheVariants.{Chosen, Given}
use Rattle.sqlite_rules.specs.Keys.{AreConflicts}
use Rattle.sqlite_trees.specs.Tree.{Trees, put_row, without_rowid}
use Rattle.sqlite.specs.Effect.{Database}
use Rattle.sqlite.specs.Listing.{understood}
use Rattle.std.specs.Prelude.{filter, IsTrue}
use Rattle.std.specs.List.{flat_map, list_all}
use Rattle.std.specs.List.Sorted.{IsPermutation}
use Rattle.std.specs.Ordering.{is_eq}
use Rattle.std.proofs.Common.{true≢false}
use Rattle.std.proofs.lemmas.Bool.{cases_Bool}
use Rattle.sqlite_value.specs.Keys.{first_key}
use Rattle.sqlite_value.specs.Order.{value_cmp}
use Rattle.sqlite_value.specs.declared.keys.Collation.TheVariants.{Binary}
use Rattle.sqlite_value.proofs.OrderLemmas.{value_cmp-apart}
use Rattle.sqlite_trees.specs.Tree.{has_rowid}
use Rattle.sqlite_sql.specs.Ops.{binary}
use Rattle.sqlite_sql.specs.Term.{Env, holds}
use Rattle.sqlite_sql.specs.Query.{Output, output, page, IsAnswer}
use Rattle.sqlite_sql.specs.Program.{overlay}
use Rattle.sqlite_schema.specs.Rules.{equal}
use Rattle.sqlite_rules.specs.declared.error.Refusal.{Refusal}
use Rattle.sqlite_rules.specs.Edit.{with_rowid, Edit, id_in, is_taken, are_fresh, left_by}
use Rattle.std.proofs.Common.{drop}
use Rattle.std.proofs.lemmas.Bool.{and_parts, not-true}
use Rattle.sqlite_rules.specs.Keys.{conflicts}
use Rattle.sqlite_rules.specs.Calls.{ids_of}
use Rattle.sqlite.proofs.Callers.{one_permutation}
use Rattle.sqlite_rows.specs.Puts.{HaveIds}
use Rattle.sqlite_rows.proofs.KeyLemmas.{bytes_eq-same}
use Rattle.sqlite_rows.proofs.GetLemmas.{equal-key}
use Rattle.sqlite.specs.Rows.{Written, Task, Tries, TriesEach, Upserts, Judged, Meets, Resolves, Updates, Clears, Puts as PutsRow, count_of, nothing}
use Rattle.sqlite.specs.Does.{Tally, Does}
use Rattle.sqlite.specs.State.{State, mode_of, Executes}
use Rattle.sqlite.proofs.Callers.{runs_as, statement_of, one_step}
use Rattle.sqlite_rows.specs.Tables.{items2, indexes, known}
use Rattle.sqlite_rows.specs.Others.{LeavesOthers, KeepsOtherTables}
use Rattle.sqlite_rows.proofs.OthersLemmas.{keeps_other_tables}
use Rattle.sqlite_rows.specs.Texts.{put_text}
use Rattle.sqlite_rows.specs.Gets.{key_is, LacksKey}
use Rattle.sqlite_rows.specs.Puts.{Fields, columns_with, Puts}
use Rattle.sqlite_rows.proofs.TextLemmas.{put_query, put_clause, put_command, put_is, put_plain}

either : (b : Bool) (x : Value) → cond b x x ≡ x
either true x = refl
either false x = refl

pub cast_null : cast Integer Null ≡ Null
unfolding unary
cast_null = either _ Null

pub cast_int : (n : ℤ) → cast Integer (Int n) ≡ Int n
unfolding unary
cast_int n = either _ (Int n)

-- a part that gave a value did not stop on the way
pub went : {B E R : Type 0} {b : B} {Stops : E → Type 0}
    → ((stop : E) × Stops stop × (Ok b ≡ Err stop)) ⊎ R → R
went (inl stopped) = absurd (let e = stopped.2 in cc)
went (inr on) = on

pub same_value : {B E : Type 0} {a b : B} → ◌≡◌ {A = Result B E} (Ok a) (Ok b) → a ≡ b
same_value e = cc

abbrev pub task_of : State → Row → Task
task_of old params = record {
  limit = old.step_limit;
  keys = (mode_of old).keys;
  schema = known;
  table = items2;
  params = params;
}

-- the row that is to be written, where the rows are these
abbrev pub new_row : List Row → List ℕ → Fields → Row
new_row rows key it = Int (next_rowid rows) ∷ columns_with key it

pub record Ran (old new : State) (key : List ℕ) (it : Fields) : Type 0 where
  pub one : Written
  pub tried : Tries (task_of old (columns_with key it)) Abort (put_clause ∷ [])
      (new_row (old.now.trees 3) key it) old.now.trees (Ok one)
  pub trees : new.now.trees ≡ one.trees
  pub schema : new.now.schema ≡ known
  pub was_open : IsTrue old.is_open
  pub mode : new.in_transaction ≡ old.in_transaction

pub new_is : (rows : List Row) (key : List ℕ) (it : Fields)
    → with_rowid Chosen rows (cast_row items2 (Null ∷ columns_with key it)) ≡ new_row rows key it
new_is rows key it = rw (
  cast_null,
  cast_int it.minutes,
  cast_int it.fresh,
  cast_int it.cookie,
  cast_int it.since,
  cast_int it.touched,
  cast_int it.ends,
  cast_int it.expiry,
)

ran : (key : List ℕ) (it : Fields) (old new : State) (count : ℕ) → old.now.schema ≡ known
    → Executes put_text (columns_with key it) old new (Ok count) → Ran old new key it
ran key it old new count has h =
    let params = columns_with key it in
    let db = old.now.trees in
    let w = runs_as put_text params old new known has put_command put_is put_plain count h in
    let text = statement_of put_text (understood known put_text) in
    let done = went (subst
    (λ s. Does old.step_limit (mode_of old) params (record old.now { schema = s }) text None
    put_command (Ok (w.tally, new.now))) has w.changed) in
    let now = ap (λ (p : Tally × Database). p.1) (same_value (went (went done.2).2).2) in
    let given = went done.1 in
    let counter = went given.2 in
    let tried = went counter.2 in
    let counted = went tried.2 in
    let each = subst (λ rows. TriesEach (task_of old params) Abort (put_clause ∷ []) rows
    (count_of counter.0) (nothing db) (Ok tried.0)) given.1.1 tried.1 in
    let one = went each in
    record {
      one = one.0;
      tried = subst (λ r. Tries (task_of old params) Abort (put_clause ∷ []) r db (Ok one.0))
          (new_is (db 3) key it) one.1;
      trees = ap (λ (d : Database). d.trees) now
          ∙ ap (λ (w : Written). w.trees) (same_value counted.2) ∙ same_value counted.1
          ∙ ap (λ (p : Written × ℤ). p.0.trees) (same_value one.2);
      schema = ap (λ (d : Database). d.schema) now;
      was_open = w.shown.was_open;
      mode = w.shown.mode;
    }

-- ---- a row of a new key

conflict_when : (rows : List Row) (key : List ℕ) (it : Fields) (r : Row) (b : Bool)
    → equal Binary (column r 1) (Blob key) ≡ b
    → conflicts (Some (1 ∷ [])) indexes items2 (new_row rows key it) r ≡ b
unfolding first_key
conflict_when rows key it r true e = rw e
conflict_when rows key it r false e = rw e

-- a row conflicts where it has the key
conflict_is : (rows : List Row) (key : List ℕ) (it : Fields) (r : Row)
    → conflicts (Some (1 ∷ [])) indexes items2 (new_row rows key it) r ≡ key_is key (column r 1)
conflict_is rows key it r = conflict_when rows key it r (key_is key (column r 1))
    (equal-key key (column r 1))

pub cleared : (t : Task) (new : Row) (db : Trees) (found : List Row) (out : Written)
    → Clears t Abort new db found (Ok out) → PutsRow t new db (Ok out)
cleared t new db [] out h = h
cleared t new db (x ∷ more) out h = h

free_of : (rows : List Row) (r : Row) → are_fresh rows (r ∷ []) ≡ true → is_taken rows r ≡ false
free_of rows r h = not-true _ (and_parts _ _ h).0

cast_new : (rows : List Row) (key : List ℕ) (it : Fields)
    → cast_row items2 (new_row rows key it) ≡ new_row rows key it
cast_new rows key it = rw (
  cast_int (next_rowid rows),
  cast_int it.minutes,
  cast_int it.fresh,
  cast_int it.cookie,
  cast_int it.since,
  cast_int it.touched,
  cast_int it.ends,
  cast_int it.expiry,
)

pub adds : (old : State) (params : Row) (key : List ℕ) (it : Fields) (db : Trees) (one : Written)
    → PutsRow (task_of old params) (new_row (db 3) key it) db (Ok one)
    → (one.trees 3 ≡ put_row (new_row (db 3) key it) (db 3))
    × (is_taken (db 3) (new_row (db 3) key it) ≡ false) × LeavesOthers 3 db one.trees
adds old params key it db one h =
    let put = went h in
    let done = one_step known _ db put.0 (edit_of db items2 [] Given 0 (new_row (db 3) key it ∷ []))
    refl put.1 in
    let fresh = subst (λ r. are_fresh (db 3) (r ∷ []) ≡ true) (cast_new (db 3) key it) done.fresh in (
      ap (λ (w : Written). w.trees 3) (same_value put.2) ∙ done.rows
          ∙ ap (λ r. put_row r (db 3)) (cast_new (db 3) key it),
      free_of (db 3) (new_row (db 3) key it) fresh,
      λ t far none. ap (λ (w : Written). w.trees t)
          (same_value put.2) ∙ done.others t far none,
    )

lacked : (rows : List Row) (key : List ℕ) (it : Fields)
    → AreConflicts (Some (1 ∷ [])) indexes items2 rows (new_row rows key it) [] → LacksKey rows key
lacked rows key it free r h = elim (cases_Bool (key_is key (column r 1))) [
  | inl hit ↦ absurd (free.complete r h (conflict_is rows key it r ∙ hit))
  | inr miss ↦ miss
]

-- ---- a row in the place of another

pub rowid_when : (v : Value) (id : ℤ) (b : Bool) → is_eq (value_cmp v (Int id)) ≡ b
    → equal Binary v (Int id) ≡ b
unfolding binary
rowid_when Null id true e = absurd
    (let f = rw (value_cmp-apart Null (Int id) (λ p. omega (arith, p))) at e in cc)
rowid_when Null id false e = refl
rowid_when (Int n) id true e = rw e
rowid_when (Int n) id false e = rw e
rowid_when (Real x) id true e = rw e
rowid_when (Real x) id false e = rw e
rowid_when (Text t) id true e = rw e
rowid_when (Text t) id false e = rw e
rowid_when (Blob b) id true e = rw e
rowid_when (Blob b) id false e = rw e

-- the parameters of the update, where the taken key is that of this rowid
abbrev given_of : List Row → List ℕ → Fields → ℤ → Row
given_of rows key it id = columns_with key it ++ (Int id ∷ new_row rows key it)

abbrev env_of : List Row → List ℕ → Fields → ℤ → Row → Env
env_of rows key it id x = given_of rows key it id ∷ x ∷ []

abbrev found_in : List Row → List ℕ → Fields → ℤ → List Row → List Env
found_in whole key it id rows = flat_map
    (λ x. cond (list_all (holds (env_of whole key it id x)) put_query.filter)
    (env_of whole key it id x ∷ []) []) rows

found_is : (whole : List Row) (key : List ℕ) (it : Fields) (id : ℤ) (rows : List Row)
    → found_in whole key it id rows ≡ map (env_of whole key it id) (filter (has_rowid id) rows)
found_is whole key it id [] = refl
found_is whole key it id (x ∷ rows) = elim (cases_Bool (has_rowid id x)) [
  | inl hit ↦ rw (rowid_when (column x 0) id true hit, hit)
      (ap (λ m. env_of whole key it id x ∷ m) (found_is whole key it id rows))
  | inr miss ↦ rw (rowid_when (column x 0) id false miss, miss) (found_is whole key it id rows)
]

pub key_value : (key : List ℕ) (v : Value) → key_is key v ≡ true → v ≡ Blob key
key_value key Null h = absurd (true≢false (sym h))
key_value key (Int n) h = absurd (true≢false (sym h))
key_value key (Real x) h = absurd (true≢false (sym h))
key_value key (Text t) h = absurd (true≢false (sym h))
key_value key (Blob b) h = ap Blob (bytes_eq-same b key h)

-- the row as the update shows it, behind its old rowid
abbrev moved : ℤ → Fields → Row → Row
moved id it r = column r 0 ∷ column r 0 ∷ column r 1 ∷ Blob it.body ∷ Int it.minutes ∷ Int it.fresh
    ∷ Int it.cookie ∷ Int it.since ∷ Int it.touched ∷ Int it.ends ∷ Int it.expiry ∷ []

shown_is : (db : Trees) (key : List ℕ) (it : Fields) (id : ℤ) (r : Row) (rows : List Row)
    → filter (has_rowid id) (db 3) ≡ r ∷ []
    → IsAnswer put_query (overlay db []) (given_of (db 3) key it id) rows
    → rows ≡ moved id it r ∷ []
shown_is db key it id r rows one a =
    let staged : a.staged ≡ env_of (db 3) key it id r ∷ [] = a.grouped
    ∙ found_is (db 3) key it id (db 3) ∙ ap (map (env_of (db 3) key it id)) one in
    let o : Output = ([], moved id it r) in
    let kept : a.kept ≡ o ∷ [] = a.distinct ∙ ap (map (output put_query)) staged in
    let ordered = one_permutation o a.ordered (subst (λ k. IsPermutation k a.ordered) kept a.same)
    in
    a.shown ∙ ap (λ xs. page put_query (given_of (db 3) key it id) (map (λ (p : Output). p.1) xs))
    ordered

cast_moved : (key : List ℕ) (it : Fields) (id : ℤ) (r : Row) → column r 0 ≡ Int id
    → column r 1 ≡ Blob key → cast_row items2 (drop 1 (moved id it r)) ≡ Int id
    ∷ columns_with key it
cast_moved key it id r named keyed = rw (
  named,
  keyed,
  cast_int id,
  cast_int it.minutes,
  cast_int it.fresh,
  cast_int it.cookie,
  cast_int it.since,
  cast_int it.touched,
  cast_int it.ends,
  cast_int it.expiry,
)

abbrev edit_for : Trees → List Row → Edit
edit_for db rows = edit_of db items2 (ids_of rows) Given 1 rows

sets : (old : State) (params : Row) (key : List ℕ) (it : Fields) (db : Trees) (id : ℤ) (r : Row)
    (one : Written) → filter (has_rowid id) (db 3) ≡ r ∷ [] → column r 0 ≡ Int id
    → column r 1 ≡ Blob key
    → Updates (task_of old params) (record { lets = []; body = put_query })
    (given_of (db 3) key it id) db (Ok one)
    → (one.trees 3 ≡ put_row (Int id ∷ columns_with key it) (without_rowid id (db 3)))
    × (is_taken (without_rowid id (db 3)) (Int id ∷ columns_with key it) ≡ false)
    × LeavesOthers 3 db one.trees
sets old params key it db id r one alone named keyed h =
    let asked = went h in
    let wrote = went asked.2 in
    let shows = shown_is db key it id r asked.0 alone (asked.1.answer Null) in
    let done = one_step known _ db wrote.0 (edit_for db asked.0) refl wrote.1 in
    let rows = subst (λ all. wrote.0 3 ≡ edited db (edit_for db all)) shows done.rows in
    let fresh = subst (λ all. are_fresh (left_by db (edit_for db all)) (edit_for db all).news ≡
    true) shows done.fresh in
    let here : id_in (column r 0) ≡ id = ap id_in named in
    let moves = cast_moved key it id r named keyed in
    let set = subst (λ n. wrote.0 3 ≡ put_row (cast_row items2 (drop 1 (moved id it r)))
    (without_rowid n (db 3))) here rows in
    let free = subst (λ n. are_fresh (without_rowid n (db 3))
    (cast_row items2 (drop 1 (moved id it r)) ∷ []) ≡ true) here fresh in (
      ap (λ (w : Written). w.trees 3) (same_value wrote.2) ∙ set
          ∙ ap (λ x. put_row x (without_rowid id (db 3))) moves,
      free_of (without_rowid id (db 3)) (Int id ∷ columns_with key it)
          (subst (λ x. are_fresh (without_rowid id (db 3)) (x ∷ []) ≡ true) moves free),
      λ t far none. ap (λ (w : Written). w.trees t) (same_value wrote.2) ∙ done.others t far none,
    )

-- ---- the whole

upserted : (old : State) (key : List ℕ) (it : Fields) (db : Trees) (found : List Row)
    (one : Written) → HaveIds (db 3) → AreConflicts (Some (1 ∷ [])) indexes items2 (db 3)
    (new_row (db 3) key it) found
    → Meets (task_of old (columns_with key it))
    (Upserts (task_of old (columns_with key it)) Abort (new_row (db 3) key it) db [])
    (new_row (db 3) key it) db put_clause found (Ok one) → Puts (db 3) (one.trees 3) key it
    × LeavesOthers 3 db one.trees
upserted old key it db [] one ids free h =
    let t = task_of old (columns_with key it) in
    let both = adds old (columns_with key it) key it db one
    (cleared t (new_row (db 3) key it) db h.0 one h.2) in
    (inl (record { lacked = lacked (db 3) key it free; free = both.1; added = both.0 }), both.2)
upserted old key it db (there ∷ more) one ids hit h =
    let r = hit.sound there (inl refl) in
    let id = ids r.0 r.1 in
    let keyed = sym (conflict_is (db 3) key it r.0) ∙ r.2 in
    let same : there ≡ Int id.0 ∷ [] = r.3 ∙ ap (λ v. v ∷ []) id.1 in
    let ran = subst (λ x. Resolves (task_of old (columns_with key it)) (new_row (db 3) key it) db x
    put_clause.update (Ok one)) same h in
    let both = sets old (columns_with key it) key it db id.0 r.0 one id.2 id.1
    (key_value key (column r.0 1) keyed) ran in (
      inr (record {
        row = r.0;
        id = id.0;
        had = r.1;
        keyed = keyed;
        named = id.1;
        free = both.1;
        set = both.0;
      }),
      both.2,
    )

judged : (t : Task) (new : Row) (db : Trees) (verdict : Option Refusal) (one : Written)
    → Judged t Abort (put_clause ∷ []) new db verdict (Ok one)
    → Upserts t Abort new db (put_clause ∷ []) (Ok one)
judged t new db None one h = h
judged t new db (Some why) one h = absurd (let e = h in cc)

tries : (old : State) (key : List ℕ) (it : Fields) (db : Trees) (one : Written) → HaveIds (db 3)
    → Tries (task_of old (columns_with key it)) Abort (put_clause ∷ []) (new_row (db 3) key it) db
    (Ok one) → Puts (db 3) (one.trees 3) key it × LeavesOthers 3 db one.trees
tries old key it db one ids (inl refused) = absurd (let e = refused.1 in cc)
tries old key it db one ids (inr h) =
    let u = judged (task_of old (columns_with key it)) (new_row (db 3) key it) db h.0 one h.2 in
    upserted old key it db u.0 one ids u.1 u.2

-- What an upsert does to a connection.
pub record Upserted (old new : State) (key : List ℕ) (it : Fields) : Type 0 where
  pub puts : HaveIds (old.now.trees 3) → Puts (old.now.trees 3) (new.now.trees 3) key it
  pub others : HaveIds (old.now.trees 3) → KeepsOtherTables old.now.trees new.now.trees
  pub schema : new.now.schema ≡ known
  pub was_open : IsTrue old.is_open
  pub mode : new.in_transaction ≡ old.in_transaction

pub upsert : (key : List ℕ) (it : Fields) (old new : State) (count : ℕ) → old.now.schema ≡ known
    → Executes put_text (columns_with key it) old new (Ok count) → Upserted old new key it
upsert key it old new count has h =
    let it2 = ran key it old new count has h in
    record {
      puts = λ ids. subst (λ rows. Puts (old.now.trees 3) rows key it)
          (ap (λ (t : Trees). t 3) (sym it2.trees))
          (tries old key it old.now.trees it2.one ids it2.tried).0;
      others = λ ids. keeps_other_tables old.now.trees new.now.trees
          (λ t far none. ap (λ (x : Trees). x t) it2.trees
          ∙ (tries old key it old.now.trees it2.one ids it2.tried).1 t far none);
      schema = it2.schema;
      was_open = it2.was_open;
      mode = it2.mode;
    }
