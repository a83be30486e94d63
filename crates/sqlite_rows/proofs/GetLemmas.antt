-- A selection by key shows the row that has it.
use Rattle.std.proofs.Common.{◌≡◌, inl, inr, ℕ, List, [], ◌∷◌, map, length, Bool, true, false, cond, Some, Ok, Err, Result, IfOk, refl, sym, ap, subst, ◌∙◌, arith}
use Rattle.std.specs.List.{All, AllByRecursion, flat_map, list_all}
use Rattle.std.proofs.lemmas.List.Sorted.{length_permutation, All-permutation}
use Rattle.std.proofs.lemmas.List.Elements.{All-from_recursion, All-head}
use Rattle.std.proofs.lemmas.Bool.{cases_Bool}
use Rattle.std.proofs.lemmas.Map.Text.{is_eq-slice_cmp}
use Rattle.std.specs.Str.{bytes_eq}
use Rattle.sqlite_value.specs.declared.value.Value.{Value}
use Rattle.sqlite_value.specs.declared.value.Value.TheVariants.{Null, Int, Real, Text, Blob}
use Rattle.sqlite_value.specs.declared.keys.Collation.TheVariants.{Binary}
use Rattle.sqlite_value.specs.Order.{Row, column}
use Rattle.sqlite_value.proofs.OrderLemmas.{value_cmp-Blob, value_cmp-apart}
use Rattle.sqlite_sql.specs.Ops.{binary, is_true}
use Rattle.sqlite_sql.specs.Term.{Env, holds}
use Rattle.sqlite_sql.specs.Query.{Output, output, IsAnswer}
use Rattle.sqlite_schema.specs.Rules.{equal}
use Rattle.sqlite_sql.specs.Program.{overlay}
use Rattle.sqlite_rules.specs.Lists.{Has}
use Rattle.sqlite.specs.declared.error.Error.{Error}
use Rattle.sqlite.specs.declared.error.Error.TheVariants.{QueryReturnedNoRows}
use Rattle.std.proofs.Common.{Option}
use Rattle.sqlite_trees.specs.declared.error.StoreError.{StoreError}
use Rattle.sqlite_trees.specs.declared.error.StoreError.TheVariants.{OutOfMemory, Io, Corrupt, Full, Broken, Unstorable}
use Rattle.sqlite.specs.Command.{Command}
use Rattle.sqlite.specs.Command.TheVariants.{Select, Rows}
use Rattle.sqlite.specs.Effect.{Database, RefusesToRead}
use Rattle.sqlite.specs.Clock.{timed}
use Rattle.sqlite.specs.Listing.{understood}
use Rattle.sqlite.specs.State.{State, QueriesRow, Shown, IsNotRun, FailsToQuery, FailsToShow, store_error}
use Rattle.sqlite.specs.Given.{IsPlain}
use Rattle.sqlite.proofs.Callers.{first_as, reads_as}
use Rattle.sqlite_rows.specs.Tables.{known}
use Rattle.sqlite_rows.specs.Texts.{get_text}
use Rattle.sqlite_rows.specs.Gets.{key_is, ShowsKey, LacksKey}
use Rattle.sqlite_rows.proofs.TextLemmas.{get_query, get_is, get_plain, key_test}

-- SQL's equality with a blob is that of its bytes
pub equal-key : (key : List ℕ) (v : Value) → equal Binary v (Blob key) ≡ key_is key v
unfolding binary
equal-key key Null = refl
equal-key key (Int n) = rw (value_cmp-apart (Int n) (Blob key) (λ e. omega (arith, e)))
equal-key key (Real x) = rw (value_cmp-apart (Real x) (Blob key) (λ e. omega (arith, e)))
equal-key key (Text t) = rw (value_cmp-apart (Text t) (Blob key) (λ e. omega (arith, e)))
equal-key key (Blob b) = rw (value_cmp-Blob b key, is_eq-slice_cmp b key)
    (truth_of (bytes_eq b key))
  where
    truth_of : (t : Bool)
        → is_true (cond false Null (Rattle.sqlite_sql.specs.Ops.from_truth (Some t))) ≡ t
    truth_of true = refl
    truth_of false = refl

-- the row passes where it has the key
pub passes : (key : List ℕ) (r : Row) → holds ((Blob key ∷ []) ∷ r ∷ []) key_test ≡ key_is key
    (column r 1)
passes key r = equal-key key (column r 1)

abbrev found_in : List ℕ → List Row → List Env
found_in key rows = flat_map
    (λ r. cond (list_all (holds ((Blob key ∷ []) ∷ r ∷ [])) (key_test ∷ []))
    (((Blob key ∷ []) ∷ r ∷ []) ∷ []) []) rows

all_shown : (key : List ℕ) (whole rows : List Row) → ((r : Row) → Has rows r → Has whole r)
    → AllByRecursion (λ (o : Output). ShowsKey whole key o.1)
    (map (output get_query) (found_in key rows))
all_shown key whole [] among = tt
all_shown key whole (r ∷ rows) among =
    let more = all_shown key whole rows (λ x h. among x (inr h)) in
    elim (cases_Bool (key_is key (column r 1))) [
      | inl hit ↦ rw (passes key r, hit) ((r, among r (inl refl), hit, refl), more)
      | inr miss ↦ rw (passes key r, miss) more
    ]

none_found : (key : List ℕ) (rows : List Row)
    → length (map (output get_query) (found_in key rows)) ≡ 0 → LacksKey rows key
none_found key [] len x h = absurd h
none_found key (r ∷ rows) len x h = elim (cases_Bool (key_is key (column r 1))) [
  | inl hit ↦ absurd (let e = rw (passes key r, hit) at len in omega arith)
  | inr miss ↦ elim h [
    | inl e ↦ rw e miss
    | inr more ↦ none_found key rows (rw (passes key r, miss) at len) x more
  ]
]

head_shown : (P : Row → Type 0) (os : List Output) (row : Row) (tail : List Row)
    → row ∷ tail ≡ map (λ (o : Output). o.1) os → All (λ (o : Output). P o.1) os → P row
head_shown P [] row tail e all = absurd cc
head_shown P (o ∷ os) row tail e all = let same : row ≡ o.1 = cc in
    subst P (sym same) (All-head (λ (x : Output). P x.1) o os all)

pub gets : (key : List ℕ) (old new : State) (r : Result Row Error) → old.now.schema ≡ known
    → QueriesRow get_text (Blob key ∷ []) old new r → IfOk r (ShowsKey (old.now.trees 3) key)
unfolding QueriesRow
gets key old new (Err e) has h = tt
gets key old new (Ok row) has h =
    let got = (first_as get_text (Blob key ∷ []) old new known has _ get_is.0 get_plain get_is.1 row
    h).1 in
    let a : IsAnswer get_query (overlay old.now.trees []) (Blob key ∷ []) (row ∷ got.0) =
    got.1 Null in
    let P : Output → Type 0 = λ o. ShowsKey (old.now.trees 3) key o.1 in
    let kept : a.kept ≡ map (output get_query) (found_in key (old.now.trees 3)) = a.distinct
    ∙ ap (map (output get_query)) a.grouped in
    let all : All P a.kept = subst (All P) (sym kept)
    (All-from_recursion P _ (all_shown key (old.now.trees 3) (old.now.trees 3) (λ r h. h))) in
    head_shown (ShowsKey (old.now.trees 3) key) a.ordered row got.0 a.shown
    (All-permutation P a.kept a.ordered a.same all)

none_shown : (os : List Output) → [] ≡ map (λ (o : Output). o.1) os → length os ≡ 0
none_shown [] e = refl
none_shown (o ∷ os) e = absurd cc

pub lacks : (key : List ℕ) (old new : State) → old.now.schema ≡ known
    → Shown get_text (Blob key ∷ []) old new [] → LacksKey (old.now.trees 3) key
lacks key old new has h =
    let got = (reads_as get_text (Blob key ∷ []) old new known has _ get_is.0 get_plain get_is.1 []
    h).answer in
    let a : IsAnswer get_query (overlay old.now.trees []) (Blob key ∷ []) [] = got Null in
    let kept : a.kept ≡ map (output get_query) (found_in key (old.now.trees 3)) = a.distinct
    ∙ ap (map (output get_query)) a.grouped in
    let empty : length a.ordered ≡ 0 = none_shown a.ordered a.shown in
    let none : length a.kept ≡ 0 = sym (length_permutation a.kept a.ordered a.same) ∙ empty in
    none_found key (old.now.trees 3) (sym (ap length kept) ∙ none)

named : (cause : StoreError) → QueryReturnedNoRows ≡ store_error cause → ⊥
named OutOfMemory e = cc
named Io e = cc
named Corrupt e = cc
named Full e = cc
named Broken e = cc
named Unstorable e = cc

never_unrun : (old new : State) (sql : List ℕ) (params : Row)
    → IsNotRun old new sql params QueryReturnedNoRows → ⊥
unfolding IsNotRun
never_unrun old new sql params (inr f) = named f.0 f.1
never_unrun old new sql params (inl not) = elim (not.0) [
  | inl bad ↦ (let e = bad.2 in cc)
  | inr other ↦ elim (other.2) [
    | inl many ↦ (let e = many.1 in cc)
    | inr few ↦ elim few [
      | inl count ↦ (let e = count.1 in cc)
      | inr late ↦ (let e = late.1 in cc)
    ]
  ]
]

never_refused : (limit : Option ℕ) (command : Command) (db : Database) (params : Row)
    → RefusesToRead limit command db params QueryReturnedNoRows → ⊥
never_refused limit (Select q names) db params (inl h) = let e = h.0 in cc
never_refused limit (Select q names) db params (inr (inl h)) = let e = h.0 in cc
never_refused limit (Select q names) db params (inr (inr h)) = let e = h.0 in cc
never_refused limit (Rows values width names) db params h = let e = h.0 in cc
never_refused limit _ db params h = cc

pub missing : (old new : State) (params : Row) → old.now.schema ≡ known
    → QueriesRow get_text params old new (Err QueryReturnedNoRows)
    → Shown get_text params old new []
unfolding QueriesRow FailsToQuery
missing old new params has (inr h) = h.1
missing old new params has (inl (inl h)) = absurd (never_unrun old new get_text params h)
missing old new params has (inl (inr h)) =
    let c = h.0 in
    let it = h.1 in
    let bare : IsPlain (Ok c) = subst IsPlain (sym (ap (λ s. understood s get_text) has) ∙ it.is)
    get_plain in
    let failed = subst (FailsToShow old new get_text c (timed params c.formats it.now)
    QueryReturnedNoRows) bare.0 h.2 in
    absurd (never_refused old.step_limit c.command failed.0 (timed params c.formats it.now)
    failed.2)

pub lacks_key : (key : List ℕ) (old new : State) (r : Result Row Error)
    → r ≡ Err QueryReturnedNoRows → old.now.schema ≡ known
    → QueriesRow get_text (Blob key ∷ []) old new r → LacksKey (old.now.trees 3) key
lacks_key key old new r e has h = lacks key old new has
    (missing old new (Blob key ∷ []) has (rw e at h))
