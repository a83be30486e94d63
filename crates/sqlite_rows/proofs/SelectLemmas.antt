-- A selection over one table, with LIMIT 1 or with no limit: its first row is that of a row of the table that passes, and none that passes comes before it.
use Rattle.std.proofs.Common.{◌≡◌, ◌⊎◌, inl, inr, ℕ, List, [], ◌∷◌, map, take, Bool, true, false, cond, refl, sym, ap, subst, ◌∙◌, arith}
use Rattle.std.specs.List.{All, AllByRecursion, flat_map, list_all}
use Rattle.std.specs.Ordering.{is_lt}
use Rattle.std.proofs.lemmas.Bool.{cases_Bool}
use Rattle.std.proofs.lemmas.List.Elements.{recursion_from_All}
use Rattle.std.proofs.lemmas.List.Sorted.{IsPermutation-sym, ranks_by, sorted_far}
use Rattle.sqlite_value.specs.declared.keys.Key.{Key}
use Rattle.sqlite_value.specs.Order.{Row}
use Rattle.sqlite_trees.specs.Tree.{Trees}
use Rattle.sqlite_sql.specs.Term.{Term, Env, eval_all, holds}
use Rattle.sqlite_sql.specs.Query.{Query, Output, key_cmp, output, output_cmp, page, IsAnswer}
use Rattle.sqlite_sql.proofs.QueryLemmas.{key_cmp_total}
use Rattle.sqlite_rules.specs.Lists.{Has}
use Rattle.sqlite_rows.specs.Selects.{select}
use Rattle.sqlite_rows.proofs.HasLemmas.{all_at, has_map, mapped, has_moved}

module _ (tree : ℕ) (filter project : List Term) (order : List (Term × Key)) (limit : Term)
    (params : Row) where
  abbrev q : Query
  q = select tree filter project order limit

  abbrev pub env : Row → Env
  env r = params ∷ r ∷ []

  -- the row passes
  abbrev pub passes : Row → Bool
  passes r = list_all (holds (env r)) filter

  -- what the row is ordered by
  abbrev pub sorts : Row → Row
  sorts r = eval_all (map (λ k. k.0) order) (env r)

  abbrev pub keys : List Key
  keys = map (λ k. k.1) order

  abbrev found : List Row → List Env
  found rows = flat_map (λ r. cond (passes r) (env r ∷ []) []) rows

  abbrev outputs : List Row → List Output
  outputs rows = map (output q) (found rows)

  abbrev Found : Output → List Row → Type 0
  Found o rows = (r : Row) × Has rows r × (passes r ≡ true) × (o ≡ output q (env r))

  found_of : (rows : List Row) (o : Output) → Has (outputs rows) o → Found o rows
  found_of [] o h = absurd h
  found_of (x ∷ rows) o h = elim (cases_Bool (passes x)) [
    | inl hit ↦ here hit (found_of rows o) (rw hit at h)
    | inr miss ↦ later (found_of rows o) (rw miss at h)
  ]
    where
      later : (Has (outputs rows) o → Found o rows) → Has (outputs rows) o → Found o (x ∷ rows)
      later more h = let f = more h in (f.0, inr f.1, f.2, f.3)

      here : passes x ≡ true → (Has (outputs rows) o → Found o rows)
          → Has (output q (env x) ∷ outputs rows) o → Found o (x ∷ rows)
      here hit more (inl same) = (x, inl refl, hit, same)
      here hit more (inr h) = later more h

  finds : (rows : List Row) (r : Row) → Has rows r → passes r ≡ true
      → Has (outputs rows) (output q (env r))
  finds [] r h hit = absurd h
  finds (x ∷ rows) r (inl same) hit = rw (← same, hit) (inl refl)
  finds (x ∷ rows) r (inr h) hit = elim (cases_Bool (passes x)) [
    | inl here ↦ rw here (inr (finds rows r h hit))
    | inr miss ↦ rw miss (finds rows r h hit)
  ]

  none_before : (o : Output) (os : List Output) → Rattle.std.specs.Prelude.IsSorted (output_cmp q)
      (o ∷ os) → (x : Output) → Has (o ∷ os) x → is_lt (key_cmp 0 keys x.0 o.0) ≡ false
  none_before o os up = all_at (λ (x : Output). is_lt (key_cmp 0 keys x.0 o.0) ≡ false) (o ∷ os)
      (recursion_from_All (λ (x : Output). is_lt (key_cmp 0 keys x.0 o.0) ≡ false) (o ∷ os)
      (λ k d low. sorted_far (λ (x y : Output). is_lt (key_cmp 0 keys x.0 y.0))
      (ranks_by (key_cmp_total keys 0) (λ (x : Output). x.0)) (o ∷ os) up 0 k d
      (omega arith) low))

  -- the row that is shown first, and nothing that passes comes before it
  pub record IsFirstRow (rows : List Row) (shown : Row) : Type 0 where
    pub row : Row
    pub had : Has rows row
    pub passed : passes row ≡ true
    pub shows : shown ≡ eval_all project (env row)
    pub first : (x : Row) → Has rows x → passes x ≡ true
        → is_lt (key_cmp 0 keys (sorts x) (sorts row)) ≡ false

  -- the query's page is all rows, or the first one
  abbrev pub PagesOne : Type 0
  PagesOne = (xs : List Row) → (page q params xs ≡ xs) ⊎ (page q params xs ≡ take 1 xs)

  module _ (trees : Trees) (rows : List Row) (are : trees tree ≡ rows) (pages : PagesOne) where
    kept_is : (out : List Row) (a : IsAnswer q trees params out) → a.kept ≡ outputs rows
    kept_is out a = a.distinct ∙ ap (map (output q)) a.grouped ∙ ap outputs are

    head_of : (os : List Output) (shown : Row) (tail : List Row)
        → shown ∷ tail ≡ page q params (map (λ (o : Output). o.1) os) → (o : Output)
        × (more : List Output) × (os ≡ o ∷ more) × (shown ≡ o.1)
    head_of [] shown tail e = elim
        (pages []) [
          | inl all ↦ absurd (let f = e ∙ all in cc)
          | inr one ↦ absurd
              (let f = e ∙ one in cc)
        ]
    head_of (o ∷ os) shown tail e = elim (pages (map (λ (o : Output). o.1) (o ∷ os))) [
      | inl all ↦ (o, os, refl, (let f = e ∙ all in cc))
      | inr one ↦ (o, os, refl, (let f = e ∙ one in cc))
    ]

    pub first_row : (shown : Row) (tail : List Row) → IsAnswer q trees params (shown ∷ tail)
        → IsFirstRow rows shown
    first_row shown tail a =
        let h = head_of a.ordered shown tail a.shown in
        let among : Has (outputs rows) h.0 =
        subst (λ os. Has os h.0) (kept_is (shown ∷ tail) a)
        (has_moved a.ordered a.kept (IsPermutation-sym a.kept a.ordered a.same) h.0
        (subst (λ os. Has os h.0) (sym h.2) (inl refl))) in
        let f = found_of rows h.0 among in
        let up = subst (Rattle.std.specs.Prelude.IsSorted (output_cmp q)) h.2 a.sorted in
        record {
          row = f.0;
          had = f.1;
          passed = f.2;
          shows = h.3 ∙ ap (λ (o : Output). o.1) f.3;
          first = λ x had hit.
              let there = has_moved a.kept a.ordered a.same (output q (env x))
              (subst (λ os. Has os (output q (env x))) (sym (kept_is (shown ∷ tail) a))
              (finds rows x had hit)) in
              let far = none_before h.0 h.1 up (output q (env x))
              (subst (λ os. Has os (output q (env x))) h.2 there) in
              subst (λ (o : Output). is_lt (key_cmp 0 keys (sorts x) o.0) ≡ false) f.3 far;
        }

    none_of : (os : List Output) → [] ≡ page q params (map (λ (o : Output). o.1) os) → (o : Output)
        → Has os o → ⊥
    none_of [] e o h = h
    none_of (x ∷ os) e o h = elim (pages (map (λ (o : Output). o.1) (x ∷ os)))
        [ inl all ↦ absurd (let f = e ∙ all in cc) | inr one ↦ absurd (let f = e ∙ one in cc) ]

    -- nothing is shown where no row passes
    pub no_row : IsAnswer q trees params [] → (x : Row) → Has rows x → passes x ≡ false
    no_row a x had = elim (cases_Bool (passes x)) [
      | inl hit ↦ absurd (none_of a.ordered a.shown (output q (env x))
          (has_moved a.kept a.ordered a.same (output q (env x))
          (subst (λ os. Has os (output q (env x))) (sym (kept_is [] a)) (finds rows x had hit))))
      | inr miss ↦ miss
    ]

    -- what all rows of an answer with no limit show: of each row that passes, and of no other
    pub all_rows : ((xs : List Row) → page q params xs ≡ xs) → (out : List Row)
        → IsAnswer q trees params out
        → ((shown : Row) → Has out shown → (r : Row) × Has rows r × (passes r ≡ true)
        × (shown ≡ eval_all project (env r)))
        × ((r : Row) → Has rows r → passes r ≡ true → Has out (eval_all project (env r)))
    all_rows whole out a = (
      λ shown h.
          let o = mapped (λ (o : Output). o.1) a.ordered shown
          (subst (λ xs. Has xs shown) (a.shown ∙ whole _) h) in
          let f = found_of rows o.0
          (subst (λ os. Has os o.0) (kept_is out a)
          (has_moved a.ordered a.kept (IsPermutation-sym a.kept a.ordered a.same) o.0 o.1)) in
          (f.0, f.1, f.2, o.2 ∙ ap (λ (o : Output). o.1) f.3),
      λ r had hit.
          let there = has_moved a.kept a.ordered a.same (output q (env r))
          (subst (λ os. Has os (output q (env r))) (sym (kept_is out a)) (finds rows r had hit))
          in
          subst (λ xs. Has xs (eval_all project (env r))) (sym (a.shown ∙ whole _))
          (has_map (λ (o : Output). o.1) a.ordered (output q (env r)) there),
    )
