-- The greatest cookie that an item holds, and the last one that is stored.
use Rattle.std.proofs.Common.{◌≡◌, inl, inr, ℕ, ℤ, pos, ◌^◌, ◌<◌, ◌≤◌, ◌<ℤ◌, List, [], ◌∷◌, Bool, true, false, cond, Some, None, Option, Ok, Err, Result, OnOk, refl, sym, ap, subst, ◌∙◌, arith, true≢false}
use Rattle.std.specs.Prelude.{IfOk, IfSome, IsOk, OnErr}
use Rattle.std.specs.List.{list_all}
use Rattle.std.specs.Ordering.{MatchOrdering, is_lt, int_cmp, ordering_then}
use Rattle.std.specs.declared.cmp.Ordering.{Ordering}
use Rattle.std.specs.declared.cmp.Ordering.TheVariants.{Less, Equal, Greater}
use Rattle.std.proofs.lemmas.Cmp.{int_ranked}
use Rattle.sqlite_value.specs.declared.value.Value.TheVariants.{Int}
use Rattle.sqlite_value.specs.Order.{Row, bytes, column, value_cmp}
use Rattle.sqlite_value.proofs.OrderLemmas.{value_cmp-Int}
use Rattle.sqlite_sql.specs.Query.{key_cmp}
use Rattle.sqlite_rules.specs.Lists.{Has}
use Rattle.sqlite.specs.declared.error.Error.{Error}
use Rattle.sqlite.specs.Effect.{Database}
use Rattle.sqlite.specs.State.{State}
use Rattle.sqlite_rows.specs.Calls.{IsKnown, KeepsDatabase}
use Rattle.sqlite_rows.specs.Cookies.{FindsGreatest, IsLast, SetsLast, ShowsGreatest, falling}
use Rattle.sqlite_rows.specs.Dues.{rising}
use Rattle.sqlite_rows.specs.Gets.{key_is}
use Rattle.sqlite_rows.specs.Uniques.{HaveOwnKeys}
use Rattle.sqlite_rows.proofs.KeyLemmas.{bytes_eq-refl}
use Rattle.keeper.specs.declared.keeping.KeepError.{KeepError}
use Rattle.session_machine.specs.declared.item.Item.{Item}
use Rattle.sqlite_keeper.specs.Blocks.{HoldsBelow, IsBlockFrom, IsGreatestHeld, ReadsHeld, TellsBlock, TellsHeld, stored_answer, told_last}
use Rattle.sqlite_keeper.specs.declared.cookie_block.CookieBlock.{CookieBlock}
use Rattle.sqlite_keeper.specs.declared.failure.Failure.{Failure}
use Rattle.sqlite_keeper.specs.Failures.{keeper_answer}
use Rattle.sqlite_keeper.specs.Keeping.{cookies_in, rows_in}
use Rattle.sqlite_keeper.specs.Rows.{cookie_of}
use Rattle.sqlite_keeper.specs.Told.{fields_in, item_in, item_with, says_item, told_rows}
use Rattle.sqlite_keeper.proofs.DueLemmas.{lt_from}
use Rattle.sqlite_keeper.proofs.ItemLemmas.{each_says, item_row_of, the_item}
use Rattle.sqlite_keeper.proofs.KeepLemmas.{known_stays}
use Rattle.sqlite_keeper.proofs.SaysLemmas.{says_is}

-- ---- the order of cookies

falling_order : (a b : Row) (x c : ℕ) → column a 5 ≡ Int (pos x) → column b 5 ≡ Int (pos c)
    → key_cmp 0 (falling ∷ rising ∷ []) (column a 5 ∷ column a 1 ∷ [])
    (column b 5 ∷ column b 1 ∷ [])
    ≡ ordering_then (int_cmp (pos c) (pos x))
    (ordering_then (value_cmp (column a 1) (column b 1)) Equal)
falling_order a b x c p q = rw (p, q, value_cmp-Int (pos c) (pos x)) refl

at_most : (x c : ℕ) (rest : Ordering)
    → is_lt (ordering_then (int_cmp (pos c) (pos x)) rest) ≡ false → x ≤ c
at_most x c rest h =
    by (int_cmp (pos c) (pos x)) (int_ranked (pos c) (pos x) (int_cmp (pos c) (pos x)) refl) h
  where
    by : (r : Ordering)
        → MatchOrdering r (pos c <ℤ pos x) (◌≡◌ {A = ℤ} (pos c) (pos x)) (pos x <ℤ pos c)
        → is_lt (ordering_then r rest) ≡ false → x ≤ c
    by Less p h = absurd (true≢false h)
    by Equal p h = (let q : c ≡ x = (let f = p in cc) in omega (arith, q))
    by Greater p h = (let q = lt_from x c p in omega (arith, q))

int_same : (a b : ℕ) → Int (pos a) ≡ Int (pos b) → a ≡ b
int_same a b e = cc

-- ---- the greatest that is held

module _ (rows : List Row) (own : HaveOwnKeys rows) (all : list_all says_item rows ≡ true) where
  none_held : ((x : Row) → Has rows x → ⊥) → IsGreatestHeld (item_in rows) 0
  none_held none = record {
    all = λ key item there.
        let r = item_row_of rows key item (each_says rows all) there in absurd (none r.0 r.1);
    held = inl refl;
  }

  greatest_held : (out : Row) (c : ℕ) → ShowsGreatest rows out → column out 0 ≡ Int (pos c)
      → IsGreatestHeld (item_in rows) c
  greatest_held out c g is =
      let shown : column g.row 5 ≡ Int (pos c) = sym (ap (λ (r : Row). column r 0) g.shows) ∙ is in
      let item : Item = item_with (fields_in g.row) in
      let it = says_is g.row (each_says rows all g.row g.had) in
      let key = bytes (column g.row 1) in
      let hit : key_is key (column g.row 1) ≡ true =
      subst (λ v. key_is key v ≡ true) (sym it.key_is) (bytes_eq-refl key) in
      record {
        all = λ other second there.
            let r = item_row_of rows other second (each_says rows all) there in
            at_most (cookie_of second.holder) c _
            (sym (ap is_lt (falling_order r.0 g.row (cookie_of second.holder) c r.2.cookie shown))
            ∙ g.first r.0 r.1);
        held = inr (
          key,
          item,
          the_item rows key g.row own g.had hit,
          int_same c (cookie_of item.holder) (sym shown ∙ it.cookie),
        );
      }

held_told : (rows : List Row) (row : Option Row) (c : ℕ) → HaveOwnKeys rows
    → FindsGreatest rows row → ReadsHeld row c → TellsHeld (told_rows rows) c
held_told rows row c own f s = by_all (list_all says_item rows) refl
  where
    by_row : (row : Option Row) → list_all says_item rows ≡ true → FindsGreatest rows row
        → ReadsHeld row c → TellsHeld (Some (item_in rows)) c
    by_row None all f s =
        subst (λ n. IsGreatestHeld (item_in rows) n) (sym s) (none_held rows own all f)
    by_row (Some out) all f s = greatest_held rows own all out c f s

    by_all : (b : Bool) → list_all says_item rows ≡ b
        → TellsHeld (cond b (Some (item_in rows)) None) c
    by_all true all = by_row row all f s
    by_all false all = tt

pub held_by : (rows : List Row) (row : Result (Option Row) Error) (held : Result ℕ Failure)
    → HaveOwnKeys rows → IfOk row (FindsGreatest rows)
    → IfOk held (λ x. IfOk row (λ r. ReadsHeld r x)) → OnOk held (IsOk row)
    → IfOk held (TellsHeld (told_rows rows))
held_by rows row (Err e) own f s ok = tt
held_by rows (Err e) (Ok c) own f s ok = absurd (true≢false (sym ok))
held_by rows (Ok row) (Ok c) own f s ok = held_told rows row c own f s

-- ---- what is stored

pub stored_known : (old new : State) (m : ℕ) (done : Result (Unit {0}) Failure) → IsKnown old
    → OnOk done (SetsLast (cookies_in old) (cookies_in new) (pos m) × IsKnown new
    × (rows_in new ≡ rows_in old)) → OnErr done (KeepsDatabase old new) → IsKnown new
stored_known old new m (Ok x) known sets same = sets.1
stored_known old new m (Err e) known sets same = known_stays old new known same

pub stored_rows : (old new : State) (m : ℕ) (done : Result (Unit {0}) Failure)
    → OnOk done (SetsLast (cookies_in old) (cookies_in new) (pos m) × IsKnown new
    × (rows_in new ≡ rows_in old)) → OnErr done (KeepsDatabase old new)
    → rows_in new ≡ rows_in old
stored_rows old new m (Ok x) sets same = sets.2
stored_rows old new m (Err e) sets same = ap (λ (d : Database). d.trees 3) same.now

pub stored_cookies : (old new : State) (last : ℕ) (block : CookieBlock)
    (done : Result (Unit {0}) Failure)
    → OnOk done (SetsLast (cookies_in old) (cookies_in new) (pos block.last) × IsKnown new
    × (rows_in new ≡ rows_in old)) → OnErr done (KeepsDatabase old new)
    → IsLast (cookies_in old) (pos last)
    → IsLast (cookies_in new) (pos (told_last last (stored_answer done block)))
stored_cookies old new last block (Ok x) sets same is = sets.0 (pos last) is
stored_cookies old new last block (Err e) sets same is =
    subst (λ xs. IsLast xs (pos last)) (sym (ap (λ (d : Database). d.trees 6) same.now)) is

-- ---- the keeper's answer

pub last_of_answer : (last : ℕ) (q : Result (Option CookieBlock) Failure)
    → told_last last (keeper_answer q) ≡ told_last last q
last_of_answer last (Ok (Some block)) = refl
last_of_answer last (Ok None) = refl
last_of_answer last (Err failure) = refl

below : (told : Option (List ℕ → Option Item)) (last at_least : ℕ) (block : Option CookieBlock)
    → TellsBlock told last at_least block → IfSome block (λ b. HoldsBelow told b.first)
below told last at_least None t = tt
below None last at_least (Some block) t = tt
below (Some items) last at_least (Some block) t = λ key item there.
    let low = t.1.all key item there in
    let first = t.2 in
    grind (arith, low, first)

pub below_if : (told : Option (List ℕ → Option Item)) (last at_least : ℕ)
    (r : Result (Option CookieBlock) KeepError) → IfOk r (TellsBlock told last at_least)
    → IfOk r (λ block. IfSome block (λ b. HoldsBelow told b.first))
below_if told last at_least (Ok block) t = below told last at_least block t
below_if told last at_least (Err e) t = tt

pub last_in_range : {E : Type 0} (last at_least : ℕ) (r : Result (Option CookieBlock) E)
    → last < 2 ^ 63 → IfOk r (λ block. IfSome block (IsBlockFrom at_least))
    → told_last last r < 2 ^ 63
last_in_range last at_least (Ok (Some block)) low is =
    let ends = is.last in omega (arith, ends)
last_in_range last at_least (Ok None) low is = low
last_in_range last at_least (Err e) low is = low
