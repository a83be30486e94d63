-- The row that expired first is that of the item that did.
use Rattle.std.proofs.Common.{◌≡◌, inl, inr, ℕ, ℤ, pos, ◌-◌, ◌^◌, ◌<◌, ◌≤◌, ◌<ℤ◌, List, Bool, true, false, cond, Some, None, Option, refl, sym, ap, subst, ◌∙◌, arith, true≢false}
use lib.Dec.{ltb→lt}
use Rattle.std.specs.Prelude.{min}
use Rattle.std.specs.List.{list_all}
use Rattle.std.specs.Ordering.{MatchOrdering, is_le, is_lt, int_cmp, nat_cmp, ordering_reverse, ordering_then}
use Rattle.std.specs.declared.cmp.Ordering.{Ordering}
use Rattle.std.specs.declared.cmp.Ordering.TheVariants.{Less, Equal, Greater}
use Rattle.std.specs.Cmp.Lexicographic.{slice_cmp}
use Rattle.std.proofs.lemmas.Cmp.{int_ranked, nat_list_cmp_total}
use Rattle.sqlite_value.specs.declared.value.Value.{Value}
use Rattle.sqlite_value.specs.declared.value.Value.TheVariants.{Int, Blob}
use Rattle.sqlite_value.specs.Order.{Row, column}
use Rattle.sqlite_value.proofs.OrderLemmas.{value_cmp-Int, value_cmp-Blob}
use Rattle.sqlite_sql.specs.Ops.{binary, unary, is_true}
use Rattle.sqlite_rows.specs.Dues.{FindsDue, LacksDue, due_row_cmp, is_due}
use Rattle.sqlite_rows.specs.Gets.{key_is}
use Rattle.sqlite_rows.specs.Uniques.{HaveOwnKeys}
use Rattle.sqlite_rows.proofs.KeyLemmas.{bytes_eq-refl}
use Rattle.keeper.specs.Due.{ComesBefore, IsDue, IsFirstDue, TellsDue}
use Rattle.session_machine.specs.declared.item.Item.{Item}
use Rattle.session_machine.specs.Liveness.{ItemFits, expiry}
use Rattle.sqlite_keeper.specs.Rows.{ReadsKey}
use Rattle.sqlite_keeper.specs.Told.{IsRowOf, item_in, item_with, says_item, fields_in, told_rows}
use Rattle.sqlite_keeper.proofs.ItemLemmas.{each_says, item_row_of, the_item}
use Rattle.sqlite_keeper.proofs.SaysLemmas.{says_is}

-- ---- SQL's comparisons at the columns of an item

truth_of : (b : Bool)
    → is_true (cond false Rattle.sqlite_value.specs.declared.value.Value.TheVariants.Null
    (Rattle.sqlite_sql.specs.Ops.from_truth (Some b))) ≡ b
truth_of true = refl
truth_of false = refl

due_int : (m e : ℕ) (row : Row) → column row 9 ≡ Int (pos e)
    → is_due (pos m) row ≡ is_le (int_cmp (pos e) (pos m))
unfolding binary unary
due_int m e row is = rw (is, value_cmp-Int (pos e) (pos m))
    (truth_of (is_le (int_cmp (pos e) (pos m))))

pub lt_from : (a b : ℕ) → pos a <ℤ pos b → a < b
lt_from a b p = ltb→lt a b p.lt

le_from : (e m : ℕ) → is_le (int_cmp (pos e) (pos m)) ≡ true → e ≤ m
le_from e m h = by (int_cmp (pos e) (pos m))
    (int_ranked (pos e) (pos m) (int_cmp (pos e) (pos m)) refl) h
  where
    by : (r : Ordering) → MatchOrdering r (pos e <ℤ pos m) (◌≡◌ {A = ℤ} (pos e) (pos m))
        (pos m <ℤ pos e) → is_le r ≡ true → e ≤ m
    by Less p h = (let q = lt_from e m p in omega (arith, q))
    by Equal p h = (let q : e ≡ m = (let f = p in cc) in omega (arith, q))
    by Greater p h = absurd (true≢false (sym h))

from_le : (e m : ℕ) → e ≤ m → is_le (int_cmp (pos e) (pos m)) ≡ true
from_le e m h = by (int_cmp (pos e) (pos m))
    (int_ranked (pos e) (pos m) (int_cmp (pos e) (pos m)) refl)
  where
    by : (r : Ordering) → MatchOrdering r (pos e <ℤ pos m) (◌≡◌ {A = ℤ} (pos e) (pos m))
        (pos m <ℤ pos e) → is_le r ≡ true
    by Less p = refl
    by Equal p = refl
    by Greater p = absurd (let q = lt_from m e p in omega (arith, q, h))

due_order : (a b : Row) (x e : ℕ) (k l : List ℕ) → column a 9 ≡ Int (pos x) → column a 1 ≡ Blob k
    → column b 9 ≡ Int (pos e) → column b 1 ≡ Blob l
    → due_row_cmp a b ≡ ordering_then (int_cmp (pos x) (pos e))
    (ordering_then (slice_cmp nat_cmp k l) Equal)
due_order a b x e k l p q r s = rw (p, q, r, s, value_cmp-Int (pos x) (pos e), value_cmp-Blob k l)
    refl

no_gt : (o : Ordering) → is_lt o ≡ false → ordering_reverse o ≡ Greater → ⊥
no_gt Less h e = true≢false h
no_gt Equal h e = cc
no_gt Greater h e = cc

before_from : (x e : ℕ) (k l : List ℕ)
    → is_lt (ordering_then (int_cmp (pos x) (pos e)) (ordering_then (slice_cmp nat_cmp k l) Equal))
    ≡ false → ComesBefore e l x k
before_from x e k l h = by (int_cmp (pos x) (pos e))
    (int_ranked (pos x) (pos e) (int_cmp (pos x) (pos e)) refl) h
  where
    keys : (o : Ordering) → is_lt (ordering_then o Equal) ≡ false → is_lt o ≡ false
    keys Less h = h
    keys Equal h = refl
    keys Greater h = refl

    by : (r : Ordering) → MatchOrdering r (pos x <ℤ pos e) (◌≡◌ {A = ℤ} (pos x) (pos e))
        (pos e <ℤ pos x) → is_lt (ordering_then r (ordering_then (slice_cmp nat_cmp k l) Equal)) ≡
        false → ComesBefore e l x k
    by Less p h = absurd (true≢false h)
    by Equal p h = inr (
      (let q : e ≡ x = (let f = sym p in cc) in q),
      λ g. no_gt (slice_cmp nat_cmp k l) (keys (slice_cmp nat_cmp k l) h)
          (sym (nat_list_cmp_total.antisymm l k) ∙ g),
    )
    by Greater p h = inl (lt_from e x p)

-- ---- the item that is due

-- an item expires before the last moment of an `i64`
in_time : (item : Item) → ItemFits item → expiry item < 2 ^ 63
in_time item fits = let a = fits.touched in let b = fits.minutes in let c = fits.ends in
    grind (arith, a, b, c)

module _ (rows : List Row) (t : ℕ) (own : HaveOwnKeys rows) (all : list_all says_item rows ≡ true)
  where
    abbrev m : ℕ
    m = min t (2 ^ 63 - 1)

    -- the row of an item that is due is due
    row_due : (row : Row) (key : List ℕ) (item : Item) → IsRowOf row key item → expiry item ≤ t
        → is_due (pos m) row ≡ true
    row_due row key item r h = let low = in_time item r.fits in due_int m (expiry item) row r.expires
        ∙ from_le (expiry item) m (grind (arith, low, h))

    pub none_due : LacksDue rows (pos m) → (key : List ℕ) → IsDue (item_in rows) t key → ⊥
    none_due none key d =
        let f = item_row_of rows key d.0 (each_says rows all) d.1 in
        true≢false (sym (row_due f.0 key d.0 f.2 d.2) ∙ none f.0 f.1)

    pub first_due : (out : Row) (key : List ℕ) → FindsDue rows (pos m) (Some out)
        → column out 0 ≡ Blob key → IsFirstDue (item_in rows) t key
    first_due out key f is =
        let named : column f.row 1 ≡ Blob key = sym (ap (λ (r : Row). column r 0) f.shows) ∙ is in
        let hit : key_is key (column f.row 1) ≡ true = subst (λ v. key_is key v ≡ true) (sym named)
        (bytes_eq-refl key) in
        let it = says_is f.row (each_says rows all f.row f.had) in
        let e = expiry (item_with (fields_in f.row)) in
        record {
          item = item_with (fields_in f.row);
          there = the_item rows key f.row own f.had hit;
          expired = let le = le_from e m (sym (due_int m e f.row it.expires) ∙ f.due) in
              grind (arith, le);
          first = λ other second there late.
              let g = item_row_of rows other second (each_says rows all) there in
              let last = f.first g.0 g.1 (row_due g.0 other second g.2 late) in
              before_from (expiry second) e other key
              (sym (ap is_lt (due_order g.0 f.row (expiry second) e other key g.2.expires
              g.2.key_is it.expires named)) ∙ last);
        }

pub due_told : (rows : List Row) (t : ℕ) (row : Option Row) (key : Option (List ℕ))
    → HaveOwnKeys rows → FindsDue rows (pos (min t (2 ^ 63 - 1))) row → ReadsKey row key
    → TellsDue (told_rows rows) t key
due_told rows t row key own f s = by_all (list_all says_item rows) refl
  where
    by_key : (row : Option Row) (key : Option (List ℕ)) → list_all says_item rows ≡ true
        → FindsDue rows (pos (min t (2 ^ 63 - 1))) row → ReadsKey row key
        → TellsDue (Some (item_in rows)) t key
    by_key None None all f s = none_due rows t own all f
    by_key None (Some key) all f s = absurd s
    by_key (Some out) None all f s = absurd s
    by_key (Some out) (Some key) all f s = first_due rows t own all out key f s.1

    by_all : (b : Bool) → list_all says_item rows ≡ b
        → TellsDue (cond b (Some (item_in rows)) None) t key
    by_all true all = by_key row key all f s
    by_all false all = tt
