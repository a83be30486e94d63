-- A row says a key and an item exactly where the test says so.
use Rattle.std.proofs.Common.{◌≡◌, ℕ, ℤ, pos, negsuc, ◌<◌, ◌≤◌, ◌^◌, List, length, Bool, true, false, Some, None, Option, refl, sym, ap, subst, ◌∙◌, arith, true≢false}
use Rattle.std.specs.Prelude.{◌==◌, ◌&&◌, nat_lt, nat_le, IfSome}
use Rattle.std.proofs.lemmas.Bool.{and_parts}
use Rattle.std.proofs.lemmas.Bool.Decides.{nat_tests}
use Rattle.std.proofs.lemmas.Slice.Eq.{bytes_eq-Decides}
use Rattle.sqlite_value.specs.declared.value.Value.{Value}
use Rattle.sqlite_value.specs.declared.value.Value.TheVariants.{Null, Int, Real, Text, Blob}
use Rattle.sqlite_value.specs.Order.{Row, bytes, column}
use Rattle.sqlite_rules.specs.Edit.{id_in}
use Rattle.sqlite_rules.proofs.TableLemmas.{int_is}
use Rattle.sqlite_rows.specs.Puts.{Fields}
use Rattle.asp_messages.specs.Ranges.{KeyFits}
use Rattle.session_machine.specs.declared.item.Hold.{Hold}
use Rattle.session_machine.specs.declared.item.Item.{Item}
use Rattle.session_machine.specs.Liveness.{ItemFits}
use Rattle.sqlite_keeper.specs.Told.{IsRowOf, all_fit, are_same_fields, fields_in, fields_of, is_blob, is_formed, is_same_int, item_with, lock_fits, lock_in, says_item}
use Rattle.sqlite_keeper.specs.Rows.{cookie_of, flag_number, since_of}

-- ---- tests

lt_of : (a b : ℕ) → nat_lt a b ≡ true → a < b
lt_of a b h = grind (arith, nat_tests)

le_of : (a b : ℕ) → nat_le a b ≡ true → a ≤ b
le_of a b h = grind (arith, nat_tests)

of_lt : (a b : ℕ) → a < b → nat_lt a b ≡ true
of_lt a b h = grind (arith, nat_tests)

of_le : (a b : ℕ) → a ≤ b → nat_le a b ≡ true
of_le a b h = grind (arith, nat_tests)

eq_of : (a b : ℕ) → (a == b) ≡ true → a ≡ b
eq_of a b h = grind (arith, nat_tests)

of_eq : (a : ℕ) → (a == a) ≡ true
of_eq a = grind (arith, nat_tests)

not_zero : (a : ℕ) → 0 < a → (a == 0) ≡ false
not_zero a h = grind (arith, nat_tests)

same_int-is : (a b : ℤ) → is_same_int a b ≡ true → a ≡ b
same_int-is (pos m) (pos n) h = ap pos (eq_of m n h)
same_int-is (pos m) (negsuc n) h = absurd (true≢false (sym h))
same_int-is (negsuc m) (pos n) h = absurd (true≢false (sym h))
same_int-is (negsuc m) (negsuc n) h = ap negsuc (eq_of m n h)

same_int-refl : (a : ℤ) → is_same_int a a ≡ true
same_int-refl (pos m) = of_eq m
same_int-refl (negsuc m) = of_eq m

same_fields-is : (a b : Fields) → are_same_fields a b ≡ true → a ≡ b
same_fields-is a b h =
    let p = and_parts _ _ h in
    let p1 = and_parts _ _ p.1 in
    let p2 = and_parts _ _ p1.1 in
    let p3 = and_parts _ _ p2.1 in
    let p4 = and_parts _ _ p3.1 in
    let p5 = and_parts _ _ p4.1 in
    let p6 = and_parts _ _ p5.1 in
    let body = (bytes_eq-Decides a.body b.body).0 p.0 in
    let minutes = same_int-is a.minutes b.minutes p1.0 in
    let fresh = same_int-is a.fresh b.fresh p2.0 in
    let cookie = same_int-is a.cookie b.cookie p3.0 in
    let since = same_int-is a.since b.since p4.0 in
    let touched = same_int-is a.touched b.touched p5.0 in
    let ends = same_int-is a.ends b.ends p6.0 in
    let expiry = same_int-is a.expiry b.expiry p6.1 in
    λ i. record {
      body = body i;
      minutes = minutes i;
      fresh = fresh i;
      cookie = cookie i;
      since = since i;
      touched = touched i;
      ends = ends i;
      expiry = expiry i;
    }

same_fields-refl : (a : Fields) → are_same_fields a a ≡ true
same_fields-refl a = rw (
  (bytes_eq-Decides a.body a.body).1 refl,
  same_int-refl a.minutes,
  same_int-refl a.fresh,
  same_int-refl a.cookie,
  same_int-refl a.since,
  same_int-refl a.touched,
  same_int-refl a.ends,
  same_int-refl a.expiry,
) refl

blob_is : (v : Value) → is_blob v ≡ true → v ≡ Blob (bytes v)
blob_is Null h = absurd (true≢false (sym h))
blob_is (Int n) h = absurd (true≢false (sym h))
blob_is (Real x) h = absurd (true≢false (sym h))
blob_is (Text t) h = absurd (true≢false (sym h))
blob_is (Blob b) h = refl

lock_is : (h : Option Hold) → lock_fits h ≡ true
    → IfSome h (λ x. (0 < x.cookie) × (x.cookie < 2 ^ 63)) × IfSome h (λ x. x.since ≤ 2 ^ 62)
lock_is None e = (tt, tt)
lock_is (Some h) e =
    let p = and_parts _ _ e in
    let q = and_parts _ _ p.1 in
    ((lt_of 0 h.cookie p.0, lt_of h.cookie (2 ^ 63) q.0), le_of h.since (2 ^ 62) q.1)

of_lock : (h : Option Hold) → IfSome h (λ x. (0 < x.cookie) × (x.cookie < 2 ^ 63))
    → IfSome h (λ x. x.since ≤ 2 ^ 62) → lock_fits h ≡ true
of_lock None f s = refl
of_lock (Some h) f s =
    rw (of_lt 0 h.cookie f.0, of_lt h.cookie (2 ^ 63) f.1, of_le h.since (2 ^ 62) s) refl

fits_is : (key : List ℕ) (item : Item) → all_fit key item ≡ true → KeyFits key × ItemFits item
fits_is key item h =
    let a = and_parts _ _ h in
    let k = and_parts _ _ a.0 in
    let b = and_parts _ _ a.1 in
    let c = and_parts _ _ b.0 in
    let d = and_parts _ _ c.1 in
    let e = and_parts _ _ d.1 in
    let f = and_parts _ _ e.1 in
    let lock = lock_is item.holder b.1 in (
      (lt_of 0 (length key) k.0, le_of (length key) 1024 k.1),
      record {
        body = le_of (length item.body) 4194304 c.0;
        some_minutes = lt_of 0 item.minutes d.0;
        minutes = le_of item.minutes 525600 e.0;
        touched = le_of item.touched (2 ^ 62) f.0;
        ends = lt_of item.ends (2 ^ 63) f.1;
        cookie = lock.0;
        since = lock.1;
      },
    )

of_fits : (key : List ℕ) (item : Item) → KeyFits key → ItemFits item → all_fit key item ≡ true
of_fits key item k f = rw (
  of_lt 0 (length key) k.0,
  of_le (length key) 1024 k.1,
  of_le (length item.body) 4194304 f.body,
  of_lt 0 item.minutes f.some_minutes,
  of_le item.minutes 525600 f.minutes,
  of_le item.touched (2 ^ 62) f.touched,
  of_lt item.ends (2 ^ 63) f.ends,
  of_lock item.holder f.cookie f.since,
) refl

-- ---- an item and its row

lock_back : (h : Option Hold) → IfSome h (λ x. (0 < x.cookie) × (x.cookie < 2 ^ 63))
    → lock_in (cookie_of h) (since_of h) ≡ h
lock_back None f = refl
lock_back (Some h) f = rw (not_zero h.cookie f.0) refl

flag_back : (b : Bool) → (flag_number b == 1) ≡ b
flag_back true = refl
flag_back false = refl

pub item_back : (item : Item) → ItemFits item → item_with (fields_of item) ≡ item
item_back item fits =
    let fresh = flag_back item.fresh in
    let holder = lock_back item.holder fits.cookie in
    λ i. record item { fresh = fresh i; holder = holder i }

pub says_is : (row : Row) → says_item row ≡ true
    → IsRowOf row (bytes (column row 1)) (item_with (fields_in row))
says_is row h =
    let a = and_parts _ _ h in
    let b = and_parts _ _ a.1 in
    let same = same_fields-is (fields_in row) (fields_of (item_with (fields_in row))) b.0 in
    let fit = fits_is (bytes (column row 1)) (item_with (fields_in row)) b.1 in
    let f1 = and_parts _ _ a.0 in
    let f2 = and_parts _ _ f1.1 in
    let f3 = and_parts _ _ f2.1 in
    let f4 = and_parts _ _ f3.1 in
    let f5 = and_parts _ _ f4.1 in
    let f6 = and_parts _ _ f5.1 in
    let f7 = and_parts _ _ f6.1 in
    let f8 = and_parts _ _ f7.1 in
    record {
      key_fits = fit.0;
      fits = fit.1;
      key_is = blob_is (column row 1) f1.0;
      body = blob_is (column row 2) f2.0;
      minutes = int_is (column row 3) f3.0 ∙ ap (λ (t : Fields). Int t.minutes) same;
      fresh = int_is (column row 4) f4.0 ∙ ap (λ (t : Fields). Int t.fresh) same;
      cookie = int_is (column row 5) f5.0 ∙ ap (λ (t : Fields). Int t.cookie) same;
      since = int_is (column row 6) f6.0 ∙ ap (λ (t : Fields). Int t.since) same;
      touched = int_is (column row 7) f7.0 ∙ ap (λ (t : Fields). Int t.touched) same;
      ends = int_is (column row 8) f8.0 ∙ ap (λ (t : Fields). Int t.ends) same;
      expires = int_is (column row 9) f8.1 ∙ ap (λ (t : Fields). Int t.expiry) same;
    }

told_is : (row : Row) (key : List ℕ) (item : Item) → IsRowOf row key item
    → fields_in row ≡ fields_of item
told_is row key item r =
    let body = ap bytes r.body in
    let minutes = ap id_in r.minutes in
    let fresh = ap id_in r.fresh in
    let cookie = ap id_in r.cookie in
    let since = ap id_in r.since in
    let touched = ap id_in r.touched in
    let ends = ap id_in r.ends in
    let expiry = ap id_in r.expires in
    λ i. record {
      body = body i;
      minutes = minutes i;
      fresh = fresh i;
      cookie = cookie i;
      since = since i;
      touched = touched i;
      ends = ends i;
      expiry = expiry i;
    }

pub item_is : (row : Row) (key : List ℕ) (item : Item) → IsRowOf row key item
    → item_with (fields_in row) ≡ item
item_is row key item r = ap item_with (told_is row key item r) ∙ item_back item r.fits

formed : (row : Row) (key : List ℕ) (item : Item) → IsRowOf row key item → is_formed row ≡ true
formed row key item r = rw (
  r.key_is,
  r.body,
  r.minutes,
  r.fresh,
  r.cookie,
  r.since,
  r.touched,
  r.ends,
  r.expires,
) refl

three : (a b c : Bool) → a ≡ true → b ≡ true → c ≡ true → (a && (b && c)) ≡ true
three a b c p q r = rw (p, q, r) refl

pub of_says : (row : Row) (key : List ℕ) (item : Item) → IsRowOf row key item → says_item row ≡ true
of_says row key item r =
    let same : fields_in row ≡ fields_of (item_with (fields_in row)) = told_is row key item r
    ∙ ap fields_of (sym (item_is row key item r)) in
    let name : bytes (column row 1) ≡ key = ap bytes r.key_is in
    three _ _ _ (formed row key item r)
    (subst (λ t. are_same_fields (fields_in row) t ≡ true) same (same_fields-refl (fields_in row)))
    (subst (λ k. all_fit k (item_with (fields_in row)) ≡ true) (sym name)
    (subst (λ x. all_fit key x ≡ true) (sym (item_is row key item r))
    (of_fits key item r.key_fits r.fits)))
