-- A list of pairs as a map: what a change of the list does to it.
use Rattle.std.proofs.Common.{◌≡◌, ◌≢◌, ℕ, zero, suc, ◌+◌, ◌<◌, Bool, true, false, cond, List, [], ◌∷◌, ◌++◌, length, get_or, set, drop, Some, None, refl, sym, ap, ◌∙◌, arith, subst}
use Rattle.std.specs.Prelude.{not, filter}
use Rattle.std.specs.Str.{bytes_eq}
use Rattle.std.proofs.lemmas.Slice.Eq.{bytes_eq-Decides}
use Rattle.std.proofs.lemmas.List.{at_drop_more}
use Rattle.session_machine.specs.declared.item.Item.{Item}
use Rattle.keeper.specs.Items.{Sets}
use Rattle.keeper.specs.Pairs.{item_at, IsPlaceOf}

pub bytes_eq-refl : (k : List ℕ) → bytes_eq k k ≡ true
bytes_eq-refl k = (bytes_eq-Decides k k).1 refl

pub bytes_eq-same : (a b : List ℕ) → bytes_eq a b ≡ true → a ≡ b
bytes_eq-same a b h = (bytes_eq-Decides a b).0 h

both_cannot : (b : Bool) → b ≡ true → b ≡ false → ⊥
both_cannot b p q = cc

false_if_not : (b : Bool) → (b ≡ true → ⊥) → b ≡ false
false_if_not true h = absurd (h refl)
false_if_not false h = refl

pub bytes_eq-apart : (a b : List ℕ) → a ≢ b → bytes_eq b a ≡ false
bytes_eq-apart a b apart = false_if_not (bytes_eq b a)
    (λ same. apart (sym (bytes_eq-same b a same)))

pub bytes_eq-symm-false : (a b : List ℕ) → bytes_eq a b ≡ false → bytes_eq b a ≡ false
bytes_eq-symm-false a b h = false_if_not (bytes_eq b a) (λ same.
    let e = bytes_eq-same b a same in
    both_cannot (bytes_eq a b) ((bytes_eq-Decides a b).1 (sym e)) h)

-- ---- the place of a key

pub place_here : (pairs : List (List ℕ × Item)) (key : List ℕ) (i : ℕ) (d : List ℕ × Item)
    → i < length pairs → bytes_eq key (get_or pairs i d).0 ≡ true
    → IsPlaceOf (drop i pairs) key 0
place_here pairs key i d below same = subst (λ t. IsPlaceOf t key 0)
    (sym (at_drop_more (λ t. t) pairs i d below)) same

pub place_later : (pairs : List (List ℕ × Item)) (key : List ℕ) (i : ℕ) (d : List ℕ × Item) (n : ℕ)
    → i < length pairs → bytes_eq key (get_or pairs i d).0 ≡ false
    → IsPlaceOf (drop (i + 1) pairs) key n → IsPlaceOf (drop i pairs) key (suc n)
place_later pairs key i d n below other later =
    subst (λ t. IsPlaceOf t key (suc n)) (sym (at_drop_more (λ t. t) pairs i d below))
    (other, later)

pub item_at-later : (pairs : List (List ℕ × Item)) (key : List ℕ) (i : ℕ) (d : List ℕ × Item)
    → i < length pairs → bytes_eq key (get_or pairs i d).0 ≡ false
    → item_at (drop i pairs) key ≡ item_at (drop (i + 1) pairs) key
item_at-later pairs key i d below other =
    at_drop_more (λ t. item_at t key) pairs i d below
    ∙ ap (λ b. cond b (Some (get_or pairs i d).1) (item_at (drop (i + 1) pairs) key)) other

pub place-lt : (pairs : List (List ℕ × Item)) (key : List ℕ) (n : ℕ) → IsPlaceOf pairs key n
    → n < length pairs
place-lt [] key n p = absurd p
place-lt (pair ∷ pairs) key zero p = omega arith
place-lt (pair ∷ pairs) key (suc n) p = omega (arith, place-lt pairs key n p.1)

-- ---- a pair with another item

abbrev pub with_item : List ℕ × Item → Item → List ℕ × Item
with_item old item = (old.0, item)

put_same : (pairs : List (List ℕ × Item)) (key : List ℕ) (n : ℕ) (old : List ℕ × Item) (item : Item)
    → IsPlaceOf pairs key n → old ≡ get_or pairs n old
    → item_at (set pairs n (with_item old item)) key ≡ Some item
put_same [] key n old item p is = absurd p
put_same (r ∷ pairs) key zero old item p is =
    ap (λ b. cond b (Some item) (item_at pairs key))
    (ap (λ (w : List ℕ × Item). bytes_eq key w.0) is ∙ p)
put_same (r ∷ pairs) key (suc n) old item p is =
    ap (λ b. cond b (Some r.1) (item_at (set pairs n (with_item old item)) key)) p.0
    ∙ put_same pairs key n old item p.1 is

put_other : (pairs : List (List ℕ × Item)) (key other : List ℕ) (n : ℕ) (old : List ℕ × Item)
    (item : Item) → IsPlaceOf pairs key n → bytes_eq other key ≡ false
    → old ≡ get_or pairs n old → item_at (set pairs n (with_item old item)) other
    ≡ item_at pairs other
put_other [] key other n old item p diff is = absurd p
put_other (r ∷ pairs) key other zero old item p diff is =
    let no_match : bytes_eq other r.0 ≡ false = ap (bytes_eq other) (sym (bytes_eq-same key r.0 p))
    ∙ diff in
    ap (λ b. cond b (Some item) (item_at pairs other))
    (ap (λ (w : List ℕ × Item). bytes_eq other w.0) is ∙ no_match)
    ∙ sym (ap (λ b. cond b (Some r.1) (item_at pairs other)) no_match)
put_other (r ∷ pairs) key other (suc n) old item p diff is =
    ap (λ t. cond (bytes_eq other r.0) (Some r.1) t)
    (put_other pairs key other n old item p.1 diff is)

pub Sets-put : (pairs : List (List ℕ × Item)) (key : List ℕ) (n : ℕ) (old : List ℕ × Item)
    (item : Item) → IsPlaceOf pairs key n → old ≡ get_or pairs n old
    → Sets (item_at pairs) (item_at (set pairs n (with_item old item))) key (Some item)
Sets-put pairs key n old item p is = record {
  same = put_same pairs key n old item p is;
  others = λ other diff. put_other pairs key other n old item p diff is;
}

-- ---- a pair more

push_same : (pairs : List (List ℕ × Item)) (pair : List ℕ × Item) → item_at pairs pair.0 ≡ None
    → item_at (pairs ++ pair ∷ []) pair.0 ≡ Some pair.1
push_same [] pair none = ap (λ b. cond b (Some pair.1) None) (bytes_eq-refl pair.0)
push_same (r ∷ pairs) pair none = by_test (bytes_eq pair.0 r.0) (push_same pairs pair) none
  where
    by_test : (b : Bool) → (item_at pairs pair.0 ≡ None
        → item_at (pairs ++ pair ∷ []) pair.0 ≡ Some pair.1)
        → cond b (Some r.1) (item_at pairs pair.0) ≡ None
        → cond b (Some r.1) (item_at (pairs ++ pair ∷ []) pair.0) ≡ Some pair.1
    by_test true later h = cc
    by_test false later h = later h

push_other : (pairs : List (List ℕ × Item)) (pair : List ℕ × Item) (other : List ℕ)
    → bytes_eq other pair.0 ≡ false → item_at (pairs ++ pair ∷ []) other ≡ item_at pairs other
push_other [] pair other diff = ap (λ b. cond b (Some pair.1) None) diff
push_other (r ∷ pairs) pair other diff = ap (λ t. cond (bytes_eq other r.0) (Some r.1) t)
    (push_other pairs pair other diff)

pub Sets-push : (pairs : List (List ℕ × Item)) (pair : List ℕ × Item) → item_at pairs pair.0 ≡ None
    → Sets (item_at pairs) (item_at (pairs ++ pair ∷ [])) pair.0 (Some pair.1)
Sets-push pairs pair none = record {
  same = push_same pairs pair none;
  others =
      λ other diff. push_other pairs pair other diff;
}

-- ---- the pairs of all other keys

abbrev is_other : List ℕ → List ℕ × Item → Bool
is_other key pair = not (bytes_eq pair.0 key)

cut_same : (pairs : List (List ℕ × Item)) (key : List ℕ)
    → item_at (filter (λ pair. not (bytes_eq pair.0 key)) pairs) key ≡ None
cut_same [] key = refl
cut_same (r ∷ pairs) key = by_test (bytes_eq r.0 key) refl (cut_same pairs key)
  where
    by_test : (b : Bool) → bytes_eq r.0 key ≡ b
        → item_at (filter (λ pair. not (bytes_eq pair.0 key)) pairs) key ≡ None
        → item_at (cond (not b) (r ∷ filter (λ pair. not (bytes_eq pair.0 key)) pairs)
        (filter (λ pair. not (bytes_eq pair.0 key)) pairs)) key ≡ None
    by_test true e later = later
    by_test false e later = ap (λ b. cond b (Some r.1)
        (item_at (filter (λ pair. not (bytes_eq pair.0 key)) pairs) key))
        (bytes_eq-symm-false r.0 key e) ∙ later

cut_other : (pairs : List (List ℕ × Item)) (key other : List ℕ) → bytes_eq other key ≡ false
    → item_at (filter (λ pair. not (bytes_eq pair.0 key)) pairs) other ≡ item_at pairs other
cut_other [] key other diff = refl
cut_other (r ∷ pairs) key other diff = by_test (bytes_eq r.0 key) refl
    (cut_other pairs key other diff)
  where
    by_test : (b : Bool) → bytes_eq r.0 key ≡ b
        → item_at (filter (λ pair. not (bytes_eq pair.0 key)) pairs) other ≡ item_at pairs other
        → item_at (cond (not b) (r ∷ filter (λ pair. not (bytes_eq pair.0 key)) pairs)
        (filter (λ pair. not (bytes_eq pair.0 key)) pairs)) other
        ≡ cond (bytes_eq other r.0) (Some r.1) (item_at pairs other)
    by_test true e later =
        let no_match : bytes_eq other r.0 ≡ false = ap (bytes_eq other) (bytes_eq-same r.0 key e)
        ∙ diff in
        later ∙ sym (ap (λ b. cond b (Some r.1) (item_at pairs other)) no_match)
    by_test false e later = ap (λ t. cond (bytes_eq other r.0) (Some r.1) t) later

pub Sets-cut : (pairs : List (List ℕ × Item)) (key : List ℕ)
    → Sets (item_at pairs) (item_at (filter (λ pair. not (bytes_eq pair.0 key)) pairs)) key None
Sets-cut pairs key = record {
  same = cut_same pairs key;
  others =
      λ other diff. cut_other pairs key other diff;
}
