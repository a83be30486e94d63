-- A list of pairs stays a map.
use Rattle.std.proofs.Common.{◌≡◌, ◌≢◌, ℕ, zero, suc, ◌<◌, Bool, true, false, cond, List, [], ◌∷◌, ◌++◌, length, get_or, set, Some, None, Option, refl, sym, ap, ◌∙◌, arith, subst}
use Rattle.std.specs.Prelude.{filter, All, IfSome}
use Rattle.std.specs.Str.{bytes_eq}
use Rattle.std.proofs.lemmas.Slice.Eq.{bytes_eq-Decides}
use Rattle.std.proofs.lemmas.List.Elements.{All-get_or, All-head, All-tail, All-set, All-push, All-filter}
use Rattle.std.proofs.lemmas.List.Kept.{AllPairs-filter}
use Rattle.std.proofs.lemmas.List.Quantifiers.{all_pairs_push}
use Rattle.std.proofs.Math.ListN.{length-set}
use Rattle.asp_messages.specs.Ranges.{KeyFits}
use Rattle.session_machine.specs.declared.item.Item.{Item}
use Rattle.session_machine.specs.Liveness.{ItemFits}
use Rattle.keeper.specs.Pairs.{item_at, IsMap, IsPlaceOf}
use Rattle.keeper.proofs.PairLemmas.{place-lt, with_item}

abbrev KeyIn : List ℕ × Item → Type 0
KeyIn pair = KeyFits pair.0

abbrev ItemIn : List ℕ × Item → Type 0
ItemIn pair = ItemFits pair.1

key_at-set : (pairs : List (List ℕ × Item)) (n k : ℕ) (old d : List ℕ × Item) (item : Item)
    → old ≡ get_or pairs n old
    → (get_or (set pairs n (with_item old item)) k d).0 ≡ (get_or pairs k d).0
key_at-set [] n k old d item is = refl
key_at-set (p ∷ pairs) zero zero old d item is = ap (λ (w : List ℕ × Item). w.0) is
key_at-set (p ∷ pairs) zero (suc k) old d item is = refl
key_at-set (p ∷ pairs) (suc n) zero old d item is = refl
key_at-set (p ∷ pairs) (suc n) (suc k) old d item is = key_at-set pairs n k old d item is

pub IsMap-put : (pairs : List (List ℕ × Item)) (key : List ℕ) (n : ℕ) (old : List ℕ × Item)
    (item : Item) → IsPlaceOf pairs key n → old ≡ get_or pairs n old
    → IsMap pairs → ItemFits item → IsMap (set pairs n (with_item old item))
IsMap-put pairs key n old item place is map fits = record {
  keys = All-set KeyIn pairs n (with_item old item)
      (subst KeyIn (sym is) (All-get_or KeyIn pairs n old (place-lt pairs key n place) map.keys))
      map.keys;
  items = All-set ItemIn pairs n (with_item old item) fits map.items;
  once = λ i j d before within same.
      let below : j < length pairs = omega (
        arith,
        length-set pairs n (with_item old item),
        within,
      ) in
      map.once i j d before below (sym (key_at-set pairs n i old d item is) ∙ same
      ∙ key_at-set pairs n j old d item is);
}

some_is_no_none : (b : Bool) (item : Item) (rest : Option Item) → b ≡ true
    → cond b (Some item) rest ≡ None → ⊥
some_is_no_none true item rest e h = cc
some_is_no_none false item rest e h = cc

rest_none : (b : Bool) (item : Item) (rest : Option Item) → cond b (Some item) rest ≡ None
    → rest ≡ None
rest_none true item rest h = absurd (some_is_no_none true item rest refl h)
rest_none false item rest h = h

no_key : (pairs : List (List ℕ × Item)) (key : List ℕ) → item_at pairs key ≡ None
    → (k : ℕ) (d : List ℕ × Item) → k < length pairs → (get_or pairs k d).0 ≢ key
no_key [] key none k d below same = absurd (omega (arith, below))
no_key (p ∷ pairs) key none zero d below same =
    some_is_no_none (bytes_eq key p.0) p.1 (item_at pairs key)
    ((bytes_eq-Decides key p.0).1 (sym same)) none
no_key (p ∷ pairs) key none (suc k) d below same =
    no_key pairs key (rest_none (bytes_eq key p.0) p.1 (item_at pairs key) none) k d
    (omega (arith, below)) same

pub IsMap-push : (pairs : List (List ℕ × Item)) (pair : List ℕ × Item) → item_at pairs pair.0 ≡ None
    → IsMap pairs → KeyFits pair.0 → ItemFits pair.1
    → IsMap (pairs ++ pair ∷ [])
IsMap-push pairs pair none map key item = record {
  keys = All-push KeyIn pairs pair map.keys key;
  items = All-push ItemIn pairs pair map.items item;
  once = all_pairs_push (λ (a b : List ℕ × Item). a.0 ≢ b.0) pairs pair map.once
      (no_key pairs pair.0 none);
}

pub IsMap-filter : (pairs : List (List ℕ × Item)) (keeps : List ℕ × Item → Bool) → IsMap pairs
    → IsMap (filter keeps pairs)
IsMap-filter pairs keeps map = record {
  keys = All-filter keeps KeyIn pairs map.keys;
  items = All-filter keeps ItemIn pairs map.items;
  once = AllPairs-filter (λ (a b : List ℕ × Item). a.0 ≢ b.0) keeps pairs map.once;
}

item_fits : (pairs : List (List ℕ × Item)) (key : List ℕ) → All ItemIn pairs
    → IfSome (item_at pairs key) ItemFits
item_fits [] key fit = tt
item_fits (p ∷ pairs) key fit = by_test (bytes_eq key p.0)
    (item_fits pairs key (All-tail ItemIn p pairs fit))
  where
    by_test : (b : Bool) → IfSome (item_at pairs key) ItemFits
        → IfSome (cond b (Some p.1) (item_at pairs key)) ItemFits
    by_test true rest = All-head ItemIn p pairs fit
    by_test false rest = rest

pub item_at-fits : (pairs : List (List ℕ × Item)) (key : List ℕ) → IsMap pairs
    → IfSome (item_at pairs key) ItemFits
item_at-fits pairs key map = item_fits pairs key map.items
