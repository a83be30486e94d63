-- The pair that is due, as a list grows by one.
use Rattle.std.proofs.Common.{◌≡◌, ◌≢◌, ℕ, zero, suc, ◌<◌, ◌≤◌, Bool, true, false, cond, List, [], ◌∷◌, ◌++◌, length, get_or, take, Some, None, Option, refl, sym, ap, ◌∙◌, arith, inl, inr}
use Rattle.std.specs.Prelude.{AllPairs, Contains, IsTrue, IfSome, ◌↔◌}
use Rattle.std.specs.Str.{bytes_eq}
use Rattle.std.specs.Ordering.{nat_cmp, is_gt, ordering_reverse}
use Rattle.std.specs.Cmp.Lexicographic.{slice_cmp}
use Rattle.std.specs.declared.cmp.Ordering.{Ordering}
use Rattle.std.specs.declared.cmp.Ordering.TheVariants.{Less, Equal, Greater}
use Rattle.std.proofs.lemmas.Cmp.{nat_list_cmp_total, upto, tied_itself}
use Rattle.std.proofs.lemmas.List.Elements.{All-push, All-take, All-weaker, All-contains, Contains-push, Contains-append_right}
use Rattle.std.proofs.lemmas.Bool.{cases_eq}
use Rattle.std.proofs.lemmas.Bool.Decides.{nat_tests}
use Rattle.session_machine.specs.declared.item.Item.{Item}
use Rattle.session_machine.specs.Liveness.{ItemFits, expiry, is_live}
use Rattle.keeper.specs.Due.{ComesBefore, TellsDue}
use Rattle.keeper.specs.Pairs.{item_at, IsMap, IsFirstPair, IsFirstOf}
use Rattle.keeper.proofs.PairLemmas.{bytes_eq-apart, bytes_eq-refl, bytes_eq-same}

-- ---- the order

not_greater : (r : Ordering) → r ≢ Greater → is_gt r ≡ false
not_greater Less h = refl
not_greater Equal h = refl
not_greater Greater h = absurd (h refl)

pub greater_not : (r : Ordering) → is_gt r ≡ false → r ≢ Greater
greater_not r h e = absurd (no_gt r h e)
  where
    no_gt : (r : Ordering) → is_gt r ≡ false → r ≡ Greater → ⊥
    no_gt Less h e = cc
    no_gt Equal h e = cc
    no_gt Greater h e = cc

less_greater : Less ≡ Greater → ⊥
less_greater p = cc

equal_greater : Equal ≡ Greater → ⊥
equal_greater p = cc

back : (a b : List ℕ) → slice_cmp nat_cmp a b ≡ Greater → slice_cmp nat_cmp b a ≢ Greater
back a b h e = less_greater (sym (nat_list_cmp_total.antisymm b a ∙ ap ordering_reverse h) ∙ e)

key_trans : (a b c : List ℕ) → slice_cmp nat_cmp a b ≢ Greater → slice_cmp nat_cmp b c ≢ Greater
    → slice_cmp nat_cmp a c ≢ Greater
key_trans a b c p q = greater_not _ (upto nat_list_cmp_total a b c (not_greater _ p)
    (not_greater _ q))

pub ComesBefore-trans : (m : ℕ) (a : List ℕ) (n : ℕ) (b : List ℕ) (o : ℕ) (c : List ℕ)
    → ComesBefore m a n b → ComesBefore n b o c → ComesBefore m a o c
ComesBefore-trans m a n b o c (inl p) (inl q) = inl (omega arith)
ComesBefore-trans m a n b o c (inl p) (inr q) = inl (omega arith)
ComesBefore-trans m a n b o c (inr p) (inl q) = inl (omega arith)
ComesBefore-trans m a n b o c (inr p) (inr q) = inr (p.0 ∙ q.0, key_trans a b c p.1 q.1)

no_less : (m n : ℕ) (b a : List ℕ) → (m < n → ⊥) → slice_cmp nat_cmp b a ≢ Greater
    → ComesBefore n b m a
no_less m n b a not_below key = elim (cases_eq n m)
    [ inl same ↦ inr (same, key) | inr apart ↦ inl (omega arith) ]

less : (m n : ℕ) → (m < n → ⊥) → m ≢ n → n < m
less m n not_below apart = omega arith

-- of two, the one comes before the other, or the other before the one
pub ComesBefore-total : (m : ℕ) (a : List ℕ) (n : ℕ) (b : List ℕ) → (ComesBefore m a n b → ⊥)
    → ComesBefore n b m a
ComesBefore-total m a n b h = by_key (slice_cmp nat_cmp a b) refl
  where
    by_key : (r : Ordering) → slice_cmp nat_cmp a b ≡ r → ComesBefore n b m a
    by_key Less e = inl (less m n (λ below. h (inl below))
        (λ same. h (inr (same, λ g. less_greater (sym e ∙ g)))))
    by_key Equal e = inl (less m n (λ below. h (inl below))
        (λ same. h (inr (same, λ g. equal_greater (sym e ∙ g)))))
    by_key Greater e = no_less m n b a (λ below. h (inl below)) (back a b e)

ComesBefore-refl : (m : ℕ) (a : List ℕ) → ComesBefore m a m a
ComesBefore-refl m a = inr (refl, λ e. equal_greater (sym (tied_itself nat_list_cmp_total a) ∙ e))

-- ---- one pair more

abbrev FirstBefore : ℕ → List ℕ × Item → List ℕ × Item → Type 0
FirstBefore t pair other = expiry other.1 ≤ t
    → ComesBefore (expiry pair.1) pair.0 (expiry other.1) other.0

pub IsFirstPair-none : (pairs : List (List ℕ × Item)) (t : ℕ) (pair : List ℕ × Item)
    → IsFirstOf pairs t None → expiry pair.1 ≤ t → IsFirstPair (pairs ++ pair ∷ []) t pair
IsFirstPair-none pairs t pair live expired = record {
  there = Contains-push pairs pair;
  expired = expired;
  first = All-push (FirstBefore t pair) pairs pair
      (All-weaker (λ other. t < expiry other.1) (FirstBefore t pair)
      (λ other above due. absurd (omega arith)) pairs live)
      (λ due. ComesBefore-refl (expiry pair.1) pair.0);
}

pub IsFirstPair-new : (pairs : List (List ℕ × Item)) (t : ℕ) (best pair : List ℕ × Item)
    → IsFirstPair pairs t best → expiry pair.1 ≤ t
    → (ComesBefore (expiry best.1) best.0 (expiry pair.1) pair.0 → ⊥)
    → IsFirstPair (pairs ++ pair ∷ []) t pair
IsFirstPair-new pairs t best pair was expired after =
    let before = ComesBefore-total (expiry best.1) best.0 (expiry pair.1) pair.0 after in
    record {
      there = Contains-push pairs pair;
      expired = expired;
      first = All-push (FirstBefore t pair) pairs pair
          (All-weaker (FirstBefore t best) (FirstBefore t pair)
          (λ other first due. ComesBefore-trans (expiry pair.1) pair.0 (expiry best.1) best.0
          (expiry other.1) other.0 before (first due)) pairs was.first)
          (λ due. ComesBefore-refl (expiry pair.1) pair.0);
    }

abbrev ItemIn : List ℕ × Item → Type 0
ItemIn pair = ItemFits pair.1

pub IsFirstOf-fits : (pairs : List (List ℕ × Item)) (n t : ℕ) (first : Option (List ℕ × Item))
    → IsMap pairs → IsFirstOf (take n pairs) t first → IfSome first ItemIn
IsFirstOf-fits pairs n t None map is = tt
IsFirstOf-fits pairs n t (Some best) map is =
    All-contains ItemIn (take n pairs) best (All-take ItemIn n pairs map.items) is.there

pub expired_if : (item : Item) (t : ℕ) → false ≡ is_live item t → expiry item ≤ t
expired_if item t dead = grind (arith, nat_tests)

pub not_by_test : {P : Type 0} (b : Bool) → (IsTrue b ↔ P) → b ≡ false → P → ⊥
not_by_test b says fails p = true_false b (says.1 p) fails
  where
    true_false : (b : Bool) → IsTrue b → b ≡ false → ⊥
    true_false true h e = cc
    true_false false h e = cc

-- ---- what is due, told of the map

same_pair : (p : List ℕ × Item) (key : List ℕ) (item : Item) → key ≡ p.0 → Some p.1 ≡ Some item
    → p ≡ (key, item)
same_pair p key item a b =
    let e : p.1 ≡ item = cc in
    let first : p ≡ (key, p.1) = ap (λ (k : List ℕ). (k, p.1)) (sym a) in
    first ∙ ap (λ (i : Item). (key, i)) e

item_there : (pairs : List (List ℕ × Item)) (key : List ℕ) (item : Item)
    → item_at pairs key ≡ Some item → Contains pairs (key, item)
item_there [] key item h = absurd (none_some h)
  where
    none_some : None ≡ Some item → ⊥
    none_some p = cc
item_there (p ∷ pairs) key item h = by_test (bytes_eq key p.0) refl
    (λ later. Contains-append_right (p ∷ []) pairs (key, item) (item_there pairs key item later)) h
  where
    by_test : (b : Bool) → bytes_eq key p.0 ≡ b
        → (item_at pairs key ≡ Some item → Contains (p ∷ pairs) (key, item))
        → cond b (Some p.1) (item_at pairs key) ≡ Some item → Contains (p ∷ pairs) (key, item)
    by_test true e rest is = (0, omega arith, same_pair p key item (bytes_eq-same key p.0 e) is)
    by_test false e rest is = rest is

there_item : (pairs : List (List ℕ × Item)) (k : ℕ) (pair : List ℕ × Item)
    → AllPairs (λ p q. p.0 ≢ q.0) pairs → k < length pairs → get_or pairs k pair ≡ pair
    → item_at pairs pair.0 ≡ Some pair.1
there_item [] k pair once below is = absurd (omega (arith, below))
there_item (p ∷ pairs) zero pair once below is =
    ap (λ b. cond b (Some p.1) (item_at pairs pair.0))
    (ap (λ (w : List ℕ × Item). bytes_eq pair.0 w.0) is ∙ bytes_eq-refl pair.0)
    ∙ ap (λ (w : List ℕ × Item). Some w.1) is
there_item (p ∷ pairs) (suc k) pair once below is =
    let apart : bytes_eq pair.0 p.0 ≡ false =
    bytes_eq-apart p.0 pair.0 (λ same. once 0 (suc k) pair (omega arith) (omega (arith, below))
    (same ∙ ap (λ (w : List ℕ × Item). w.0) (sym is))) in
    ap (λ b. cond b (Some p.1) (item_at pairs pair.0)) apart
    ∙ there_item pairs k pair (λ i j d before within. once (suc i) (suc j) d (omega arith)
    (omega arith)) (omega (arith, below)) is

pub TellsDue-none : (pairs : List (List ℕ × Item)) (t : ℕ) → IsFirstOf pairs t None
    → TellsDue (Some (item_at pairs)) t None
TellsDue-none pairs t live key due =
    let later : t < expiry due.0 = All-contains (λ (pair : List ℕ × Item). t < expiry pair.1) pairs
    (key, due.0) live (item_there pairs key due.0 due.1) in
    omega arith

pub TellsDue-some : (pairs : List (List ℕ × Item)) (t : ℕ) (pair : List ℕ × Item) → IsMap pairs
    → IsFirstOf pairs t (Some pair) → TellsDue (Some (item_at pairs)) t (Some pair.0)
TellsDue-some pairs t pair map is = record {
  item = pair.1;
  there = there_item pairs is.there.0 pair map.once is.there.1 is.there.2;
  expired = is.expired;
  first = λ other second at due. All-contains (FirstBefore t pair) pairs (other, second) is.first
      (item_there pairs other second at) due;
}
