-- Items in the order of their keys, and the set of the moments at which they expire.
use Rattle.std.proofs.Common.{◌≡◌, ◌≢◌, ℕ, ◌<◌, ◌≤◌, Bool, true, false, cond, List, [], ◌∷◌, length, Some, None, Option, refl, sym, ap, ◌∙◌, arith, subst, inl, inr}
use Rattle.std.specs.Prelude.{◌&&◌, nat_eq, IfSome, IsTrue}
use Rattle.std.specs.List.{list_any}
use Rattle.std.specs.Str.{bytes_eq}
use Rattle.std.specs.Ordering.{nat_cmp, is_eq, is_gt, ordering_then, MatchOrdering}
use Rattle.std.specs.Cmp.Lexicographic.{slice_cmp}
use Rattle.std.specs.declared.cmp.Ordering.{Ordering}
use Rattle.std.specs.declared.cmp.Ordering.TheVariants.{Less, Equal, Greater}
use Rattle.std.specs.BTreeMap as tree
use Rattle.std.specs.BTreeMap.{BTreeMap, is_at}
use Rattle.std.specs.BTreeSet as sorted
use Rattle.std.specs.BTreeSet.{BTreeSet, btree_set_len}
use Rattle.std.proofs.lemmas.Bool.{eq-eqb, eqb-true}
use Rattle.std.proofs.lemmas.Bool.Decides.{nat_tests}
use Rattle.std.proofs.lemmas.Cmp.{nat_list_cmp_total, ranked}
use Rattle.std.proofs.lemmas.Map.Lookups.{btree_map_from_get, exact_bytes}
use Rattle.std.proofs.lemmas.Map.Text.{is_eq-slice_cmp}
use Rattle.asp_messages.specs.Ranges.{KeyFits}
use Rattle.session_machine.specs.declared.item.Item.{Item}
use Rattle.session_machine.specs.Liveness.{ItemFits, expiry}
use Rattle.keeper.specs.declared.map_keeper.Due.{Due}
use Rattle.keeper.specs.Due.{ComesBefore, IsDue, IsFirstDue}
use Rattle.keeper.specs.Items.{Sets}
use Rattle.keeper.specs.Ordered.{item_of, due_cmp, expires_at, HoldsDues, IsKept, MovesDue}
use Rattle.keeper.proofs.PairLemmas.{bytes_eq-same, bytes_eq-symm-false}
use Rattle.keeper.proofs.DueLemmas.{greater_not}

-- the query for the key finds the other
abbrev at_key : List ℕ → List ℕ → Bool
at_key key other = is_at (slice_cmp nat_cmp key) other

abbrev ItemIn : List ℕ → Option Item → Type 0
ItemIn key item = IfSome item (λ i. KeyFits key × ItemFits i)

at_key-same : (key other : List ℕ) → at_key key other ≡ true → key ≡ other
at_key-same key other at = bytes_eq-same key other (sym (is_eq-slice_cmp key other) ∙ at)

at_key-apart : (key other : List ℕ) → bytes_eq other key ≡ false → at_key key other ≡ false
at_key-apart key other apart = is_eq-slice_cmp key other ∙ bytes_eq-symm-false other key apart

then_eq : (o p : Ordering) → is_eq (ordering_then o p) ≡ (is_eq o && is_eq p)
then_eq Less p = refl
then_eq Equal p = refl
then_eq Greater p = refl

nat_at : (m n : ℕ) → is_eq (nat_cmp m n) ≡ nat_eq m n
nat_at m n = grind (arith, nat_tests)

due_at : (due other : Due) → is_at (due_cmp due) other
    ≡ (nat_eq due.expiry other.expiry && at_key due.key other.key)
due_at due other =
    then_eq (nat_cmp due.expiry other.expiry) (slice_cmp nat_cmp due.key other.key)
    ∙ ap (λ b. b && at_key due.key other.key) (nat_at due.expiry other.expiry)

-- ---- the map after a change

pub Sets-updates : (m n : BTreeMap (List ℕ) Item) (key : List ℕ) (item : Option Item)
    → tree.Updates (slice_cmp nat_cmp) m n key item
    → Sets (item_of m.entries) (item_of n.entries) key item
Sets-updates m n key item changes = record {
  same = changes.1;
  others =
      λ other apart. changes.2 other (at_key-apart key other apart);
}

fits_after : (m n : BTreeMap (List ℕ) Item) (key : List ℕ) (item : Option Item)
    → tree.Updates (slice_cmp nat_cmp) m n key item → ItemIn key item
    → ((q : List ℕ) → ItemIn q (item_of m.entries q)) → (q : List ℕ)
    → ItemIn q (item_of n.entries q)
fits_after m n key item changes fits kept q =
    subst (ItemIn q) (sym (changes.0 q)) (by_key (at_key key q) refl)
  where
    by_key : (b : Bool) → at_key key q ≡ b → ItemIn q (cond b item (item_of m.entries q))
    by_key true at = subst (λ k. ItemIn k item) (at_key-same key q at) fits
    by_key false at = kept q

-- a pair that was added and taken out again leaves the entries as they were
pub taken_back : (m n o : BTreeMap (List ℕ) Item) (key : List ℕ) (item : Item)
    → item_of m.entries key ≡ None
    → tree.Updates (slice_cmp nat_cmp) m n key (Some item)
    → tree.Updates (slice_cmp nat_cmp) n o key None
    → tree.IsOrdered (slice_cmp nat_cmp) m → tree.IsOrdered (slice_cmp nat_cmp) o
    → o.entries ≡ m.entries
taken_back m n o key item absent added taken before after =
    btree_map_from_get nat_list_cmp_total o m after before
    (λ q. taken.0 q ∙ by_key q (at_key key q) refl) exact_bytes
  where
    by_key : (q : List ℕ) (b : Bool) → at_key key q ≡ b
        → cond b None (item_of n.entries q) ≡ item_of m.entries q
    by_key q true at = sym (ap (item_of m.entries) (sym (at_key-same key q at)) ∙ absent)
    by_key q false at = added.0 q ∙ ap (λ b. cond b (Some item) (item_of m.entries q)) at

-- ---- the set after a change

holds_after : (f g : List ℕ → Option Item) (s t : BTreeSet Due) (key : List ℕ) (item : Option Item)
    → ((q : List ℕ) → g q ≡ cond (at_key key q) item (f q)) → HoldsDues f s
    → ((q : Due) → sorted.contains due_cmp t q
    ≡ cond (at_key key q.key) (expires_at item q.expiry) (sorted.contains due_cmp s q))
    → HoldsDues g t
holds_after f g s t key item changes holds moves q =
    moves q ∙ by_key (at_key key q.key) ∙ sym (ap (λ i. expires_at i q.expiry) (changes q.key))
  where
    by_key : (b : Bool) → cond b (expires_at item q.expiry) (sorted.contains due_cmp s q)
        ≡ expires_at (cond b item (f q.key)) q.expiry
    by_key true = refl
    by_key false = holds q

-- what the set says of the key
known : (f : List ℕ → Option Item) (s : BTreeSet Due) (key : List ℕ) (item : Option Item) (q : Due)
    → HoldsDues f s → f key ≡ item → at_key key q.key ≡ true
    → sorted.contains due_cmp s q ≡ expires_at item q.expiry
known f s key item q holds is at = holds q ∙ ap (λ k. expires_at (f k) q.expiry)
    (sym (at_key-same key q.key at)) ∙ ap (λ i. expires_at i q.expiry) is

one_more : (x b c : Bool) → (b ≡ true → c ≡ false) → cond (x && b) true c ≡ cond b x c
one_more true true c h = refl
one_more true false c h = refl
one_more false true c h = h refl
one_more false false c h = refl

one_less : (x b c : Bool) → (b ≡ true → c ≡ x) → cond (x && b) false c ≡ cond b false c
one_less true true c h = refl
one_less true false c h = refl
one_less false true c h = h refl
one_less false false c h = refl

one_moved : (x y b c : Bool) → (b ≡ true → c ≡ x)
    → cond (y && b) true (cond (x && b) false c) ≡ cond b y c
one_moved x true true c h = refl
one_moved true false true c h = refl
one_moved false false true c h = h refl
one_moved true true false c h = refl
one_moved true false false c h = refl
one_moved false true false c h = refl
one_moved false false false c h = refl

-- the set has one pair more, of a key that had no item
pub IsKept-add : (m n : BTreeMap (List ℕ) Item) (s t : BTreeSet Due) (key : List ℕ) (item : Item)
    → item_of m.entries key ≡ None → KeyFits key → ItemFits item
    → tree.Updates (slice_cmp nat_cmp) m n key (Some item)
    → sorted.Updates due_cmp s t (record { expiry = expiry item; key = key }) true
    → IsKept m.entries s → IsKept n.entries t
IsKept-add m n s t key item absent key_fits fits changes adds kept = record {
  fits = fits_after m n key (Some item) changes (key_fits, fits) kept.fits;
  holds = holds_after (item_of m.entries) (item_of n.entries) s t key (Some item) changes.0
      kept.holds moves;
}
  where
    due : Due
    due = record { expiry = expiry item; key = key }

    moves : (q : Due) → sorted.contains due_cmp t q
        ≡ cond (at_key key q.key) (nat_eq (expiry item) q.expiry) (sorted.contains due_cmp s q)
    moves q =
        let c = sorted.contains due_cmp s q in
        adds.0 q ∙ ap (λ b. cond b true c) (due_at (record { expiry = expiry item; key = key }) q)
        ∙ one_more (nat_eq (expiry item) q.expiry) (at_key key q.key) c
        (known (item_of m.entries) s key None q kept.holds absent)

-- the pair of the key is taken out
pub IsKept-cut : (m n : BTreeMap (List ℕ) Item) (s t : BTreeSet Due) (key : List ℕ) (item : Item)
    → item_of m.entries key ≡ Some item
    → tree.Updates (slice_cmp nat_cmp) m n key None
    → sorted.Updates due_cmp s t (record { expiry = expiry item; key = key }) false
    → IsKept m.entries s → IsKept n.entries t
IsKept-cut m n s t key item there changes takes kept = record {
  fits = fits_after m n key None changes tt kept.fits;
  holds = holds_after (item_of m.entries) (item_of n.entries) s t key None changes.0 kept.holds
      moves;
}
  where
    moves : (q : Due) → sorted.contains due_cmp t q
        ≡ cond (at_key key q.key) false (sorted.contains due_cmp s q)
    moves q =
        let c = sorted.contains due_cmp s q in
        takes.0 q ∙ ap (λ b. cond b false c) (due_at (record { expiry = expiry item; key = key }) q)
        ∙ one_less (nat_eq (expiry item) q.expiry) (at_key key q.key) c
        (known (item_of m.entries) s key (Some item) q kept.holds there)

-- an item takes the place of another, and its pair that of the other's
pub IsKept-put : (m n : BTreeMap (List ℕ) Item) (s t : BTreeSet Due) (key : List ℕ)
    (old item : Item) → item_of m.entries key ≡ Some old → KeyFits key → ItemFits item
    → tree.Updates (slice_cmp nat_cmp) m n key (Some item)
    → MovesDue s t key (expiry old) (expiry item) → IsKept m.entries s → IsKept n.entries t
IsKept-put m n s t key old item there key_fits fits changes moved kept = record {
  fits = fits_after m n key (Some item) changes (key_fits, fits) kept.fits;
  holds = holds_after (item_of m.entries) (item_of n.entries) s t key (Some item) changes.0
      kept.holds moves;
}
  where
    moves : (q : Due) → sorted.contains due_cmp t q
        ≡ cond (at_key key q.key) (nat_eq (expiry item) q.expiry) (sorted.contains due_cmp s q)
    moves q =
        let c = sorted.contains due_cmp s q in
        let was : Due = record { expiry = expiry old; key = key } in
        let is : Due = record { expiry = expiry item; key = key } in
        moved q ∙ ap (λ b. cond b true (cond (is_at (due_cmp was) q) false c)) (due_at is q)
        ∙ ap (λ b. cond (nat_eq (expiry item) q.expiry && at_key key q.key) true (cond b false c))
        (due_at was q)
        ∙ one_moved (nat_eq (expiry old) q.expiry) (nat_eq (expiry item) q.expiry)
        (at_key key q.key) c (known (item_of m.entries) s key (Some old) q kept.holds there)

both_true : (a b : Bool) → (a && b) ≡ true → (a ≡ true) × (b ≡ true)
both_true true true h = (refl, refl)
both_true true false h = absurd (no h)
  where
    no : false ≡ true → ⊥
    no p = cc
both_true false b h = absurd (no h)
  where
    no : false ≡ true → ⊥
    no p = cc

-- where both moments are one the set stays
pub MovesDue-same : (s : BTreeSet Due) (key : List ℕ) (from to : ℕ) → from ≡ to
    → sorted.contains due_cmp s (record { expiry = from; key = key }) ≡ true
    → MovesDue s s key from to
MovesDue-same s key from to same there q =
    subst (λ (t : ℕ). has ≡ cond (found t) true (cond (found from) false has)) same
    (by_test (found from) refl)
  where
    has : Bool
    has = sorted.contains due_cmp s q

    found : ℕ → Bool
    found t = is_at (due_cmp (record { expiry = t; key = key })) q

    by_test : (b : Bool) → found from ≡ b → has ≡ cond b true (cond b false has)
    by_test true at =
        let parts = both_true (nat_eq from q.expiry) (at_key key q.key)
        (sym (due_at (record { expiry = from; key = key }) q) ∙ at) in
        sym (ap (λ (t : ℕ). sorted.contains due_cmp s (record { expiry = t; key = key }))
        (eqb-true from q.expiry parts.0)
        ∙ ap (λ (k : List ℕ). sorted.contains due_cmp s (record { expiry = q.expiry; key = k }))
        (at_key-same key q.key parts.1)) ∙ there
    by_test false at = refl

swapped : (x y c : Bool) → (x ≡ true → y ≡ true → ⊥)
    → cond x false (cond y true c) ≡ cond y true (cond x false c)
swapped true true c apart = absurd (apart refl refl)
swapped true false c apart = refl
swapped false true c apart = refl
swapped false false c apart = refl

-- the pair of the one moment was put in, and then that of the other taken out
pub MovesDue-apart : (s u t : BTreeSet Due) (key : List ℕ) (from to : ℕ) → from ≢ to
    → sorted.Updates due_cmp s u (record { expiry = to; key = key }) true
    → sorted.Updates due_cmp u t (record { expiry = from; key = key }) false
    → MovesDue s t key from to
MovesDue-apart s u t key from to apart adds takes q =
    takes.0 q ∙ ap (λ b. cond (found from) false b) (adds.0 q)
    ∙ swapped (found from) (found to) (sorted.contains due_cmp s q)
    (λ at other. apart (moment from at ∙ sym (moment to other)))
  where
    found : ℕ → Bool
    found m = is_at (due_cmp (record { expiry = m; key = key })) q

    moment : (m : ℕ) → found m ≡ true → m ≡ q.expiry
    moment m at = eqb-true m q.expiry (both_true (nat_eq m q.expiry) (at_key key q.key)
        (sym (due_at (record { expiry = m; key = key }) q) ∙ at)).0

-- nothing changed
pub IsKept-unchanged : (m n : BTreeMap (List ℕ) Item) (s t : BTreeSet Due) → n.entries ≡ m.entries
    → t.keys ≡ s.keys → IsKept m.entries s → IsKept n.entries t
IsKept-unchanged m n s t entries keys kept =
    let same : IsKept m.entries t = subst (λ ks. IsKept m.entries (record { keys = ks })) (sym keys)
    kept in
    subst (λ es. IsKept es t) (sym entries) same

-- ---- the first of the set

there_is : (item : Option Item) (moment : ℕ) → expires_at item moment ≡ true
    → (i : Item) × (item ≡ Some i) × (expiry i ≡ moment)
there_is None moment h = absurd (no h)
  where
    no : false ≡ true → ⊥
    no p = cc
there_is (Some i) moment h = (i, refl, eqb-true (expiry i) moment h)

-- the set has the pair of each key
pub has_pair : (f : List ℕ → Option Item) (s : BTreeSet Due) (key : List ℕ) (item : Item)
    → HoldsDues f s → f key ≡ Some item
    → sorted.contains due_cmp s (record { expiry = expiry item; key = key }) ≡ true
has_pair f s key item holds there =
    holds (record { expiry = expiry item; key = key }) ∙ ap (λ i. expires_at i (expiry item)) there
    ∙ eq-eqb (expiry item) (expiry item) refl

comes : (m : ℕ) (key : List ℕ) (n : ℕ) (other : List ℕ)
    → is_gt (ordering_then (nat_cmp m n) (slice_cmp nat_cmp key other)) ≡ false
    → ComesBefore m key n other
comes m key n other = by_order (nat_cmp m n) (ranked m n (nat_cmp m n) refl)
  where
    by_order : (o : Ordering) → MatchOrdering o (m < n) (m ≡ n) (n < m)
        → is_gt (ordering_then o (slice_cmp nat_cmp key other)) ≡ false → ComesBefore m key n other
    by_order Less below h = inl below
    by_order Equal same h = inr (same, greater_not (slice_cmp nat_cmp key other) h)
    by_order Greater above h = absurd (no h)
      where
        no : true ≡ false → ⊥
        no p = cc

comes_first : (f : List ℕ → Option Item) (s : BTreeSet Due) (due : Due) (key : List ℕ) (item : Item)
    → HoldsDues f s → sorted.IsLowerBound due_cmp s due → f key ≡ Some item
    → ComesBefore due.expiry due.key (expiry item) key
comes_first f s due key item holds least there =
    comes due.expiry due.key (expiry item) key
    (least (record { expiry = expiry item; key = key }) (has_pair f s key item holds there))

pub IsFirstDue-first : (f : List ℕ → Option Item) (s : BTreeSet Due) (due : Due) (t : ℕ)
    → HoldsDues f s → IsTrue (sorted.contains due_cmp s due) → sorted.IsLowerBound due_cmp s due
    → due.expiry ≤ t → IsFirstDue f t due.key
IsFirstDue-first f s due t holds member least expired =
    let is = there_is (f due.key) due.expiry (sym (holds due) ∙ member) in
    record {
      item = is.0;
      there = is.1;
      expired = subst (λ e. e ≤ t) (sym is.2) expired;
      first = λ other second at late. subst (λ e. ComesBefore e due.key (expiry second) other)
          (sym is.2) (comes_first f s due other second holds least at);
    }

pub first_fits : (f : List ℕ → Option Item) (s : BTreeSet Due) (due : Due) → HoldsDues f s
    → IsTrue (sorted.contains due_cmp s due) → ItemIn due.key (f due.key) → KeyFits due.key
first_fits f s due holds member fits =
    let is = there_is (f due.key) due.expiry (sym (holds due) ∙ member) in
    let known_fits : ItemIn due.key (Some is.0) = subst (ItemIn due.key) is.1 fits in
    known_fits.0

earlier : (m : ℕ) (key : List ℕ) (n : ℕ) (other : List ℕ) → ComesBefore m key n other → m ≤ n
earlier m key n other (inl below) = omega arith
earlier m key n other (inr same) = omega (arith, same.0)

-- none is due where the first of the set is not
pub none_due : (f : List ℕ → Option Item) (s : BTreeSet Due) (due : Due) (t : ℕ) (key : List ℕ)
    → HoldsDues f s → sorted.IsLowerBound due_cmp s due → t < due.expiry → IsDue f t key → ⊥
none_due f s due t key holds least later (item, there, expired) =
    let before = earlier due.expiry due.key (expiry item) key
    (comes_first f s due key item holds least there) in
    absurd (omega (arith, before))

some_key : (ks : List Due) (test : Due → Bool) → list_any test ks ≡ true → 0 < length ks
some_key [] test h = absurd (no h)
  where
    no : false ≡ true → ⊥
    no p = cc
some_key (k ∷ ks) test h = omega arith

-- none is due where the set is empty
pub none_there : (f : List ℕ → Option Item) (s : BTreeSet Due) (t : ℕ) (key : List ℕ)
    → HoldsDues f s → ¬ (0 < btree_set_len s) → IsDue f t key → ⊥
none_there f s t key holds empty (item, there, expired) =
    empty (some_key s.keys _ (has_pair f s key item holds there))

-- ---- equal keys and moments

pub Updates-key : (m n : BTreeMap (List ℕ) Item) (key other : List ℕ) (item : Option Item)
    → key ≡ other → tree.Updates (slice_cmp nat_cmp) m n key item
    → tree.Updates (slice_cmp nat_cmp) m n other item
Updates-key m n key other item same changes =
    subst (λ k. tree.Updates (slice_cmp nat_cmp) m n k item) same changes

pub Updates-due : (s t : BTreeSet Due) (due : Due) (moment : ℕ) (key : List ℕ) (there : Bool)
    → due.expiry ≡ moment → due.key ≡ key → sorted.Updates due_cmp s t due there
    → sorted.Updates due_cmp s t (record { expiry = moment; key = key }) there
Updates-due s t due moment key there same_moment same_key changes =
    let at_moment : sorted.Updates due_cmp s t (record { expiry = moment; key = due.key }) there =
    subst (λ e. sorted.Updates due_cmp s t (record { expiry = e; key = due.key }) there) same_moment
    changes in
    subst (λ k. sorted.Updates due_cmp s t (record { expiry = moment; key = k }) there) same_key
    at_moment

pub found_key : (key other : List ℕ) → slice_cmp nat_cmp key other ≡ Equal → other ≡ key
found_key key other same = sym (exact_bytes key other same)

pub key_fits : (f : List ℕ → Option Item) (key : List ℕ) (item : Item) → f key ≡ Some item
    → ((q : List ℕ) → ItemIn q (f q)) → KeyFits key
key_fits f key item there fits =
    let known_fits : ItemIn key (Some item) = subst (ItemIn key) there (fits key) in
    known_fits.0
