-- Each kind of step keeps the counter's rule.
use Rattle.std.proofs.Common.{◌≡◌, ◌≢◌, ℕ, zero, suc, ◌+◌, ◌<◌, ◌≤◌, ◌^◌, eqb, List, [], ◌∷◌, ◌++◌, get_or, set, sym, refl, ap, ◌∙◌, subst, ⊎_elim, arith, length-set, get_or-set_same}
use Rattle.std.specs.Prelude.{slice_index, All}
use Rattle.std.specs.List.{sum_by}
use Rattle.std.proofs.lemmas.List.Elements.{All-append, All-nil}
use Rattle.std.proofs.lemmas.List.Sums.{sum_by-append, sum_by-cons}
use mathlib.Core.Option.{none, some, some-ne-none, some-injective}
use lib.ListN.{get_elem?}
use lib.Seq.{set-get_or}
use prog.Atomic.{either}
use Rattle.atomic_table.specs.Table.{State, Step, step, Act, keeps, stepped, opening, Allows, Splits}
use Rattle.atomic_table.proofs.Lists.{at_set, at_snoc, set_again, exchanged}
use Rattle.cookie_source.specs.declared.counter_rule.DrawerView.{DrawerView}
use Rattle.cookie_source.specs.Counter.{drawer_view, new_drawer, nothing_drawn, total_below, IsDrawer, IsCounted, DrawerSeat, Looks, Draws}

abbrev CounterState : Type 0
CounterState = State (Unit {0}) DrawerView

-- the state with these words and views
abbrev with_words : List ℕ → CounterState → List DrawerView → CounterState
with_words words s views = record { words = words; homes = s.homes; views = views }

sum_by-set : {A : Type 0} (g : A → ℕ) (l : List A) (j : ℕ) (v w : A) → get_elem? l j ≡ some v
    → sum_by g (set l j w) + g v ≡ sum_by g l + g w
sum_by-set g [] j v w e = absurd (some-ne-none v (sym e))
sum_by-set g (x ∷ xs) zero v w e =
    omega (arith, sum_by-cons g w xs, sum_by-cons g x xs, ap g (some-injective x v e))
sum_by-set g (x ∷ xs) (suc j) v w e =
    omega (arith, sum_by-cons g x (set xs j w), sum_by-cons g x xs, sum_by-set g xs j v w e)

-- numbers below m are below a greater n
all_below : (xs : List ℕ) (m n : ℕ) → m ≤ n → All (λ k. k < m) xs → All (λ k. k < n) xs
all_below xs m n le all k d h = let t : get_or xs k d < m = all k d h in omega arith

-- what the rule says of a drawer stays true as the counter rises
drawer_at_more : (first m n : ℕ) (v : DrawerView) → m ≤ n → IsDrawer first m v → IsDrawer first n v
drawer_at_more first m n v le f =
    let seen = f.saw_no_more in record {
      same_first = f.same_first;
      saw_no_more =
          omega arith;
      drew_below = all_below v.drawn m n le f.drew_below;
    }

-- the rule holds of each drawer where the one at by has become w
each_set : (first m n by : ℕ) (vs : List DrawerView) (w : DrawerView) → m ≤ n
    → ((j : ℕ) (v : DrawerView) → get_elem? vs j ≡ some v → IsDrawer first m v)
    → IsDrawer first n w → (j : ℕ) (v : DrawerView) → get_elem? (set vs by w) j ≡ some v
    → IsDrawer first n v
each_set first m n by vs w le each mine j v e =
    ⊎_elim (λ (t : (j ≡ by) × (w ≡ v)). subst (IsDrawer first n) t.1 mine)
    (λ (t : (j ≢ by) × (get_elem? vs j ≡ some v)). drawer_at_more first m n v le (each j v t.1))
    (at_set vs by j w v e)

-- a new counter keeps the rule
pub begins : (first : ℕ) → IsCounted first (opening (first ∷ []) [] (new_drawer first))
begins first = record {
  one_word = refl;
  from_first = omega arith;
  drawn_once = λ f. omega arith;
  each = each;
}
  where
    each : (by : ℕ) (v : DrawerView) → get_elem? (new_drawer first ∷ []) by ≡ some v
        → IsDrawer first first v
    each zero v e = subst (IsDrawer first first) (some-injective _ _ e)
        record {
          same_first = refl;
          saw_no_more = omega arith;
          drew_below =
              All-nil (λ n. n < first);
        }
    each (suc by) v e = absurd (some-ne-none v (sym e))

-- a split makes a drawer that drew nothing
pub splits : (first by : ℕ) (v : DrawerView) → Splits (IsCounted first) by v v (nothing_drawn v)
splits first by v s h me =
    let counter : ℕ = slice_index s.words 0 in
    let same = set_again s.views by v me in record {
      one_word = h.one_word;
      from_first = h.from_first;
      drawn_once = λ f. omega (
        arith,
        h.drawn_once f,
        sum_by-append
            (λ (u : DrawerView). sum_by f u.drawn) (set s.views by v) (nothing_drawn v ∷ []),
        ap
            (sum_by (λ (u : DrawerView). sum_by f u.drawn)) same,
      );
      each = λ j u e. let f = h.each by v me in
          ⊎_elim (λ (t : get_elem? (set s.views by v) j ≡ some u). h.each j u
          (subst (λ (l : List DrawerView). get_elem? l j ≡ some u) same t))
          (λ (t : nothing_drawn v ≡ u). subst (IsDrawer first counter) t
          record {
            same_first = f.same_first;
            saw_no_more = f.saw_no_more;
            drew_below =
                All-nil (λ n. n < counter);
          })
          (at_snoc (set s.views by v) (nothing_drawn v) u j e);
    }

-- the counter is seen, and stays
sees : (first : ℕ) (s : CounterState) (h : IsCounted first s) (by : ℕ) (v : DrawerView)
    → get_elem? s.views by ≡ some v
    → IsCounted first (with_words (set s.words 0 (slice_index s.words 0)) s
    (set s.views by (drawer_view v.first_cookie v.drawn (slice_index s.words 0))))
sees first s h by v me =
    let counter : ℕ = slice_index s.words 0 in
    let w = drawer_view v.first_cookie v.drawn counter in
    let f = h.each by v me in
    subst (λ (words : List ℕ). IsCounted first (with_words words s (set s.views by w)))
    (sym (set-get_or s.words 0 0)) record {
      one_word = h.one_word;
      from_first = h.from_first;
      drawn_once = λ g. omega (
        arith,
        h.drawn_once g,
        sum_by-set
            (λ (u : DrawerView). sum_by g u.drawn) s.views by v w me,
      );
      each = each_set first counter counter by s.views w (omega arith) h.each
          record {
            same_first = f.same_first;
            saw_no_more = omega arith;
            drew_below =
                f.drew_below;
          };
    }

-- a load keeps the rule
pub looks : (first slots by : ℕ) (m : DrawerSeat)
    → Allows (IsCounted first) slots by m 0 (λ n. n) (Looks (step slots 0 0 0 none) m)
looks first slots by m s h wide me _ =
    let counter : ℕ = slice_index s.words 0 in
    let f = h.each by m.0 me in
    let from = h.from_first in (
      drawer_view m.0.first_cookie m.0.drawn counter,
      keeps,
      tt,
      sees first s h by m.0 me,
      record {
        never_falls = f.saw_no_more;
        from_first =
            subst (λ (k : ℕ). k ≤ counter) (sym f.same_first) from;
        after_look = refl;
      },
    )

-- a compare and exchange from a cookie to the next one keeps the rule
pub draws : (first slots by : ℕ) (m : DrawerSeat) (old : ℕ) → old < 2 ^ 63
    → Allows (IsCounted first) slots by m 0 (λ n. either (eqb n old) (old + 1) n)
    (Draws (step slots 0 old (old + 1) none) m)
draws first slots by m old fits s h wide me _ =
    let counter : ℕ = slice_index s.words 0 in
    let f = h.each by m.0 me in
    let low : m.0.first_cookie ≤ counter = subst (λ (k : ℕ). k ≤ counter) (sym f.same_first)
    h.from_first in
    let Goal : ℕ → Type 0 = λ n. (w : DrawerView) × (a : Act (Unit {0}))
    × Rattle.atomic_table.specs.Table.Valid s.homes m.1 a
    × IsCounted first (stepped s 0 n by m.1 w a)
    × Draws (step slots 0 old (old + 1) none) m counter
    (w, Rattle.atomic_table.specs.Table.carried_after m.1 a) in
    exchanged counter old (old + 1) Goal
    (λ hit.
    let w = drawer_view m.0.first_cookie (m.0.drawn ++ counter ∷ []) counter in
    let long = h.one_word in
    let now : get_or (set s.words 0 (old + 1)) 0 0 ≡ old + 1 =
    get_or-set_same s.words 0 (old + 1) 0 (omega arith) in
    let more : old + 1 ≡ suc counter = omega arith in (
      w,
      keeps,
      tt,
      record {
        one_word = length-set s.words 0 (old + 1) ∙ long;
        from_first = let from = h.from_first in omega arith;
        drawn_once = λ g. omega (
          arith,
          h.drawn_once g,
          sum_by-set
              (λ (u : DrawerView). sum_by g u.drawn) s.views by m.0 w me,
          sum_by-append g m.0.drawn
              (counter ∷ []),
          ap (total_below g) (now ∙ more),
        );
        each = subst (λ (n : ℕ). (j : ℕ) (v : DrawerView) → get_elem? (set s.views by w) j ≡ some v
            → IsDrawer first n v) (sym now)
            (each_set first counter (old + 1) by s.views w (omega arith) h.each record {
              same_first = f.same_first;
              saw_no_more = omega arith;
              drew_below = All-append (λ n. n < old + 1) m.0.drawn (counter ∷ [])
                  (all_below m.0.drawn counter (old + 1) (omega arith) f.drew_below)
                  (last counter (old + 1) (omega arith));
            });
      },
      record {
        never_falls = f.saw_no_more;
        from_first = low;
        rises = λ _. f.drew_below;
        drawn =
            λ _. refl;
        missed = λ miss. absurd (miss hit);
      },
    ))
    (λ miss. (
      drawer_view m.0.first_cookie m.0.drawn counter,
      keeps,
      tt,
      sees first s h by m.0 me,
      record {
        never_falls = f.saw_no_more;
        from_first = low;
        rises =
            λ hit. absurd (miss hit);
        drawn = λ hit. absurd (miss hit);
        missed = λ _. refl;
      },
    ))
  where
    last : (c n : ℕ) → c < n → All (λ k. k < n) (c ∷ [])
    last c n lt zero d h = lt
    last c n lt (suc k) d h = absurd (omega arith)
