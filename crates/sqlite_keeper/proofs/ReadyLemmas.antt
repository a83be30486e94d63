-- Calls that leave tables as they were which are ready, one behind the other.
use Rattle.std.proofs.Common.{◌≡◌, inl, inr, ℕ, ℤ, ◌<◌, ◌^◌, pos, List, Bool, true, false, cond, Some, None, Option, Ok, Err, Result, OnOk, refl, sym, ap, subst, ◌∙◌, true≢false}
use Rattle.std.specs.Prelude.{IfOk, IsTrue}
use Rattle.std.proofs.lemmas.Bool.{cases_Bool}
use Rattle.sqlite.specs.Effect.{Database}
use Rattle.sqlite.specs.Held.{Held, state}
use Rattle.sqlite.specs.State.{State}
use Rattle.sqlite_rules.specs.Lists.{Has}
use Rattle.sqlite_trees.specs.declared.store.Store.{Ghosts}
use Rattle.sqlite_trees.specs.Tree.{Trees}
use Rattle.sqlite_trees.specs.View.{View, IsClean, IsRolledBack}
use Rattle.sqlite_value.specs.Order.{Row, column}
use Rattle.sqlite_value.specs.declared.value.Value.TheVariants.{Int}
use Rattle.sqlite_rows.specs.Calls.{IsKnown, KeepsDatabase, KeepsKnown}
use Rattle.sqlite_rows.specs.Cookies.{IsLast}
use Rattle.sqlite_rows.specs.Firsts.{FindsFirst}
use Rattle.sqlite_rows.specs.Numbers.{AreNumbered}
use Rattle.sqlite_keeper.specs.Keeping.{KeepsRows, OverDatabase, cookies_in, may_tell, rows_in, told_by}
use Rattle.sqlite_keeper.specs.Opening.{GoesOn, HasRowsOf, IsReady, KeepsReady}
use Rattle.sqlite_keeper.specs.Told.{told_rows}
use Rattle.sqlite_keeper.specs.declared.failure.Failure.{Failure}
use Rattle.keeper.specs.Items.{StillTells}
use Rattle.keeper.specs.declared.keeping.KeepError.{KeepError}
use Rattle.sqlite_keeper.proofs.KeepLemmas.{known_stays, rests_stays, same_still, when}

pub stays_then : (a b c : State) → KeepsDatabase a b → KeepsDatabase b c → KeepsDatabase a c
stays_then a b c x y = record { now = y.now ∙ x.now; was_open = x.was_open; mode = y.mode }

pub known_then : (a b c : State) → KeepsKnown a b → KeepsKnown b c → KeepsKnown a c
known_then a b c x y = record {
  was_open = λ o. x.was_open (y.was_open o);
  same = λ fits o.
      let first = x.same fits (y.was_open o) in
      stays_then a b c first (y.same (known_stays a b fits first) o);
}

pub ready_stays : (a b : State) (last : ℕ) → IsReady a last → KeepsDatabase a b → IsReady b last
ready_stays a b last r s = record {
  known = known_stays a b r.known s;
  moved = λ row had. r.moved row (subst (λ (d : Database). Has (d.trees 0) row) s.now had);
  one = subst (λ (d : Database). IsLast (d.trees 6) (pos last)) (sym s.now) r.one;
}

pub ready_then : (a b c : State) → KeepsReady a b → KeepsReady b c → KeepsReady a c
ready_then a b c x y = record {
  was_open = λ o. x.was_open (y.was_open o);
  same = λ last r o.
      let first = x.same last r (y.was_open o) in
      stays_then a b c first (y.same last (ready_stays a b last r first) o);
}

pub ready_of : (a b : State) → KeepsKnown a b → KeepsReady a b
ready_of a b k = record { was_open = k.was_open; same = λ last r o. k.same r.known o }

-- nothing was done yet
pub ready_same : (a : State) → KeepsReady a a
ready_same a = record {
  was_open = λ o. o;
  same = λ last r o. record { now = refl; was_open = o; mode = r.known.1 };
}

-- no row was found
pub ready_none : (a b : State) → (IsKnown a → IsTrue b.is_open → KeepsDatabase a b)
    → (IsTrue b.is_open → IsTrue a.is_open) → KeepsReady a b
ready_none a b same opened = record {
  was_open = opened;
  same = λ last r o. same r.known o;
}

-- a row was found, so not all were moved
pub not_ready : (a b c : State) (out : Row)
    → (IsKnown a → IsTrue b.is_open → FindsFirst (a.now.trees 0) (Some out))
    → (IsTrue b.is_open → IsTrue a.is_open) → (IsTrue c.is_open → IsTrue b.is_open)
    → KeepsReady a c
not_ready a b c out finds before after = record {
  was_open = λ o. before (after o);
  same = λ last r o. let f = finds r.known (after o) in absurd (r.moved f.row f.had);
}

pub if_not_ready : {T E : Type 0} (r : Result T E) (a b c : State) (out : Row)
    → (IsKnown a → IsTrue b.is_open → FindsFirst (a.now.trees 0) (Some out))
    → (IsTrue b.is_open → IsTrue a.is_open)
    → OnOk r (IsTrue c.is_open → IsTrue b.is_open) → OnOk r (KeepsReady a c)
if_not_ready (Ok x) a b c out finds before after = not_ready a b c out finds before after
if_not_ready (Err e) a b c out finds before after = tt

pub any_ready : {S T : Type 0} (g : Ghosts S) (was read is : Held S) (row : Option Row)
    (r : Result T Failure)
    → (IsKnown (state g was) → IsTrue (state g read).is_open
    → FindsFirst ((state g was).now.trees 0) row)
    → (IsKnown (state g was) → IsTrue (state g read).is_open
    → KeepsDatabase (state g was) (state g read))
    → (IsTrue (state g read).is_open → IsTrue (state g was).is_open)
    → OnOk r (IsTrue (state g is).is_open → IsTrue (state g read).is_open)
    → (row ≡ None → is ≡ read) → OnOk r (KeepsReady (state g was) (state g is))
any_ready g was read is (Some out) r finds same before after none =
    if_not_ready r (state g was) (state g read) (state g is) out finds before after
any_ready g was read is None (Err e) finds same before after none = tt
any_ready g was read is None (Ok x) finds same before after none =
    subst (λ k. KeepsReady (state g was) (state g k)) (sym (none refl))
    (ready_none (state g was) (state g read) same before)

pub read_ready : {T E : Type 0} (r : Result T E) (a b : State)
    → (IsKnown a → IsTrue b.is_open → KeepsDatabase a b)
    → (IsTrue b.is_open → IsTrue a.is_open) → OnOk r (KeepsReady a b)
read_ready (Ok x) a b same before = ready_none a b same before
read_ready (Err e) a b same before = tt

-- the row of the last cookie is there
pub begun : (a b : State) → ((last : ℤ) → IsLast (a.now.trees 6) last → IsKnown a
    → IsTrue b.is_open → KeepsDatabase a b) → (IsTrue b.is_open → IsTrue a.is_open)
    → KeepsReady a b
begun a b stays opened = record {
  was_open = opened;
  same = λ last r o. stays (pos last) r.one r.known o;
}

-- ---- a connection over its store anew

pub rows_of_itself : (a : State) → HasRowsOf a a
rows_of_itself a = record { was_open = λ o. o; trees = λ auto o. refl }

open_of : (v : View) → v.is_broken ≡ false → (v.is_open ≡ false → IsTrue v.is_broken)
    → IsTrue v.is_open
open_of v sound law = elim (cases_Bool v.is_open) [
  | inl opened ↦ opened
  | inr shut ↦ absurd (true≢false (sym (law shut) ∙ sound))
]

module _ {S : Type 0} (g : Ghosts S) (was : Held S) (store : S) (is : Held S)
    (undone : IsRolledBack (g.view was.store) (g.view store))
    (sound : IsClean (g.view store) → (g.view store).is_broken ≡ false)
    (law : (g.view store).is_open ≡ false → IsTrue (g.view store).is_broken)
    (settled : IsTrue (state g was).is_open → (state g was).now ≡ (state g was).committed)
    (kept : IsTrue (state g is).is_open
    → IsClean (g.view store) × ((state g is).now.trees ≡ (g.view store).trees)) where
  opened : IsTrue (state g is).is_open → IsTrue (g.view store).is_open
  opened o = open_of (g.view store) (sound (kept o).0) law

  pub reopened : HasRowsOf (state g was) (state g is)
  reopened = record {
    was_open = λ o. (undone.kept (kept o).0).was_open (opened o);
    trees = λ auto o.
        let before = (undone.kept (kept o).0).was_open (opened o) in
        (kept o).1 ∙ (undone.undone (opened o)).0
        ∙ sym (ap (λ (d : Database). d.trees) (settled before));
  }

pub reopened_if : {S : Type 0} (g : Ghosts S) (was : Held S) (store : S)
    (r : Result (Held S × Bool) Failure) → IsRolledBack (g.view was.store) (g.view store)
    → (IsClean (g.view store) → (g.view store).is_broken ≡ false)
    → ((g.view store).is_open ≡ false → IsTrue (g.view store).is_broken)
    → (IsTrue (state g was).is_open → (state g was).now ≡ (state g was).committed)
    → IfOk r (λ p. IsTrue (state g p.0).is_open
    → IsClean (g.view store) × ((state g p.0).now.trees ≡ (g.view store).trees))
    → IfOk r (λ p. HasRowsOf (state g was) (state g p.0))
reopened_if g was store (Ok p) undone sound law settled kept =
    reopened g was store p.0 undone sound law settled kept
reopened_if g was store (Err e) undone sound law settled kept = tt

-- ---- a keeper that goes on

same_pos : (a b : ℕ) → Int (pos a) ≡ Int (pos b) → a ≡ b
same_pos a b e = cc

pub one_value : (rows : List Row) (a b : ℕ) → IsLast rows (pos a) → IsLast rows (pos b) → a ≡ b
one_value rows a b x y =
    let same : x.row ≡ y.row = (let e = sym x.only ∙ y.only in cc) in
    same_pos a b (sym x.shows ∙ ap (λ (r : Row). column r 2) same ∙ y.shows)

-- ---- the last of several calls

pub after_known : {T E : Type 0} (r : Result T E) (a b c : State) → KeepsKnown a b
    → OnOk r (KeepsKnown b c) → OnOk r (KeepsKnown a c)
after_known (Ok x) a b c first k = known_then a b c first k
after_known (Err e) a b c first k = tt

pub after_ready : {T E : Type 0} (r : Result T E) (a b c : State) → KeepsReady a b
    → OnOk r (KeepsReady b c) → OnOk r (KeepsReady a c)
after_ready (Ok x) a b c first k = ready_then a b c first k
after_ready (Err e) a b c first k = tt

-- ---- what a new keeper tells

pub goes_on_tells : {S : Type 0} (g : Ghosts S) (old : State) (last : ℕ)
    (r q : Result (OverDatabase (Held S)) KeepError) → r ≡ q → IfOk q (GoesOn g old last)
    → IfOk r (λ k. StillTells (told_rows (rows_in old)) (told_by g k))
goes_on_tells g old last (Err e) q is on = tt
goes_on_tells {S} g old last (Ok k) q is on =
    by (may_tell g k) refl (subst (λ x. IfOk x (GoesOn g old last)) (sym is) on)
  where
    by : (b : Bool) → may_tell g k ≡ b → GoesOn g old last k
        → StillTells (told_rows (rows_in old)) (cond b (told_rows (rows_in (state g k.connection))) None)
    by false e on = tt
    by true e on = rw ((on e).0) (same_still (told_rows (rows_in old)))

pub goes_on_last : {S : Type 0} (g : Ghosts S) (old : State) (last : ℕ)
    (r q : Result (OverDatabase (Held S)) KeepError) → r ≡ q → IfOk q (GoesOn g old last)
    → IfOk r (λ k. IsTrue (may_tell g k) → k.last ≡ last)
goes_on_last g old last (Err e) q is on = tt
goes_on_last g old last (Ok k) q is on = λ may.
    (subst (λ x. IfOk x (GoesOn g old last)) (sym is) on may).1

-- ---- a keeper over tables that were looked at

module _ {S : Type 0} (g : Ghosts S) (was is : Held S) (numbered alone one knows : Bool)
    (last : ℕ)
    (all : IsTrue knows → IsTrue numbered × (IsTrue alone × IsTrue one))
    (known : IsTrue alone → IsKnown (state g was))
    (cookies : IsTrue numbered → IsTrue (state g was).is_open
    → AreNumbered (cookies_in (state g was)))
    (found : IsKnown (state g was) → AreNumbered (cookies_in (state g was))
    → IsTrue (state g is).is_open → IsTrue one → IsLast (cookies_in (state g was)) (pos last))
    (same : IsKnown (state g was) → IsTrue (state g is).is_open
    → KeepsDatabase (state g was) (state g is))
    (opened : IsTrue (state g is).is_open → IsTrue (state g was).is_open) where
  the_one : IsTrue knows → IsTrue (state g is).is_open
      → IsLast (cookies_in (state g was)) (pos last)
  the_one k o =
      let a = all k in
      found (known a.1.0) (cookies a.0 (opened o)) o a.1.1

  pub settled : (IsTrue numbered → IsTrue (state g was).is_open → AreNumbered (rows_in (state g was)))
      → last < 2 ^ 63 → KeepsRows g knows last is
  settled rows range = record {
    in_range = range;
    rests = λ k o.
        let a = all k in
        let s = same (known a.1.0) o in (
          rests_stays (state g was) (state g is) (known a.1.0, rows a.0 (opened o)) s,
          subst (λ (d : Database). IsLast (d.trees 6) (pos last)) (sym s.now) (the_one k o),
        );
  }

  pub settled_goes_on : (before faults : ℕ) → IsLast (cookies_in (state g was)) (pos before)
      → GoesOn g (state g was) before (record {
        connection = is;
        last = last;
        faults = faults;
        knows = knows;
      })
  settled_goes_on before faults was_last may =
      let k = when knows (state g is).is_open may in
      let a = all k.0 in (
        ap (λ (d : Database). d.trees 3) (same (known a.1.0) k.1).now,
        one_value (cookies_in (state g was)) last before (the_one k.0 k.1) was_last,
      )

-- ---- what was opened anew goes on

pub goes_on_then : {S : Type 0} (g : Ghosts S) (first made again : State) (last : ℕ)
    (r : Result (OverDatabase (Held S)) Failure) → KeepsReady first made → HasRowsOf made again
    → IsReady first last
    → IfOk r (λ k. IsTrue (may_tell g k) → IsTrue again.is_open)
    → (IsLast (cookies_in again) (pos last) → IfOk r (GoesOn g again last))
    → IfOk r (GoesOn g first last)
goes_on_then g first made again last (Err e) k h ready opened on = tt
goes_on_then g first made again last (Ok keeper) k h ready opened on = λ may.
    let o = opened may in
    let s = k.same last ready (h.was_open o) in
    let trees = h.trees s.mode o in
    let one : IsLast (cookies_in again) (pos last) =
    subst (λ t. IsLast (t 6) (pos last)) (sym trees)
    (subst (λ (d : Database). IsLast (d.trees 6) (pos last)) (sym s.now) ready.one) in
    let here = on one may in (
      here.0 ∙ ap (λ (t : Trees). t 3) trees ∙ ap (λ (d : Database). d.trees 3) s.now,
      here.1,
    )
