-- What the keeper tells before and after a call.
use Rattle.std.proofs.Common.{◌≡◌, ℕ, ◌<◌, ◌^◌, pos, List, Bool, true, false, cond, Some, None, Option, Ok, Err, Result, OnOk, refl, sym, ap, subst, ◌∙◌, true≢false}
use Rattle.std.specs.Prelude.{IfOk, IsTrue, OnErr, ◌&&◌}
use Rattle.sqlite.specs.Held.{Held, state}
use Rattle.sqlite.specs.State.{State}
use Rattle.sqlite_trees.specs.declared.store.Store.{Ghosts}
use Rattle.sqlite_rows.specs.Calls.{IsKnown, KeepsDatabase, WritesItems}
use Rattle.sqlite_rows.specs.Cookies.{IsLast}
use Rattle.sqlite_rows.specs.Numbers.{AreNumbered}
use Rattle.keeper.specs.Due.{TellsDue}
use Rattle.keeper.specs.Items.{StillTells, TellsItem, TellsSets}
use Rattle.keeper.specs.declared.keeping.KeepError.{KeepError}
use Rattle.session_machine.specs.declared.item.Item.{Item}
use Rattle.sqlite_keeper.specs.Keeping.{KeepsRows, cookies_in, OverDatabase, Rests, may_tell, rows_in, told_by}
use Rattle.sqlite_keeper.specs.declared.failure.Failure.{Failure}
use Rattle.sqlite_keeper.specs.Blocks.{TellsBlock}
use Rattle.sqlite_keeper.specs.declared.cookie_block.CookieBlock.{CookieBlock}
use Rattle.sqlite_keeper.specs.Failures.{keeper_answer}
use Rattle.sqlite_keeper.specs.Told.{told_rows}

pub rests_stays : (old new : State) → Rests old → KeepsDatabase old new → Rests new
rests_stays old new r s = (
  (ap (λ (d : Rattle.sqlite.specs.Effect.Database). d.schema) s.now ∙ r.0.0, s.mode),
  subst AreNumbered (sym (ap (λ (d : Rattle.sqlite.specs.Effect.Database). d.trees 3) s.now)) r.1,
)

pub known_stays : (old new : State) → IsKnown old → KeepsDatabase old new → IsKnown new
known_stays old new k s = (
  ap (λ (d : Rattle.sqlite.specs.Effect.Database). d.schema) s.now
      ∙ k.0,
  s.mode,
)

pub rests_wrote : (old new : State) → WritesItems old new → AreNumbered (rows_in new) → Rests new
rests_wrote old new w n = ((w.schema, w.mode), n)

-- ---- the answer of a keeper

pub answer_if_ok : {T : Type 0} (P : T → Type 0) (q : Result T Failure) → IfOk q P
    → IfOk (keeper_answer q) P
answer_if_ok P (Ok x) p = p
answer_if_ok P (Err e) p = tt

pub answer_on_ok : {T : Type 0} (P : Type 0) (q : Result T Failure) → OnOk q P
    → OnOk (keeper_answer q) P
answer_on_ok P (Ok x) p = p
answer_on_ok P (Err e) p = tt

pub answer_on_err : {T : Type 0} (P : Type 0) (q : Result T Failure) → OnErr q P
    → OnErr (keeper_answer q) P
answer_on_err P (Ok x) p = tt
answer_on_err P (Err e) p = p

-- ---- what is told

pub same_still : (a : Option (List ℕ → Option Item)) → StillTells a a
same_still None = tt
same_still (Some x) = refl

pub when : (a b : Bool) → (a && b) ≡ true → (a ≡ true) × (b ≡ true)
when true b h = (refl, h)
when false b h = absurd (true≢false (sym h))

-- a keeper over one connection and then over another, which was open where that is
module _ {S : Type 0} (g : Ghosts S) (was is : Held S) (knows : Bool) (last m f n : ℕ)
    (opened : IsTrue (state g is).is_open → IsTrue (state g was).is_open)
    (inv : KeepsRows g knows last was) where
  abbrev before : State
  before = state g was

  abbrev after : State
  after = state g is

  abbrev old : OverDatabase (Held S)
  old = record { connection = was; last = last; faults = f; knows = knows }

  abbrev new : OverDatabase (Held S)
  new = record { connection = is; last = m; faults = n; knows = knows }

  -- what holds where it tells afterwards
  abbrev Tells : Type 0
  Tells = (knows ≡ true) × IsTrue after.is_open × IsTrue before.is_open × Rests before

  where_told : may_tell g new ≡ true → Tells
  where_told e = let both = when knows after.is_open e in let o = opened both.1 in
      (both.0, both.1, o, (inv.rests both.0 o).0)

  same_rows : KeepsDatabase before after → rows_in after ≡ rows_in before
  same_rows s = ap (λ (d : Rattle.sqlite.specs.Effect.Database). d.trees 3) s.now

  module _ (self : OverDatabase (Held S)) (view : old ≡ self) where
    pub still_rows : (IsKnown before → IsTrue after.is_open → rows_in after ≡ rows_in before)
        → StillTells (told_by g self) (told_by g new)
    still_rows same = subst (λ k. StillTells (told_by g k) (told_by g new)) view
        (by_new (may_tell g new) refl)
      where
        by_new : (b : Bool) → may_tell g new ≡ b
            → StillTells (told_by g old) (cond b (told_rows (rows_in after)) None)
        by_new false e = tt
        by_new true e =
            let t = where_told e in
            rw (t.0, t.2, same t.3.0 t.1) (same_still (told_rows (rows_in before)))

    pub still : (IsKnown before → IsTrue after.is_open → KeepsDatabase before after)
        → StillTells (told_by g self) (told_by g new)
    still stays = still_rows (λ k o. same_rows (stays k o))

    pub still_err : {T : Type 0} (r q : Result T KeepError) → r ≡ q
        → (IsKnown before → IsTrue after.is_open → OnErr q (KeepsDatabase before after))
        → OnErr r (StillTells (told_by g self) (told_by g new))
    still_err (Ok x) q e stays = tt
    still_err (Err x) q e stays = still
        (λ k o. subst (λ y. OnErr y (KeepsDatabase before after)) (sym e) (stays k o))

    pub sets : {T : Type 0} (r q : Result T KeepError) → r ≡ q → (key : List ℕ) (item : Option Item)
        → (Rests before → IsTrue after.is_open
        → OnOk q (TellsSets (told_rows (rows_in before)) (told_rows (rows_in after)) key item))
        → OnOk r (TellsSets (told_by g self) (told_by g new) key item)
    sets (Err x) q e key item writes = tt
    sets (Ok x) q e key item writes = subst (λ k. TellsSets (told_by g k) (told_by g new) key item)
        view (by_new (may_tell g new) refl)
      where
        none : (a : Option (List ℕ → Option Item)) → TellsSets a None key item
        none None = tt
        none (Some x) = tt

        by_new : (b : Bool) → may_tell g new ≡ b
            → TellsSets (told_by g old) (cond b (told_rows (rows_in after)) None) key item
        by_new false t = none (told_by g old)
        by_new true t =
            let h = where_told t in
            rw (h.0, h.2) (subst (λ y. OnOk y
            (TellsSets (told_rows (rows_in before)) (told_rows (rows_in after)) key item))
            (sym e) (writes h.3 h.1))

    pub item_by : (key : List ℕ) (r q : Result (Option Item) KeepError) → r ≡ q
        → (IsKnown before → IsTrue after.is_open → KeepsDatabase before after)
        → (Rests before → IsTrue after.is_open
        → IfOk q (TellsItem (told_rows (rows_in before)) key))
        → IfOk r (TellsItem (told_by g new) key)
    item_by key (Err x) q e stays told = tt
    item_by key (Ok item) q e stays told = by_new (may_tell g new) refl
      where
        by_new : (b : Bool) → may_tell g new ≡ b
            → TellsItem (cond b (told_rows (rows_in after)) None) key item
        by_new false t = tt
        by_new true t =
            let h = where_told t in
            subst (λ xs. TellsItem (told_rows xs) key item) (sym (same_rows (stays h.3.0 h.1)))
            (subst (λ y. IfOk y (TellsItem (told_rows (rows_in before)) key)) (sym e)
            (told h.3 h.1))

    pub due_by : (t : ℕ) (r q : Result (Option (List ℕ)) KeepError) → r ≡ q
        → (IsKnown before → IsTrue after.is_open → KeepsDatabase before after)
        → (Rests before → IsTrue after.is_open → IfOk q (TellsDue (told_rows (rows_in before)) t))
        → IfOk r (TellsDue (told_by g new) t)
    due_by t (Err x) q e stays told = tt
    due_by t (Ok key) q e stays told = by_new (may_tell g new) refl
      where
        by_new : (b : Bool) → may_tell g new ≡ b
            → TellsDue (cond b (told_rows (rows_in after)) None) t key
        by_new false m = tt
        by_new true m =
            let h = where_told m in
            subst (λ xs. TellsDue (told_rows xs) t key) (sym (same_rows (stays h.3.0 h.1)))
            (subst (λ y. IfOk y (TellsDue (told_rows (rows_in before)) t)) (sym e) (told h.3 h.1))

    pub block_by : (at_least : ℕ) (r q : Result (Option CookieBlock) KeepError) → r ≡ q
        → (IsKnown before → IsTrue after.is_open → rows_in after ≡ rows_in before)
        → (Rests before → IsTrue after.is_open
        → IfOk q (TellsBlock (told_rows (rows_in before)) last at_least))
        → IfOk r (TellsBlock (told_by g new) self.last at_least)
    block_by at_least r q e same told =
        subst (λ k. IfOk r (TellsBlock (told_by g new) k.last at_least)) view (by_answer r e)
      where
        by_answer : (r : Result (Option CookieBlock) KeepError) → r ≡ q
            → IfOk r (TellsBlock (told_by g new) last at_least)
        by_answer (Err x) e = tt
        by_answer (Ok block) e = by_new (may_tell g new) refl
          where
            by_new : (b : Bool) → may_tell g new ≡ b
                → TellsBlock (cond b (told_rows (rows_in after)) None) last at_least block
            by_new false t = tt
            by_new true t =
                let h = where_told t in
                subst (λ xs. TellsBlock (told_rows xs) last at_least block)
                (sym (same h.3.0 h.1))
                (subst (λ y. IfOk y (TellsBlock (told_rows (rows_in before)) last at_least))
                (sym e) (told h.3 h.1))

  -- a look for a block
  pub keeps_block : (IsKnown before → IsTrue after.is_open → IsKnown after)
      → (IsKnown before → IsTrue after.is_open → rows_in after ≡ rows_in before)
      → (IsKnown before → IsTrue after.is_open → IsLast (cookies_in before) (pos last)
      → IsLast (cookies_in after) (pos m)) → m < 2 ^ 63 → KeepsRows g knows m is
  keeps_block known rows cookies range = record {
    in_range = range;
    rests = λ k o.
        let i = inv.rests k (opened o) in
        let is_known = i.0.0 in (
          (known is_known o, subst AreNumbered (sym (rows is_known o)) i.0.1),
          cookies is_known o i.1,
        );
  }

  pub keeps : (Rests before → IsTrue after.is_open → Rests after)
      → (Rests before → IsTrue after.is_open → cookies_in after ≡ cookies_in before)
      → KeepsRows g knows last is
  keeps rests cookies = record {
    in_range = inv.in_range;
    rests = λ k o.
        let i = inv.rests k (opened o) in
        (rests i.0 o, subst (λ xs. IsLast xs (pos last)) (sym (cookies i.0 o)) i.1);
  }

  -- a call that leaves the database
  pub keeps_all : (IsKnown before → IsTrue after.is_open → KeepsDatabase before after)
      → KeepsRows g knows last is
  keeps_all stays = keeps (λ r o. rests_stays before after r (stays r.0 o))
      (λ r o. ap (λ (d : Rattle.sqlite.specs.Effect.Database). d.trees 6) (stays r.0 o).now)
