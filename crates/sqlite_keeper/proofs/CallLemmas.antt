-- Through the answers of the calls.
use Rattle.std.proofs.Common.{◌≡◌, ℕ, pos, ◌-◌, ◌^◌, List, Some, None, Option, Ok, Err, Result, OnOk, sym, ap, subst, ◌∙◌, true≢false}
use Rattle.std.specs.Prelude.{min, IfOk, IsOk, IsErr, OnErr}
use Rattle.sqlite_value.specs.Order.{Row}
use Rattle.sqlite.specs.declared.error.Error.{Error}
use Rattle.sqlite.specs.Effect.{Database}
use Rattle.sqlite.specs.State.{State}
use Rattle.sqlite_rows.specs.Calls.{KeepsDatabase, WritesItems}
use Rattle.sqlite_rows.specs.Cuts.{Cuts}
use Rattle.sqlite_rows.specs.Numbers.{AreNumbered}
use Rattle.sqlite_rows.specs.Puts.{Puts}
use Rattle.sqlite_rows.proofs.NumberLemmas.{have_ids}
use Rattle.sqlite_rows.proofs.ReplaceLemmas.{replaces}
use Rattle.sqlite_keeper.specs.Keeping.{Rests, cookies_in, rows_in}
use Rattle.sqlite_keeper.proofs.KeepLemmas.{rests_stays, rests_wrote}
use Rattle.sqlite_rows.specs.Dues.{FindsDue}
use Rattle.sqlite_rows.specs.Gets.{Gets}
use Rattle.sqlite_rows.specs.Uniques.{HaveOwnKeys}
use Rattle.asp_messages.specs.Ranges.{KeyFits}
use Rattle.keeper.specs.Due.{TellsDue}
use Rattle.keeper.specs.Items.{TellsItem, TellsSets}
use Rattle.sqlite_keeper.specs.declared.failure.Failure.{Failure}
use Rattle.session_machine.specs.declared.item.Item.{Item}
use Rattle.session_machine.specs.Liveness.{ItemFits}
use Rattle.sqlite_keeper.specs.Rows.{ReadsItem, ReadsKey}
use Rattle.sqlite_keeper.specs.Told.{IsChecked, fields_of, told_rows}
use Rattle.sqlite_keeper.proofs.DueLemmas.{due_told}
use Rattle.sqlite_keeper.proofs.ItemLemmas.{checked, cut_told, got_told, put_told}

pub got_by : (rows : List Row) (key : List ℕ) (row : Result (Option Row) Error)
    (item : Result (Option Item) Failure) → KeyFits key → HaveOwnKeys rows
    → IfOk row (Gets rows key)
    → IfOk item (λ x. IfOk row (λ r. ReadsItem r x)) → OnOk item (IsOk row)
    → IfOk item (TellsItem (told_rows rows) key)
got_by rows key row (Err e) fits own g s ok = tt
got_by rows key (Err e) (Ok item) fits own g s ok = absurd (true≢false (sym ok))
got_by rows key (Ok row) (Ok item) fits own g s ok = got_told rows key row item fits own g s

pub checked_by : (rows : List Row) (key : List ℕ) (row : Result (Option Row) Error)
    (item : Result (Option Item) Failure) → KeyFits key → HaveOwnKeys rows
    → IfOk row (Gets rows key)
    → IfOk item (λ x. IfOk row (λ r. ReadsItem r x)) → OnOk item (IsOk row)
    → OnOk item (IsChecked rows key)
checked_by rows key row (Err e) fits own g s ok = tt
checked_by rows key (Err e) (Ok item) fits own g s ok = absurd (true≢false (sym ok))
checked_by rows key (Ok row) (Ok item) fits own g s ok = checked rows key row item fits own g s

pub due_by : (rows : List Row) (t : ℕ) (row : Result (Option Row) Error)
    (key : Result (Option (List ℕ)) Failure) → HaveOwnKeys rows
    → IfOk row (FindsDue rows (pos (min t (2 ^ 63 - 1))))
    → IfOk key (λ k. IfOk row (λ r. ReadsKey r k)) → OnOk key (IsOk row)
    → IfOk key (TellsDue (told_rows rows) t)
due_by rows t row (Err e) own f s ok = tt
due_by rows t (Err e) (Ok key) own f s ok = absurd (true≢false (sym ok))
due_by rows t (Ok row) (Ok key) own f s ok = due_told rows t row key own f s

pub on_ok : {A B E F : Type 0} (P : Type 0) (count : Result A E) (done : Result B F) → OnOk count P
    → OnOk done (IsOk count) → OnOk done P
on_ok P count (Err e) p ok = tt
on_ok P (Ok n) (Ok x) p ok = p
on_ok P (Err e) (Ok x) p ok = absurd (true≢false (sym ok))

pub on_err : {A B E F : Type 0} (P : Type 0) (count : Result A E) (done : Result B F)
    → OnErr count P → OnErr done (IsErr count) → OnErr done P
on_err P count (Ok x) p err = tt
on_err P (Err e) (Err f) p err = p
on_err P (Ok n) (Err f) p err = absurd (true≢false (sym err))

-- ---- a write behind a read

pub put_by : (old mid new : State) (key : List ℕ) (item : Item) (r : Result (Unit {0}) Failure)
    → KeyFits key → ItemFits item → Rests old → KeepsDatabase old mid → HaveOwnKeys (rows_in old)
    → IsChecked (rows_in old) key
    → OnOk r (Puts (rows_in mid) (rows_in new) key (fields_of item) × WritesItems mid new
    × AreNumbered (rows_in new))
    → OnOk r (TellsSets (told_rows (rows_in old)) (told_rows (rows_in new)) key (Some item))
put_by old mid new key item (Err e) fits range rests s own checks w = tt
put_by old mid new key item (Ok x) fits range rests s own checks w =
    let rows : rows_in mid ≡ rows_in old = ap (λ (d : Database). d.trees 3) s.now in
    let p = subst (λ xs. Puts xs (rows_in new) key (fields_of item)) rows w.0 in
    put_told (rows_in old) (rows_in new) key item fits range own
    (replaces (rows_in old) (rows_in new) key (fields_of item) own
    (have_ids (rows_in old) rests.1) p) checks

pub cut_by : (old mid new : State) (key : List ℕ) (count : Result ℕ Error)
    (r : Result (Unit {0}) Failure) → KeepsDatabase old mid → HaveOwnKeys (rows_in old)
    → IsChecked (rows_in old) key
    → OnOk count (Cuts (rows_in mid) (rows_in new) key × WritesItems mid new) → OnOk r (IsOk count)
    → OnOk r (TellsSets (told_rows (rows_in old)) (told_rows (rows_in new)) key None)
cut_by old mid new key count (Err e) s own checks w ok = tt
cut_by old mid new key (Err f) (Ok x) s own checks w ok = absurd (true≢false (sym ok))
cut_by old mid new key (Ok n) (Ok x) s own checks w ok =
    let rows : rows_in mid ≡ rows_in old = ap (λ (d : Database). d.trees 3) s.now in
    cut_told (rows_in old) (rows_in new) key own (subst (λ xs. Cuts xs (rows_in new) key) rows w.0)
    checks

pub cut_rests : (mid new : State) (key : List ℕ) (count : Result ℕ Error) → Rests mid
    → OnOk count (Cuts (rows_in mid) (rows_in new) key × WritesItems mid new)
    → OnErr count (KeepsDatabase mid new) → Rests new
cut_rests mid new key (Ok n) r w s = rests_wrote mid new w.1 w.0.numbered
cut_rests mid new key (Err e) r w s = rests_stays mid new r s

pub cut_stays : (old mid new : State) (count : Result ℕ Error) (r : Result (Unit {0}) Failure)
    → KeepsDatabase old mid → OnErr count (KeepsDatabase mid new) → OnErr r (IsErr count)
    → OnErr r (KeepsDatabase old new)
cut_stays old mid new count (Ok x) s t err = tt
cut_stays old mid new (Ok n) (Err e) s t err = absurd (true≢false (sym err))
cut_stays old mid new (Err f) (Err e) s t err = record {
  now = t.now ∙ s.now;
  was_open = s.was_open;
  mode = t.mode;
}

-- ---- the row of the last cookie

pub cookies_stay : (old new : State) → KeepsDatabase old new → cookies_in new ≡ cookies_in old
cookies_stay old new s = ap (λ (d : Database). d.trees 6) s.now

pub put_cookies : (A : Type 0) {B E : Type 0} (mid new : State) (r : Result B E)
    → OnOk r (A × WritesItems mid new × AreNumbered (rows_in new)) → OnErr r (KeepsDatabase mid new)
    → cookies_in new ≡ cookies_in mid
put_cookies A mid new (Ok x) w s = w.1.others.1
put_cookies A mid new (Err e) w s = cookies_stay mid new s

pub cut_cookies : (mid new : State) (key : List ℕ) (count : Result ℕ Error)
    → OnOk count (Cuts (rows_in mid) (rows_in new) key × WritesItems mid new)
    → OnErr count (KeepsDatabase mid new) → cookies_in new ≡ cookies_in mid
cut_cookies mid new key (Ok n) w s = w.1.others.1
cut_cookies mid new key (Err e) w s = cookies_stay mid new s
