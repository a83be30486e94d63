-- A block of the keeper as cookies that were set aside.
use Rattle.std.proofs.Common.{◌≡◌, ◌⊎◌, inl, inr, ℕ, zero, suc, ◌+◌, ◌<◌, ◌≤◌, List, Some, None, Option, Ok, Err, Result, max, refl, sym, ap, arith}
use Rattle.std.specs.Prelude.{IfOk, IfSome, IsErrOf}
use Rattle.asp_messages.specs.Fields.{most_cookie}
use Rattle.block_keeper.specs.Blocks.{IsBlock, IsHeldIn, IsLeast, KeepsFloor, TellsLeast}
use Rattle.cookie_source.specs.Counting.{Counter}
use Rattle.keeper.specs.KeeperCauses.{HasKeepCause}
use Rattle.keeper.specs.declared.keeping.KeepError.{KeepError}
use Rattle.keeper.specs.declared.keeping.KeepError.TheVariants.{Fault}
use Rattle.plain_desk.specs.Openings.{HasFreshCookies, Opening, cookies_of, told_items}
use Rattle.session_machine.specs.History.{IsHeldBelow}
use Rattle.session_machine.specs.declared.item.Hold.{Hold}
use Rattle.session_machine.specs.declared.item.Item.{Item}
use Rattle.sqlite_keeper.specs.Blocks.{CanBeDrawn, HoldsBelow, IsBlockFrom, IsCookie, IsGreatestHeld, TellsBlock, counter_answer, counter_of, most_of_cookies, told_last}
use Rattle.sqlite_keeper.specs.Keeping.{faults_after, told_faults}
use Rattle.sqlite_keeper.specs.Rows.{cookie_of}
use Rattle.sqlite_keeper.specs.declared.cookie_block.CookieBlock.{CookieBlock}

pub can_be_drawn : {E : Type 0} (at_least : ℕ) (r : Result (Option CookieBlock) E) → IsCookie at_least
    → IfOk r (λ b. IfSome b (IsBlockFrom at_least)) → IfOk r (λ b. IfSome b CanBeDrawn)
can_be_drawn at_least (Ok (Some block)) low is =
    let from = is.from in
    let cookie = is.cookie in
    let last = is.last in
    (omega (arith, low.0), (omega arith, omega arith))
can_be_drawn at_least (Ok None) low is = tt
can_be_drawn at_least (Err e) low is = tt

pub aside_block : {E : Type 0} (at_least : ℕ) (r : Result (Option CookieBlock) E)
    → IfOk r (λ b. IfSome b (IsBlockFrom at_least))
    → IfOk (counter_answer r) (λ b. IfSome b (IsBlock at_least))
aside_block at_least (Ok (Some block)) is = record { from = is.from; cookie = is.cookie; last = is.last }
aside_block at_least (Ok None) is = tt
aside_block at_least (Err e) is = tt

pub aside_above : {E : Type 0} (floor : ℕ) (r : Result (Option CookieBlock) E)
    → IfOk r (λ b. IfSome b (λ block. floor < block.first))
    → IfOk (counter_answer r) (λ b. IfSome b (λ c. floor < c.next))
aside_above floor (Ok (Some block)) is = is
aside_above floor (Ok None) is = tt
aside_above floor (Err e) is = tt

-- ---- each cookie that is held is below them

held_below : (item : Item) (first : ℕ) (lock : Option Hold) → item.holder ≡ lock
    → cookie_of lock < first → IfSome lock (λ h. h.cookie < first)
held_below item first None is low = tt
held_below item first (Some hold) is low = low

below_item : (first : ℕ) (found : Option Item)
    → ((item : Item) → found ≡ Some item → cookie_of item.holder < first)
    → IsHeldBelow first found
below_item first None low = tt
below_item first (Some item) low = held_below item first item.holder refl (low item refl)

fresh_items : (told : Option (List ℕ → Option Item)) (first : ℕ) → HoldsBelow told first
    → (key : List ℕ) → IsHeldBelow first (told_items told key)
fresh_items None first low key = tt
fresh_items (Some items) first low key = below_item first (items key) (low key)

abbrev opening_of : Option (List ℕ → Option Item) → ℕ → Counter → Opening
opening_of told count cookies =
    record { items = told_items told; count = count; cookies = cookies }

pub aside_fresh : {E : Type 0} (told : Option (List ℕ → Option Item)) (count : ℕ)
    (r : Result (Option CookieBlock) E)
    → IfOk r (λ b. IfSome b (λ block. HoldsBelow told block.first))
    → IfOk (counter_answer r) (λ c. HasFreshCookies (opening_of told count (cookies_of c)))
aside_fresh told count (Ok (Some block)) low = λ left. fresh_items told block.first low
aside_fresh told count (Ok None) low = λ left. absurd (omega (arith, left))
aside_fresh told count (Err e) low = tt

-- ---- they begin no later than they have to

of_lock : (items : List ℕ → Option Item) (key : List ℕ) (item : Item) (lock : Option Hold) (held : ℕ)
    → items key ≡ Some item → item.holder ≡ lock → held ≡ cookie_of lock
    → (held ≡ 0) ⊎ IsHeldIn items held
of_lock items key item None held there is same = inl same
of_lock items key item (Some hold) held there is same = inr (key, item, hold, there, is, sym same)

held_in : (items : List ℕ → Option Item) (held : ℕ) → IsGreatestHeld items held
    → (held ≡ 0) ⊎ IsHeldIn items held
held_in items held g = elim g.held [
  | inl none ↦ inl none
  | inr it ↦ of_lock items it.0 it.1 it.1.holder held it.2 refl it.3
]

which : (a b : ℕ) → (a ≤ b) ⊎ (b < a)
which zero b = inl (omega arith)
which (suc a) zero = inr (omega arith)
which (suc a) (suc b) = elim (which a b) [
  | inl low ↦ inl (omega (arith, low))
  | inr high ↦ inr (omega (arith, high))
]

above_which : (first at_least last held : ℕ) → first ≡ max at_least (max last held + 1)
    → (first ≡ at_least) ⊎ ((first ≡ last + 1) ⊎ ((first ≡ held + 1) × (0 < held)))
above_which first at_least last held e = elim (which (max last held + 1) at_least) [
  | inl low ↦ inl (omega (arith, e, low))
  | inr high ↦ elim (which held last) [
    | inl less ↦ inr (inl (omega (arith, e, high, less)))
    | inr more ↦ inr (inr (omega (arith, e, high, more), omega (arith, more)))
  ]
]

least_of : (items : List ℕ → Option Item) (at_least last held : ℕ) (block : CookieBlock)
    → IsGreatestHeld items held → block.first ≡ max at_least (max last held + 1)
    → IsLeast at_least last items (Some (counter_of block))
least_of items at_least last held block g e = elim (above_which block.first at_least last held e) [
  | inl asked ↦ inl asked
  | inr above ↦ elim above [
    | inl floor ↦ inr (inl floor)
    | inr lock ↦ elim (held_in items held g) [
      | inl none ↦ absurd (omega (arith, none, lock.1))
      | inr it ↦ inr (inr (held, lock.0, it))
    ]
  ]
]

none_least : (items : List ℕ → Option Item) (at_least last held : ℕ) → IsGreatestHeld items held
    → most_of_cookies ≤ max last held → IsLeast at_least last items None
none_least items at_least last held g e = elim (which most_cookie last) [
  | inl floor ↦ inl floor
  | inr low ↦ elim (held_in items held g) [
    | inl none ↦ absurd (omega (arith, e, low, none))
    | inr it ↦ inr (held, omega (arith, e, low), it)
  ]
]

pub aside_least : {E : Type 0} (told : Option (List ℕ → Option Item)) (at_least last : ℕ)
    (r : Result (Option CookieBlock) E) → IfOk r (TellsBlock told last at_least)
    → IfOk (counter_answer r) (TellsLeast at_least last told)
aside_least None at_least last (Ok (Some block)) t = tt
aside_least None at_least last (Ok None) t = tt
aside_least (Some items) at_least last (Ok (Some block)) t =
    least_of items at_least last t.0 block t.1 t.2
aside_least (Some items) at_least last (Ok None) t = none_least items at_least last t.0 t.1 t.2
aside_least told at_least last (Err e) t = tt

-- ---- what is left

pub aside_floor : {E : Type 0} (last new : ℕ) (r : Result (Option CookieBlock) E)
    → new ≡ told_last last r → KeepsFloor last new (counter_answer r)
aside_floor last new (Ok (Some block)) e = e
aside_floor last new (Ok None) e = e
aside_floor last new (Err error) e = e

pub aside_counted : (before now : ℕ) (r : Result (Option CookieBlock) KeepError)
    → now ≡ faults_after before r
    → IfOk (counter_answer r) (λ b. told_faults now ≡ told_faults before)
aside_counted before now (Ok (Some block)) e = ap told_faults e
aside_counted before now (Ok None) e = ap told_faults e
aside_counted before now (Err error) e = tt

fails : (r : Result (Option CookieBlock) KeepError) → IsErrOf (counter_answer r) Fault
    → IsErrOf r Fault
fails (Ok (Some block)) f = absurd (let e = f in cc)
fails (Ok None) f = absurd (let e = f in cc)
fails (Err error) f = (let e = f in cc)

pub aside_cause : (before now : ℕ) (r : Result (Option CookieBlock) KeepError)
    → HasKeepCause before now r → HasKeepCause before now (counter_answer r)
aside_cause before now r c = record { later = c.later; failed = λ f. c.failed (fails r f) }
