-- What one entry of a key does to the lock on its item: who has it, until when, and with what
-- content.
use Rattle.std.proofs.Common.{◌≡◌, ℕ, ◌+◌, ◌*◌, ◌≤◌, ◌<◌, min, Bool, true, false, cond, ◌&&◌, List, Some, None, Option, refl, sym, ap, ◌∙◌, arith, subst, inl, inr}
use Rattle.std.specs.Prelude.{◌⊎◌, ◌==◌}
use Rattle.std.proofs.lemmas.Bool.Decides.{nat_tests}
use Rattle.asp_messages.specs.declared.request.Ask.{Ask}
use Rattle.asp_messages.specs.declared.request.Ask.TheVariants.{Read, Acquire, Release, Write, Remove, Reset}
use Rattle.asp_messages.specs.declared.reply.Reply.{Reply}
use Rattle.asp_messages.specs.declared.reply.Reply.TheVariants as replies
use Rattle.session_machine.specs.declared.entry.Entry.{Entry}
use Rattle.session_machine.specs.declared.entry.Deed.{Deed}
use Rattle.session_machine.specs.declared.entry.Deed.TheVariants.{Asked, Expired, Looked}
use Rattle.session_machine.specs.declared.item.Item.{Item}
use Rattle.session_machine.specs.declared.item.Profile.{Profile}
use Rattle.session_machine.specs.declared.item.Hold.{Hold}
use Rattle.session_machine.specs.Liveness.{seen, is_live}
use Rattle.session_machine.specs.Machine.{Effect, on_absent, on_free, on_held, on_there, on_seen, effect, Step}
use Rattle.session_machine.specs.History.{after_reply, after_deed, circumstances_of, DeedStands, is_deed_of}
use Rattle.lock_laws.specs.InForce.{Grant, granted, grant_under, grant_of, life_of, life_by, runs_out, ends, prolongs, is_given_up, is_refused}
use Rattle.lock_laws.specs.Laws.{named_by, named_in, is_asked, is_change, IsAnsweredUnderLock}

-- What the entry does to the lock, said of the item before and after it.
pub record OneEntry (old : Option Item) (e : Entry) (new : Option Item) : Type 0 where
  -- a lock that is there and is not ended stays, with its content, and is prolonged as the words
  -- say
  pub keeps : (grant : Grant) → grant_of old ≡ Some grant
      → ends grant.cookie (runs_out grant (life_of old)) e ≡ false
      → (grant_of new ≡ Some grant) × (life_of new ≡ life_by (life_of old) e)
  -- a lock that is there afterwards was granted by the entry, or was there and is not ended
  pub comes : (grant : Grant) → grant_of new ≡ Some grant
      → (granted e.reply ≡ Some grant) ⊎ ((grant_of old ≡ Some grant)
      × (ends grant.cookie (runs_out grant (life_of old)) e ≡ false))
  -- what is granted is there afterwards, under the cookie that was drawn
  pub gives : (grant : Grant) → granted e.reply ≡ Some grant
      → (grant_of new ≡ Some grant) × (e.drawn ≡ grant.cookie) × (0 < e.drawn)
  -- nothing is granted where a lock is there
  pub refuses : (grant : Grant) → grant_of old ≡ Some grant → granted e.reply ≡ None
  -- a named cookie acts only where its lock is there and has not run out
  pub stale : (cookie : ℕ) → named_by e.deed ≡ Some cookie
      → (seen new e.moment ≡ seen old e.moment)
      ⊎ ((grant : Grant) × (grant_of old ≡ Some grant) × (grant.cookie ≡ cookie)
      × (e.moment < runs_out grant (life_of old)))
  -- and there it is answered
  pub answers : (grant : Grant) → grant_of old ≡ Some grant
      → e.moment < runs_out grant (life_of old) → named_by e.deed ≡ Some grant.cookie
      → IsAnsweredUnderLock e.reply
  -- where a lock is there, a change that acts ends it, and names its cookie unless it has run out
  pub others : (grant : Grant) → grant_of old ≡ Some grant → is_asked is_change e.deed ≡ true
      → (seen new e.moment ≡ seen old e.moment)
      ⊎ ((ends grant.cookie (runs_out grant (life_of old)) e ≡ true)
      × (e.moment < runs_out grant (life_of old) → named_by e.deed ≡ Some grant.cookie))

-- the entry with this request and this reply
abbrev asked : Entry → List ℕ → Ask → Reply → Entry
asked e key ask reply = record e { deed = Asked (record { key = key; ask = ask }); reply = reply }

-- the effect is that of such an entry
abbrev Does : Option Item → Entry → List ℕ → Ask → Effect → Type 0
Does old e key ask x = OneEntry old (asked e key ask x.0) x.1

-- ---- a refusal changes nothing

refused-entry : (old : Option Item) (e : Entry) (key : List ℕ) (ask : Ask) (reply : Reply)
    → granted reply ≡ None → is_refused reply ≡ true
    → prolongs (Asked (record { key = key; ask = ask })) reply ≡ false
    → ((cookie : ℕ) → is_given_up cookie (Asked (record { key = key; ask = ask })) reply
    ≡ false)
    → (named_in ask ≡ None) ⊎ IsAnsweredUnderLock reply → OneEntry old (asked e key ask reply) old
refused-entry old e key ask reply none refused same stays fine = record {
  keeps = λ grant g n. (g, rw same refl);
  comes = λ grant g. inr (g, rw (stays grant.cookie, refused) (and-false _));
  gives = λ grant g. absurd (cc (none, g));
  refuses = λ grant g. none;
  stale = λ cookie n. inl refl;
  answers = λ grant g l n. elim fine [ inl unnamed ↦ absurd (cc (unnamed, n)) | inr p ↦ p ];
  others = λ grant g c. inl refl;
}
  where
    and-false : (b : Bool) → (b && false) ≡ false
    and-false true = refl
    and-false false = refl

-- ---- nothing is found

-- the minutes that an item was granted with are its own
granted-minutes : (holder : Option Hold) (item : Item) (grant : Grant)
    → grant_under holder item ≡ Some grant → grant.minutes ≡ item.minutes
granted-minutes None item grant g = absurd (cc g)
granted-minutes (Some hold) item grant g = grind arith

-- an item that is not seen has run out
dead : (old : Option Item) (t : ℕ) (grant : Grant) → seen old t ≡ None → grant_of old ≡ Some grant
    → runs_out grant (life_of old) ≤ t
dead None t grant h g = absurd (cc g)
dead (Some item) t grant h g = by_life (is_live item t) refl h
  where
    by_life : (b : Bool) → is_live item t ≡ b → cond b (Some item) None ≡ None
        → runs_out grant (life_of (Some item)) ≤ t
    by_life true l n = absurd (cc n)
    by_life false l n = let m : grant.minutes ≡ item.minutes =
        granted-minutes item.holder item grant g in grind (arith, nat_tests)

absent-does : (profile : Profile) (old : Option Item) (e : Entry) (key : List ℕ) (ask : Ask)
    → seen old e.moment ≡ None
    → Does old e key ask (on_absent profile e.moment ask)
absent-does profile old e key Read h = record {
  keeps = λ grant g n. let d : runs_out grant (life_of old) ≤ e.moment =
      dead old e.moment grant h g in grind (arith, nat_tests);
  comes = λ grant g. grind (arith, nat_tests);
  gives = λ grant g. grind (arith, nat_tests);
  refuses = λ grant g. refl;
  stale = λ c n. grind (arith, nat_tests);
  answers = λ grant g l n. let d : runs_out grant (life_of old) ≤ e.moment =
      dead old e.moment grant h g in absurd (omega arith);
  others = λ grant g c. let d : runs_out grant (life_of old) ≤ e.moment =
      dead old e.moment grant h g in grind (arith, nat_tests);
}
absent-does profile old e key Acquire h = record {
  keeps = λ grant g n. let d : runs_out grant (life_of old) ≤ e.moment =
      dead old e.moment grant h g in grind (arith, nat_tests);
  comes = λ grant g. grind (arith, nat_tests);
  gives = λ grant g. grind (arith, nat_tests);
  refuses = λ grant g. refl;
  stale = λ c n. grind (arith, nat_tests);
  answers = λ grant g l n. let d : runs_out grant (life_of old) ≤ e.moment =
      dead old e.moment grant h g in absurd (omega arith);
  others = λ grant g c. let d : runs_out grant (life_of old) ≤ e.moment =
      dead old e.moment grant h g in grind (arith, nat_tests);
}
absent-does profile old e key (Release cookie) h = record {
  keeps = λ grant g n. let d : runs_out grant (life_of old) ≤ e.moment =
      dead old e.moment grant h g in grind (arith, nat_tests);
  comes = λ grant g. grind (arith, nat_tests);
  gives = λ grant g. grind (arith, nat_tests);
  refuses = λ grant g. refl;
  stale = λ c n. grind (arith, nat_tests);
  answers = λ grant g l n. let d : runs_out grant (life_of old) ≤ e.moment =
      dead old e.moment grant h g in absurd (omega arith);
  others = λ grant g c. let d : runs_out grant (life_of old) ≤ e.moment =
      dead old e.moment grant h g in grind (arith, nat_tests);
}
absent-does profile old e key (Write body minutes fresh None) h = record {
  keeps = λ grant g n. let d : runs_out grant (life_of old) ≤ e.moment =
      dead old e.moment grant h g in grind (arith, nat_tests);
  comes = λ grant g. grind (arith, nat_tests);
  gives = λ grant g. grind (arith, nat_tests);
  refuses = λ grant g. refl;
  stale = λ c n. grind (arith, nat_tests);
  answers = λ grant g l n. let d : runs_out grant (life_of old) ≤ e.moment =
      dead old e.moment grant h g in absurd (omega arith);
  others = λ grant g c. let d : runs_out grant (life_of old) ≤ e.moment =
      dead old e.moment grant h g in grind (arith, nat_tests);
}
absent-does profile old e key (Write body minutes fresh (Some cookie)) h = record {
  keeps = λ grant g n. let d : runs_out grant (life_of old) ≤ e.moment =
      dead old e.moment grant h g in grind (arith, nat_tests);
  comes = λ grant g. grind (arith, nat_tests);
  gives = λ grant g. grind (arith, nat_tests);
  refuses = λ grant g. refl;
  stale = λ c n. grind (arith, nat_tests);
  answers = λ grant g l n. let d : runs_out grant (life_of old) ≤ e.moment =
      dead old e.moment grant h g in absurd (omega arith);
  others = λ grant g c. let d : runs_out grant (life_of old) ≤ e.moment =
      dead old e.moment grant h g in grind (arith, nat_tests);
}
absent-does profile old e key (Remove cookie) h = record {
  keeps = λ grant g n. let d : runs_out grant (life_of old) ≤ e.moment =
      dead old e.moment grant h g in grind (arith, nat_tests);
  comes = λ grant g. grind (arith, nat_tests);
  gives = λ grant g. grind (arith, nat_tests);
  refuses = λ grant g. refl;
  stale = λ c n. grind (arith, nat_tests);
  answers = λ grant g l n. let d : runs_out grant (life_of old) ≤ e.moment =
      dead old e.moment grant h g in absurd (omega arith);
  others = λ grant g c. let d : runs_out grant (life_of old) ≤ e.moment =
      dead old e.moment grant h g in grind (arith, nat_tests);
}
absent-does profile old e key Reset h = record {
  keeps = λ grant g n. let d : runs_out grant (life_of old) ≤ e.moment =
      dead old e.moment grant h g in grind (arith, nat_tests);
  comes = λ grant g. grind (arith, nat_tests);
  gives = λ grant g. grind (arith, nat_tests);
  refuses = λ grant g. refl;
  stale = λ c n. grind (arith, nat_tests);
  answers = λ grant g l n. let d : runs_out grant (life_of old) ≤ e.moment =
      dead old e.moment grant h g in absurd (omega arith);
  others = λ grant g c. let d : runs_out grant (life_of old) ≤ e.moment =
      dead old e.moment grant h g in grind (arith, nat_tests);
}

-- ---- a lock is found

-- what a request does under a lock, said of the lock's own grant
pub record UnderLock (item : Item) (hold : Hold) (e : Entry) (key : List ℕ) (ask : Ask)
    (x : Effect) : Type 0 where
  pub keeps : ends hold.cookie (min (item.touched + item.minutes * 60000) item.ends) (asked e key
      ask x.0) ≡ false
      → (grant_of x.1 ≡ Some (record {
        cookie = hold.cookie;
        body = item.body;
        minutes =
            item.minutes;
      })) × (life_of x.1 ≡ life_by (life_of (Some item)) (asked e key ask x.0))
  pub comes : (grant : Grant) → grant_of x.1 ≡ Some grant
      → (Some (record { cookie = hold.cookie; body = item.body; minutes = item.minutes })
      ≡ Some grant)
      × (ends hold.cookie (min (item.touched + item.minutes * 60000) item.ends) (asked e key ask
      x.0) ≡ false)
  pub refuses : granted x.0 ≡ None
  pub stale : (cookie : ℕ) → named_in ask ≡ Some cookie
      → (seen x.1 e.moment ≡ Some (record item { holder = Some hold })) ⊎ (hold.cookie ≡ cookie)
  pub answers : named_in ask ≡ Some hold.cookie → IsAnsweredUnderLock x.0
  pub others : is_change ask ≡ true
      → (seen x.1 e.moment ≡ Some (record item { holder = Some hold }))
      ⊎ ((named_in ask ≡ Some hold.cookie) × (ends hold.cookie (min (item.touched + item.minutes *
      60000) item.ends)
      (asked e key ask x.0) ≡ true))

held-does : (profile : Profile) (item : Item) (hold : Hold) (e : Entry) (key : List ℕ) (ask : Ask)
    → is_live item e.moment ≡ true → UnderLock item hold e key ask
    (on_held profile (record item { holder = Some hold }) hold e.moment ask)
held-does profile item hold e key Read h = record {
  keeps = λ n. grind (arith, nat_tests);
  comes = λ grant g. grind (arith, nat_tests);
  refuses = grind (arith, nat_tests);
  stale = λ c n. grind (arith, nat_tests);
  answers = λ n. grind (arith, nat_tests);
  others = λ c. grind (arith, nat_tests);
}
held-does profile item hold e key Acquire h = record {
  keeps = λ n. grind (arith, nat_tests);
  comes = λ grant g. grind (arith, nat_tests);
  refuses = grind (arith, nat_tests);
  stale = λ c n. grind (arith, nat_tests);
  answers = λ n. grind (arith, nat_tests);
  others = λ c. grind (arith, nat_tests);
}
held-does profile item hold e key (Release cookie) h = record {
  keeps = λ n. grind (arith, nat_tests);
  comes = λ grant g. grind (arith, nat_tests);
  refuses = grind (arith, nat_tests);
  stale = λ c n. grind (arith, nat_tests);
  answers = λ n. grind (arith, nat_tests);
  others = λ c. grind (arith, nat_tests);
}
held-does profile item hold e key (Write body minutes true None) h = record {
  keeps = λ n. grind (arith, nat_tests);
  comes = λ grant g. grind (arith, nat_tests);
  refuses = grind (arith, nat_tests);
  stale = λ c n. grind (arith, nat_tests);
  answers = λ n. grind (arith, nat_tests);
  others = λ c. grind (arith, nat_tests);
}
held-does profile item hold e key (Write body minutes false None) h = record {
  keeps = λ n. grind (arith, nat_tests);
  comes = λ grant g. grind (arith, nat_tests);
  refuses = grind (arith, nat_tests);
  stale = λ c n. grind (arith, nat_tests);
  answers = λ n. grind (arith, nat_tests);
  others = λ c. grind (arith, nat_tests);
}
held-does profile item hold e key (Write body minutes true (Some cookie)) h = record {
  keeps = λ n. grind (arith, nat_tests);
  comes = λ grant g. grind (arith, nat_tests);
  refuses = grind (arith, nat_tests);
  stale = λ c n. grind (arith, nat_tests);
  answers = λ n. grind (arith, nat_tests);
  others = λ c. grind (arith, nat_tests);
}
held-does profile item hold e key (Write body minutes false (Some cookie)) h = record {
  keeps = λ n. grind (arith, nat_tests);
  comes = λ grant g. grind (arith, nat_tests);
  refuses = grind (arith, nat_tests);
  stale = λ c n. grind (arith, nat_tests);
  answers = λ n. grind (arith, nat_tests);
  others = λ c. grind (arith, nat_tests);
}
held-does profile item hold e key (Remove None) h = record {
  keeps = λ n. grind (arith, nat_tests);
  comes = λ grant g. grind (arith, nat_tests);
  refuses = grind (arith, nat_tests);
  stale = λ c n. grind (arith, nat_tests);
  answers = λ n. grind (arith, nat_tests);
  others = λ c. grind (arith, nat_tests);
}
held-does profile item hold e key (Remove (Some cookie)) h = record {
  keeps = λ n. grind (arith, nat_tests);
  comes = λ grant g. grind (arith, nat_tests);
  refuses = grind (arith, nat_tests);
  stale = λ c n. grind (arith, nat_tests);
  answers = λ n. grind (arith, nat_tests);
  others = λ c. grind (arith, nat_tests);
}
held-does profile item hold e key Reset h = record {
  keeps = λ n. grind (arith, nat_tests);
  comes = λ grant g. grind (arith, nat_tests);
  refuses = grind (arith, nat_tests);
  stale = λ c n. grind (arith, nat_tests);
  answers = λ n. grind (arith, nat_tests);
  others = λ c. grind (arith, nat_tests);
}

-- a lock's own grant
abbrev own : Item → Hold → Grant
own item hold = record { cookie = hold.cookie; body = item.body; minutes = item.minutes }

-- what is said of the lock's own grant is said of each that the item stands for
lift : (item : Item) (hold : Hold) (e : Entry) (key : List ℕ) (ask : Ask) (x : Effect)
    → is_live item e.moment ≡ true → UnderLock item hold e key ask x
    → Does (Some (record item { holder = Some hold })) e key ask x
lift item hold e key ask x live under = record {
  keeps = λ grant g. of (λ gr. ends gr.cookie (runs_out gr (life_of (Some item))) (asked e key ask
      x.0)
      ≡ false → (grant_of x.1 ≡ Some gr) × (life_of x.1
      ≡ life_by (life_of (Some item)) (asked e key ask x.0))) grant g under.keeps;
  comes = λ grant g. let c = under.comes grant g in
      inr (
        c.0,
        of (λ gr. ends gr.cookie (runs_out gr (life_of (Some item))) (asked e key ask x.0) ≡ false)
            grant c.0 c.1,
      );
  gives = λ grant g. absurd (cc (under.refuses, g));
  refuses = λ grant g. under.refuses;
  stale = λ cookie n. elim (under.stale cookie n) [
    | inl same ↦ inl (same ∙ sym alive)
    | inr is ↦ inr
        (own item hold, refl, is, grind (arith, nat_tests))
  ];
  answers = λ grant g l. of (λ gr. named_in ask ≡ Some gr.cookie → IsAnsweredUnderLock x.0) grant g
      under.answers;
  others = λ grant g c. of
      (λ gr.
      (seen x.1 e.moment ≡ seen (Some (record item { holder = Some hold })) e.moment)
      ⊎ ((ends gr.cookie (runs_out gr (life_of (Some item))) (asked e key ask x.0) ≡ true)
      × (e.moment < runs_out gr (life_of (Some item)) → named_in ask ≡ Some gr.cookie))) grant g
      (elim (under.others c) [
        | inl same ↦ inl (same ∙ sym alive)
        | inr is ↦ inr (is.1, λ _. is.0)
      ]);
}
  where
    of : (P : Grant → Type 0) (grant : Grant) → Some (own item hold) ≡ Some grant
        → P (own item hold) → P grant
    of P grant g p = let same : own item hold ≡ grant = cc in subst P same p

    alive : seen (Some (record item { holder = Some hold })) e.moment
        ≡ Some (record item { holder = Some hold })
    alive = ap (λ b. cond b (Some (record item { holder = Some hold })) None) live

-- ---- an item without a lock is found

free-does : (item : Item) (e : Entry) (key : List ℕ) (ask : Ask) → is_live item e.moment ≡ true
    → (ask ≡ Acquire → 0 < e.drawn)
    → Does (Some (record item { holder = None })) e key ask
    (on_free (record item { holder = None }) e.moment e.drawn ask)
free-does item e key Read h draw = record {
  keeps = λ grant g n. absurd (cc g);
  comes = λ grant g. absurd (cc g);
  gives = λ grant g. absurd (cc g);
  refuses = λ grant g. absurd (cc g);
  stale = λ c n. grind (arith, nat_tests);
  answers = λ grant g. absurd (cc g);
  others = λ grant g. absurd (cc g);
}
free-does item e key Acquire h draw = record {
  keeps = λ grant g n. absurd (cc g);
  comes = λ grant g. inl g;
  gives = λ grant g. (g, grind arith, draw refl);
  refuses = λ grant g. absurd (cc g);
  stale = λ c n. grind (arith, nat_tests);
  answers = λ grant g. absurd (cc g);
  others = λ grant g. absurd (cc g);
}
free-does item e key (Release cookie) h draw = record {
  keeps = λ grant g n. absurd (cc g);
  comes = λ grant g. absurd (cc g);
  gives = λ grant g. absurd (cc g);
  refuses = λ grant g. absurd (cc g);
  stale = λ c n. grind (arith, nat_tests);
  answers = λ grant g. absurd (cc g);
  others = λ grant g. absurd (cc g);
}
free-does item e key (Write body minutes true None) h draw = record {
  keeps = λ grant g n. absurd (cc g);
  comes = λ grant g. absurd (cc g);
  gives = λ grant g. absurd (cc g);
  refuses = λ grant g. absurd (cc g);
  stale = λ c n. grind (arith, nat_tests);
  answers = λ grant g. absurd (cc g);
  others = λ grant g. absurd (cc g);
}
free-does item e key (Write body minutes false None) h draw = record {
  keeps = λ grant g n. absurd (cc g);
  comes = λ grant g. absurd (cc g);
  gives = λ grant g. absurd (cc g);
  refuses = λ grant g. absurd (cc g);
  stale = λ c n. grind (arith, nat_tests);
  answers = λ grant g. absurd (cc g);
  others = λ grant g. absurd (cc g);
}
free-does item e key (Write body minutes true (Some cookie)) h draw = record {
  keeps = λ grant g n. absurd (cc g);
  comes = λ grant g. absurd (cc g);
  gives = λ grant g. absurd (cc g);
  refuses = λ grant g. absurd (cc g);
  stale = λ c n. grind (arith, nat_tests);
  answers = λ grant g. absurd (cc g);
  others = λ grant g. absurd (cc g);
}
free-does item e key (Write body minutes false (Some cookie)) h draw = record {
  keeps = λ grant g n. absurd (cc g);
  comes = λ grant g. absurd (cc g);
  gives = λ grant g. absurd (cc g);
  refuses = λ grant g. absurd (cc g);
  stale = λ c n. grind (arith, nat_tests);
  answers = λ grant g. absurd (cc g);
  others = λ grant g. absurd (cc g);
}
free-does item e key (Remove None) h draw = record {
  keeps = λ grant g n. absurd (cc g);
  comes = λ grant g. absurd (cc g);
  gives = λ grant g. absurd (cc g);
  refuses = λ grant g. absurd (cc g);
  stale = λ c n. grind (arith, nat_tests);
  answers = λ grant g. absurd (cc g);
  others = λ grant g. absurd (cc g);
}
free-does item e key (Remove (Some cookie)) h draw = record {
  keeps = λ grant g n. absurd (cc g);
  comes = λ grant g. absurd (cc g);
  gives = λ grant g. absurd (cc g);
  refuses = λ grant g. absurd (cc g);
  stale = λ c n. grind (arith, nat_tests);
  answers = λ grant g. absurd (cc g);
  others = λ grant g. absurd (cc g);
}
free-does item e key Reset h draw = record {
  keeps = λ grant g n. absurd (cc g);
  comes = λ grant g. absurd (cc g);
  gives = λ grant g. absurd (cc g);
  refuses = λ grant g. absurd (cc g);
  stale = λ c n. grind (arith, nat_tests);
  answers = λ grant g. absurd (cc g);
  others = λ grant g. absurd (cc g);
}

-- ---- what is found decides

does-seen : (profile : Profile) (old : Option Item) (e : Entry) (key : List ℕ) (ask : Ask)
    → (ask ≡ Acquire → 0 < e.drawn) → Does old e key ask
    (on_seen profile (seen old e.moment) e.moment e.drawn ask)
does-seen profile None e key ask draw = absent-does profile None e key ask refl
does-seen profile (Some item) e key ask draw = by_life (is_live item e.moment) refl
  where
    there : (holder : Option Hold) → is_live item e.moment ≡ true
        → Does (Some (record item { holder = holder })) e key ask
        (on_there profile (record item { holder = holder }) holder e.moment e.drawn ask)
    there None live = free-does item e key ask live draw
    there (Some hold) live = lift item hold e key ask _ live (held-does profile item hold e key ask
        live)

    by_life : (b : Bool) → is_live item e.moment ≡ b
        → Does (Some item) e key ask (on_seen profile (cond b (Some item) None) e.moment e.drawn
        ask)
    by_life true live = there item.holder live
    by_life false live = absent-does profile (Some item) e key ask (ap (λ b. cond b (Some item)
        None) live)

-- what the machine does by itself
does : (profile : Profile) (old : Option Item) (e : Entry) (key : List ℕ) (ask : Ask)
    → Does old e key ask (effect profile old e.moment e.drawn ask)
does profile old e key Acquire = by_draw (e.drawn == 0) refl
  where
    by_draw : (b : Bool) → (e.drawn == 0) ≡ b
        → Does old e key Acquire (cond b (replies.CookiesOut, old)
        (on_seen profile (seen old e.moment) e.moment e.drawn Acquire))
    by_draw true d = refused-entry old e key Acquire replies.CookiesOut refl refl refl
        (λ cookie. refl) (inl refl)
    by_draw false d = does-seen profile old e key Acquire (λ _. grind (arith, nat_tests))
does profile old e key Read = does-seen profile old e key Read (λ a. absurd (cc a))
does profile old e key (Release cookie) = does-seen profile old e key (Release cookie) (λ a. absurd
    (cc a))
does profile old e key (Write body minutes fresh cookie) =
    does-seen profile old e key (Write body minutes fresh cookie) (λ a. absurd (cc a))
does profile old e key (Remove cookie) = does-seen profile old e key (Remove cookie) (λ a. absurd
    (cc a))
does profile old e key Reset = does-seen profile old e key Reset (λ a. absurd (cc a))

-- what it does so, by the reply that was given
by_reply : (profile : Profile) (old : Option Item) (e : Entry) (key : List ℕ) (ask : Ask) (reply :
    Reply)
    → (reply, (effect profile old e.moment e.drawn ask).1) ≡ effect profile old e.moment e.drawn ask
    → OneEntry old (asked e key ask reply) (effect profile old e.moment e.drawn ask).1
by_reply profile old e key ask reply h =
    subst (λ r. OneEntry old (asked e key ask r) (effect profile old e.moment e.drawn ask).1)
    (sym (ap (λ (x : Effect). x.0) h)) (does profile old e key ask)

asked-does : (profile : Profile) (old : Option Item) (e : Entry) (key : List ℕ) (ask : Ask) (rose :
    Bool)
    (reply : Reply) → Step profile old ask (circumstances_of rose e) reply
    (after_reply profile old e.moment e.drawn ask reply)
    → OneEntry old (asked e key ask reply) (after_reply profile old e.moment e.drawn ask reply)
asked-does profile old e key ask rose replies.NoMemory h =
    refused-entry old e key ask replies.NoMemory refl refl refl (λ cookie. refl) (inr tt)
asked-does profile old e key ask rose replies.KeeperFault h =
    refused-entry old e key ask replies.KeeperFault refl refl refl (λ cookie. refl) (inr tt)
asked-does profile old e key ask rose (replies.Found body minutes cookie first) h =
    by_reply profile old e key ask (replies.Found body minutes cookie first) h
asked-does profile old e key ask rose replies.Done h = by_reply profile old e key ask replies.Done h
asked-does profile old e key ask rose (replies.Locked cookie a since) h =
    by_reply profile old e key ask (replies.Locked cookie a since) h
asked-does profile old e key ask rose replies.Missing h = by_reply profile old e key ask
    replies.Missing h
asked-does profile old e key ask rose replies.Bad h = by_reply profile old e key ask replies.Bad h
asked-does profile old e key ask rose replies.CookiesOut h = by_reply profile old e key ask
    replies.CookiesOut h
asked-does profile old e key ask rose replies.PlacesOut h = by_reply profile old e key ask
    replies.PlacesOut h

-- an item that has expired, removed
expired-does : (old : Option Item) (e : Entry) (key : List ℕ)
    → OneEntry old (record e { deed = Expired key; reply = replies.Done }) None
expired-does old e key = record {
  keeps = λ grant g n. absurd (cc n);
  comes = λ grant g. absurd (cc g);
  gives = λ grant g. absurd (cc g);
  refuses = λ grant g. refl;
  stale = λ cookie n. absurd (cc n);
  answers = λ grant g l n. absurd (cc n);
  others = λ grant g c. absurd (cc c);
}

-- What each deed of a key does.
pub one_entry : (profile : Profile) (old : Option Item) (e : Entry) (key : List ℕ) (rose : Bool)
    (deed : Deed)
    → is_deed_of key deed ≡ true → DeedStands profile old rose deed e
    → OneEntry old (record e { deed = deed }) (after_deed profile old deed e)
one_entry profile old e key rose (Asked request) on stands =
    asked-does profile old e request.key request.ask rose e.reply stands
one_entry profile old e key rose (Expired other) on stands =
    subst (λ r. OneEntry old (record e { deed = Expired other; reply = r }) None) (sym stands.1)
    (expired-does old e other)
one_entry profile old e key rose Looked on stands = absurd (cc on)
