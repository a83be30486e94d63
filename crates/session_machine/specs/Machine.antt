-- The session machine: what each request is answered, and what it leaves of its session's item
-- ([MS-ASP], section 3.1.5; the rules on cookies that are not in force, and on items that are
-- absent, are this project's own).
use Rattle.std.specs.Prelude.{◌≡◌, ℕ, List, max, Bool, true, false, Option, Some, None, ◌==◌, if◌then◌else◌, IsTrue}
use Rattle.asp_messages.specs.declared.request.Ask.{Ask}
use Rattle.asp_messages.specs.declared.request.Ask.TheVariants.{Read, Acquire, Release, Write, Remove, Reset}
use Rattle.asp_messages.specs.declared.reply.Reply.{Reply}
use Rattle.asp_messages.specs.declared.reply.Reply.TheVariants.{Found, Done, Locked, Missing, KeeperFault, NoMemory, CookiesOut}
use Rattle.session_machine.specs.declared.item.Item.{Item}
use Rattle.session_machine.specs.declared.item.Hold.{Hold}
use Rattle.session_machine.specs.declared.item.Profile.{Profile}
use Rattle.session_machine.specs.Liveness.{seen, age}
use Rattle.session_machine.specs.Profiles.{end_of, told_since}

-- a reply, and the item after it
abbrev pub Effect : Type 0
Effect = Reply × Option Item

-- an item that was touched at the moment; an earlier moment does not bring it back
abbrev pub touch : ℕ → Item → Item
touch t item = record item { touched = max item.touched t }

-- a free item that a write makes
abbrev pub made : Profile → ℕ → List ℕ → ℕ → Bool → Item
made profile t body minutes fresh = record {
  body = body;
  minutes = minutes;
  fresh = fresh;
  holder =
      None;
  touched = t;
  ends = end_of profile t;
}

-- where the session has no item
abbrev pub on_absent : Profile → ℕ → Ask → Effect
on_absent profile t (Write body minutes fresh None) =
    (Done, Some (made profile t body minutes fresh))
on_absent profile t ask = (Missing, None)

-- where it has an item and no lock
abbrev pub on_free : Item → ℕ → ℕ → Ask → Effect
on_free item t drawn Read = (
  Found item.body item.minutes None item.fresh,
  Some
      (touch t (record item { fresh = false })),
)
on_free item t drawn Acquire = (
  Found item.body item.minutes (Some drawn) item.fresh,
  Some (touch t (record item {
    fresh = false;
    holder =
        Some (record { cookie = drawn; since = t });
  })),
)
on_free item t drawn (Release cookie) = (Done, Some item)
on_free item t drawn (Write body minutes true None) = (Done, Some item)
on_free item t drawn (Write body minutes false None) =
    (Done, Some (touch t (record item { body = body; minutes = minutes; fresh = false })))
on_free item t drawn (Write body minutes fresh (Some cookie)) = (Locked 0 0 None, Some item)
on_free item t drawn (Remove None) = (Done, None)
on_free item t drawn (Remove (Some cookie)) = (Locked 0 0 None, Some item)
on_free item t drawn Reset = (Done, Some (touch t item))

-- the reply where a lock is in the way: its cookie, its age, and in the newest profile the moment
-- of its acquisition
abbrev pub in_the_way : Profile → Hold → ℕ → Reply
in_the_way profile hold t = Locked hold.cookie (age hold t) (told_since profile hold)

-- where it has an item under a lock
abbrev pub on_held : Profile → Item → Hold → ℕ → Ask → Effect
on_held profile item hold t (Release cookie) =
    if cookie == hold.cookie then (Done, Some (touch t (record item { holder = None }))) else
    (in_the_way profile hold t, Some item)
on_held profile item hold t (Write body minutes true None) = (Done, Some item)
on_held profile item hold t (Write body minutes fresh (Some cookie)) =
    if cookie == hold.cookie
    then (
      Done,
      Some (touch t (record item {
        body = body;
        minutes = minutes;
        fresh = fresh;
        holder =
            None;
      })),
    )
    else (in_the_way profile hold t, Some item)
on_held profile item hold t (Remove (Some cookie)) =
    if cookie == hold.cookie then (Done, None) else (in_the_way profile hold t, Some item)
on_held profile item hold t Reset = (Done, Some (touch t item))
on_held profile item hold t ask = (in_the_way profile hold t, Some item)

-- where it has an item, by its lock
abbrev pub on_there : Profile → Item → Option Hold → ℕ → ℕ → Ask → Effect
on_there profile item None t drawn ask = on_free item t drawn ask
on_there profile item (Some hold) t drawn ask = on_held profile item hold t ask

-- what a request finds decides
abbrev pub on_seen : Profile → Option Item → ℕ → ℕ → Ask → Effect
on_seen profile None t drawn ask = on_absent profile t ask
on_seen profile (Some item) t drawn ask = on_there profile item item.holder t drawn ask

-- The machine's own reply, and the item after it. An acquire for which no cookie was left changes
-- nothing.
abbrev pub effect : Profile → Option Item → ℕ → ℕ → Ask → Effect
effect profile old t drawn Acquire = if drawn == 0 then (CookiesOut, old) else
    on_seen profile (seen old t) t drawn Acquire
effect profile old t drawn ask = on_seen profile (seen old t) t drawn ask

-- The circumstances of a request: its moment, the cookie that it drew, and whether the keeper's
-- count of faults rose with it.
pub record Circumstances : Type 0 where
  pub moment : ℕ
  pub drawn : ℕ
  pub rose : Bool

-- In this profile, from the item old, a request may in these circumstances be answered so and leave
-- new: by the machine's own reply, or by want of memory or a counted fault of the keeper, which
-- change nothing.
abbrev pub Step : Profile → Option Item → Ask → Circumstances → Reply → Option Item → Type 0
Step profile old ask at NoMemory new = new ≡ old
Step profile old ask at KeeperFault new = IsTrue at.rose × (new ≡ old)
Step profile old ask at reply new = (reply, new) ≡ effect profile old at.moment at.drawn ask
