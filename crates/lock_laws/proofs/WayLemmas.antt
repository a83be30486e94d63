-- A lock that is in the way of an ask for content is in force.
use Rattle.std.proofs.Common.{◌≡◌, ℕ, ◌+◌, ◌*◌, ◌<◌, min, Bool, true, false, cond, List, Some, None, Option, refl, sym, ap, ◌∙◌, arith, subst}
use Rattle.std.proofs.lemmas.Bool.Decides.{nat_tests}
use Rattle.asp_messages.specs.declared.request.Ask.{Ask}
use Rattle.asp_messages.specs.declared.request.Ask.TheVariants.{Read, Acquire}
use Rattle.asp_messages.specs.declared.reply.Reply.{Reply}
use Rattle.asp_messages.specs.declared.reply.Reply.TheVariants as replies
use Rattle.session_machine.specs.declared.entry.Entry.{Entry}
use Rattle.session_machine.specs.declared.entry.Deed.{Deed}
use Rattle.session_machine.specs.declared.entry.Deed.TheVariants.{Asked, Expired, Looked}
use Rattle.session_machine.specs.declared.item.Item.{Item}
use Rattle.session_machine.specs.declared.item.Profile.{Profile}
use Rattle.session_machine.specs.declared.item.Hold.{Hold}
use Rattle.session_machine.specs.Liveness.{seen, is_live, age}
use Rattle.session_machine.specs.Machine.{Effect, on_there, on_seen, effect, Circumstances, Step}
use Rattle.session_machine.specs.History.{IsLegalIn, item_after_in, circumstances_of, DeedStands}
use Rattle.lock_laws.specs.InForce.{Grant, grant_under, grant_of, life_of, runs_out}
use Rattle.lock_laws.specs.Laws.{StandsAt, is_asked, is_content_ask, hold_of, IsInForceFor, LockInTheWayIsInForce}
use Rattle.lock_laws.proofs.LegalLemmas.{rose_at, deed-stands}
use Rattle.lock_laws.proofs.LawLemmas.{stands-in_force}

-- the lock that an ask for content found, and its age
record FindsLock (old : Option Item) (t cookie seconds : ℕ) : Type 0 where
  item : Item
  hold : Hold
  there : old ≡ Some item
  live : is_live item t ≡ true
  held : item.holder ≡ Some hold
  by_cookie : hold.cookie ≡ cookie
  held_for : age hold t ≡ seconds

-- the reply of an effect
reply-of : (reply : Reply) (new : Option Item) (does : Effect) → (reply, new) ≡ does
    → does.0 ≡ reply
reply-of reply new does is = sym (ap (λ (d : Effect). d.0) is)

content-there : (profile : Profile) (old : Option Item) (item : Item) (t drawn : ℕ) (ask : Ask)
    (cookie seconds : ℕ) (told : Option ℕ)
    (holder : Option Hold) → old ≡ Some item → is_live item t ≡ true → item.holder ≡ holder
    → is_content_ask ask ≡ true → (on_there profile item holder t drawn ask).0
    ≡ replies.Locked cookie seconds told → FindsLock old t cookie seconds
content-there profile old item t drawn Read cookie seconds told None there live held asks is =
    absurd (cc is)
content-there profile old item t drawn Acquire cookie seconds told None there live held asks is =
    absurd (cc is)
content-there profile old item t drawn Read cookie seconds told (Some hold) there live held asks is
    =
    record {
      item = item;
      hold = hold;
      there = there;
      live = live;
      held = held;
      by_cookie =
          cc is;
      held_for = cc is;
    }
content-there profile old item t drawn Acquire cookie seconds told (Some hold) there live held asks
    is =
    record {
      item = item;
      hold = hold;
      there = there;
      live = live;
      held = held;
      by_cookie =
          cc is;
      held_for = cc is;
    }
content-there profile old item t drawn ask cookie seconds told holder there live held asks is =
    absurd (cc asks)

content-live : (profile : Profile) (old : Option Item) (item : Item) (t drawn : ℕ) (ask : Ask)
    (cookie seconds : ℕ) (told : Option ℕ)
    (b : Bool) → old ≡ Some item → is_live item t ≡ b → is_content_ask ask ≡ true
    → (on_seen profile (cond b (Some item) None) t drawn ask).0 ≡ replies.Locked cookie seconds told
    → FindsLock old t cookie seconds
content-live profile old item t drawn ask cookie seconds told true there live asks is =
    content-there profile old item t drawn ask cookie seconds told item.holder there live refl asks
    is
content-live profile old item t drawn Read cookie seconds told false there live asks is =
    absurd (cc is)
content-live profile old item t drawn Acquire cookie seconds told false there live asks is =
    absurd (cc is)
content-live profile old item t drawn ask cookie seconds told false there live asks is =
    absurd (cc asks)

content-seen : (profile : Profile) (old : Option Item) (t drawn : ℕ) (ask : Ask) (cookie seconds :
    ℕ) (told : Option ℕ)
    → is_content_ask ask ≡ true
    → (on_seen profile (seen old t) t drawn ask).0 ≡ replies.Locked cookie seconds told
    → FindsLock old t cookie seconds
content-seen profile (Some item) t drawn ask cookie seconds told asks is =
    content-live profile (Some item) item t drawn ask cookie seconds told (is_live item t) refl refl
    asks is
content-seen profile None t drawn Read cookie seconds told asks is = absurd (cc is)
content-seen profile None t drawn Acquire cookie seconds told asks is = absurd (cc is)
content-seen profile None t drawn ask cookie seconds told asks is = absurd (cc asks)

-- an acquire that was answered with a lock had a cookie
acquire-drew : (profile : Profile) (old : Option Item) (t drawn cookie seconds : ℕ) (told : Option
    ℕ) (b : Bool)
    → (cond b (replies.CookiesOut, old) (on_seen profile (seen old t) t drawn Acquire)).0
    ≡ replies.Locked cookie seconds told
    → (on_seen profile (seen old t) t drawn Acquire).0 ≡ replies.Locked cookie seconds told
acquire-drew profile old t drawn cookie seconds told true is = absurd (cc is)
acquire-drew profile old t drawn cookie seconds told false is = is

finds-lock : (profile : Profile) (old : Option Item) (ask : Ask) (at : Circumstances) (cookie
    seconds : ℕ) (told : Option ℕ)
    (new : Option Item) → is_content_ask ask ≡ true
    → Step profile old ask at (replies.Locked cookie seconds told) new
    → FindsLock old at.moment cookie seconds
finds-lock profile old Read at cookie seconds told new asks step =
    content-seen profile old at.moment at.drawn Read cookie seconds told asks
    (reply-of (replies.Locked cookie seconds told) new (effect profile old at.moment at.drawn Read)
    step)
finds-lock profile old Acquire at cookie seconds told new asks step =
    content-seen profile old at.moment at.drawn Acquire cookie seconds told asks
    (acquire-drew profile old at.moment at.drawn cookie seconds told _
    (reply-of (replies.Locked cookie seconds told) new (effect profile old at.moment at.drawn
    Acquire) step))
finds-lock profile old ask at cookie seconds told new asks step = absurd (cc asks)

asked-finds : (profile : Profile) (old : Option Item) (rose : Bool) (deed : Deed) (e : Entry)
    (cookie seconds : ℕ) (told : Option ℕ)
    → is_asked is_content_ask deed ≡ true → e.reply ≡ replies.Locked cookie seconds told
    → DeedStands profile old rose deed e → FindsLock old e.moment cookie seconds
asked-finds profile old rose (Asked request) e cookie seconds told asks is step =
    by_reply e.reply is step
  where
    by_reply : (reply : Reply) → reply ≡ replies.Locked cookie seconds told
        → DeedStands profile old rose (Asked request) (record e { reply = reply })
        → FindsLock old e.moment cookie seconds
    by_reply reply same stands =
        finds-lock profile old request.ask (circumstances_of rose e) cookie seconds told _ asks
        (subst (λ (r : Reply). DeedStands profile old rose (Asked request) (record e { reply = r }))
        same stands)
asked-finds profile old rose (Expired key) e cookie seconds told asks is step = absurd (cc asks)
asked-finds profile old rose Looked e cookie seconds told asks is step = absurd (cc asks)

-- the lock that was found is in force
found-in_force : (profile : Profile) (opening : List ℕ → Option Item) (count : ℕ) (list : List
    Entry) (key : List ℕ)
    (before : List Entry) (e : Entry) (cookie seconds : ℕ) → IsLegalIn profile opening count list
    → StandsAt list key before e → FindsLock (item_after_in profile opening count before key)
    e.moment cookie
    seconds → IsInForceFor profile opening count key (record {
      cookie = cookie;
      seconds = seconds;
    }) before
    e.moment
found-in_force profile opening count list key before e cookie seconds legal at found =
    let grant : Grant = record {
      cookie = found.hold.cookie;
      body = found.item.body;
      minutes =
          found.item.minutes;
    } in
    let there : grant_of (item_after_in profile opening count before key) ≡ Some grant =
    ap grant_of found.there ∙ ap (λ holder. grant_under holder found.item) found.held in
    let in_time : e.moment < runs_out grant (life_of (Some found.item)) =
    live-before found.item e.moment found.live in
    record {
      in_force = stands-in_force profile opening count list key before e cookie legal at grant there
          found.by_cookie (subst (λ o. e.moment < runs_out grant (life_of o)) (sym found.there)
          in_time);
      hold = found.hold;
      held = ap hold_of found.there ∙ found.held;
      by_cookie = found.by_cookie;
      held_for = found.held_for;
    }
  where
    live-before : (item : Item) (t : ℕ) → is_live item t ≡ true
        → t < min (item.touched + item.minutes * 60000) item.ends
    live-before item t live = grind (arith, nat_tests)

pub lock_in_the_way : (profile : Profile) (opening : List ℕ → Option Item) (count : ℕ) (list : List
    Entry)
    → IsLegalIn profile opening count list → LockInTheWayIsInForce profile opening count list
lock_in_the_way profile opening count list legal key before e cookie seconds told at asks is =
    found-in_force profile opening count list key before e cookie seconds legal at
    (asked-finds profile (item_after_in profile opening count before key) (rose_at count before e)
    e.deed e cookie
    seconds told asks is
    (deed-stands profile opening count list key before at.behind e legal at.place at.on_key))
