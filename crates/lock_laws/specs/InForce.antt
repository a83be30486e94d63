-- When a lock is in force: as long as it was granted, was not ended since, and has not run out with
-- its item's timeout. This is read off what was asked, what was answered and at which moments. A
-- lock is known by its cookie; moments are milliseconds.
use Rattle.std.specs.Prelude.{◌≡◌, ℕ, ◌+◌, ◌*◌, ◌<◌, max, min, List, [], ◌∷◌, ◌++◌, filter, Option, Some, None, Bool, true, false, not, ◌&&◌, ◌||◌, nat_le, ◌==◌, if◌then◌else◌, IsFalse, ⊤}
use Rattle.asp_messages.specs.declared.request.Ask.{Ask}
use Rattle.asp_messages.specs.declared.request.Ask.TheVariants.{Release, Write, Remove, Reset}
use Rattle.asp_messages.specs.declared.reply.Reply.{Reply}
use Rattle.asp_messages.specs.declared.reply.Reply.TheVariants.{Found, Done, KeeperFault, NoMemory, CookiesOut}
use Rattle.session_machine.specs.declared.entry.Entry.{Entry}
use Rattle.session_machine.specs.declared.entry.Deed.{Deed}
use Rattle.session_machine.specs.declared.entry.Deed.TheVariants.{Asked, Expired}
use Rattle.session_machine.specs.declared.item.Item.{Item}
use Rattle.session_machine.specs.declared.item.Hold.{Hold}
use Rattle.session_machine.specs.declared.item.Profile.{Profile}
use Rattle.session_machine.specs.History.{is_deed_of, item_after_in}

-- the entries on one key, in order
abbrev pub on_key : List ℕ → List Entry → List Entry
on_key key entries = filter (λ e. is_deed_of key e.deed) entries

-- ---- the grant

-- what the caller learns who gets the lock: its cookie, and the item's content and minutes
pub record Grant : Type 0 where
  pub cookie : ℕ
  pub body : List ℕ
  pub minutes : ℕ

-- a reply grants a lock where it comes with a cookie
abbrev pub granted : Reply → Option Grant
granted (Found body minutes (Some cookie) first) =
    Some (record { cookie = cookie; body = body; minutes = minutes })
granted reply = None

-- an item that is under a lock stands for the grant of that lock
abbrev pub grant_under : Option Hold → Item → Option Grant
grant_under None item = None
grant_under (Some hold) item = Some (record {
  cookie = hold.cookie;
  body = item.body;
  minutes =
      item.minutes;
})

-- the grant that an item stands for
abbrev pub grant_of : Option Item → Option Grant
grant_of None = None
grant_of (Some item) = grant_under item.holder item

-- the grant with which the entries end: that of the last one, where it is on the key; before the
-- first entry that of the key's item
abbrev pub last_grant : (List ℕ → Option Item) → List ℕ → List Entry → Option Grant
last_grant opening key [] = grant_of (opening key)
last_grant opening key (e ∷ []) = if is_deed_of key e.deed then granted e.reply else None
last_grant opening key (e ∷ f ∷ es) = last_grant opening key (f ∷ es)

-- The key's lock was granted so: the entries are those up to the grant, and those since.
pub record IsGranted (opening : List ℕ → Option Item) (key : List ℕ) (grant : Grant)
    (before until since : List Entry) : Type 0 where
  pub parts : before ≡ until ++ since
  pub granted : last_grant opening key until ≡ Some grant

-- ---- how long it lasts

-- the request was a reset of the timeout
abbrev pub is_reset : Ask → Bool
is_reset Reset = true
is_reset ask = false

-- a reset of the timeout that was done prolongs the lock, whoever asked for it
abbrev pub prolongs : Deed → Reply → Bool
prolongs (Asked request) Done = is_reset request.ask
prolongs deed reply = false

-- How long an item lives: when it was last touched, and the moment at which it ends however often
-- it is touched.
pub record Life : Type 0 where
  pub touched : ℕ
  pub end : ℕ

-- how long the item lives, after one more entry on its key
abbrev pub life_by : Life → Entry → Life
life_by life e = if prolongs e.deed e.reply
    then record life { touched = max life.touched e.moment } else life

-- how long the item lives: it was last touched at the grant, or by a reset since
abbrev pub last_life : Life → List Entry → Life
last_life life [] = life
last_life life (e ∷ es) = last_life (life_by life e) es

-- the moment from which on the lock is out of force: by the minutes that were granted, or at the
-- item's end if that comes sooner
abbrev pub runs_out : Grant → Life → ℕ
runs_out grant life = min (life.touched + grant.minutes * 60000) life.end

-- ---- what ends it

-- what was asked gives the lock of the cookie up, or the item with every lock
abbrev pub gives_up : ℕ → Ask → Bool
gives_up cookie (Release named) = named == cookie
gives_up cookie (Write body minutes fresh (Some named)) = named == cookie
gives_up cookie (Remove named) = true
gives_up cookie ask = false

-- the lock was given up and that is done, or the item has expired and is gone
abbrev pub is_given_up : ℕ → Deed → Reply → Bool
is_given_up cookie (Asked request) Done = gives_up cookie request.ask
is_given_up cookie (Expired key) reply = true
is_given_up cookie deed reply = false

-- these replies say that nothing was done; even an item that had expired was left as it was
abbrev pub is_refused : Reply → Bool
is_refused NoMemory = true
is_refused KeeperFault = true
is_refused CookiesOut = true
is_refused reply = false

-- the entry ends the lock of the cookie: it gives it up; or it comes at the moment out, when the
-- lock has run out, or later, and is not refused
abbrev pub ends : ℕ → ℕ → Entry → Bool
ends cookie out e = is_given_up cookie e.deed e.reply
    || (nat_le out e.moment && not (is_refused e.reply))

-- no entry since the grant ends it, where its item lived so long before them
abbrev pub Lasts : Grant → Life → List Entry → Type 0
Lasts grant life [] = ⊤
Lasts grant life (e ∷ es) = IsFalse (ends grant.cookie (runs_out grant life) e)
    × Lasts grant (life_by life e) es

-- ---- in force

-- how long the item lives
abbrev pub life_of : Option Item → Life
life_of None = record { touched = 0; end = 0 }
life_of (Some item) = record { touched = item.touched; end = item.ends }

-- The lock of the cookie is in force for the key at a moment behind the entries before, which are a
-- history of the profile: it was granted, no entry of the key since then has ended it, and it has
-- not run out.
pub record IsInForce (profile : Profile) (opening : List ℕ → Option Item) (count : ℕ)
    (key : List ℕ) (cookie : ℕ) (before : List Entry) (moment : ℕ) : Type 0 where
  pub grant : Grant
  pub until : List Entry
  pub since : List Entry
  pub place : IsGranted opening key grant before until since
  pub by_cookie : grant.cookie ≡ cookie
  pub lasts : Lasts grant (life_of (item_after_in profile opening count until key))
      (on_key key since)
  pub in_time : moment < runs_out grant (last_life
      (life_of (item_after_in profile opening count until key)) (on_key key since))
