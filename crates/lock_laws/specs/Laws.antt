-- What locks give, in every legal history.
use Rattle.std.specs.Prelude.{◌≡◌, ◌≢◌, ℕ, List, [], ◌∷◌, ◌++◌, Option, Some, None, Bool, true, false, IsTrue, ⊤}
use Rattle.std.specs.List.{AllByRecursion}
use Rattle.asp_messages.specs.declared.request.Ask.{Ask}
use Rattle.asp_messages.specs.declared.request.Ask.TheVariants.{Read, Acquire, Release, Write, Remove}
use Rattle.asp_messages.specs.declared.reply.Reply.{Reply}
use Rattle.asp_messages.specs.declared.reply.Reply.TheVariants.{Done, Locked, KeeperFault, NoMemory}
use Rattle.session_machine.specs.declared.entry.Entry.{Entry}
use Rattle.session_machine.specs.declared.entry.Deed.{Deed}
use Rattle.session_machine.specs.declared.entry.Deed.TheVariants.{Asked}
use Rattle.session_machine.specs.declared.item.Item.{Item}
use Rattle.session_machine.specs.declared.item.Hold.{Hold}
use Rattle.session_machine.specs.declared.item.Profile.{Profile}
use Rattle.session_machine.specs.Liveness.{seen, age}
use Rattle.session_machine.specs.History.{is_deed_of, item_after_in}
use Rattle.session_machine.specs.Profiles.{newest}
use Rattle.lock_laws.specs.InForce.{Grant, granted, IsGranted, IsInForce}

-- ---- the words of the laws

-- At this place of the list, behind the entries before, stands the entry, and it is on the key.
pub record StandsAt (list : List Entry) (key : List ℕ) (before : List Entry) (e : Entry) : Type
    0 where
  pub behind : List Entry
  pub place : list ≡ before ++ e ∷ behind
  pub on_key : IsTrue (is_deed_of key e.deed)

-- the cookie that a request names
abbrev pub named_in : Ask → Option ℕ
named_in (Release cookie) = Some cookie
named_in (Write body minutes fresh cookie) = cookie
named_in (Remove cookie) = cookie
named_in ask = None

-- the cookie that a deed names
abbrev pub named_by : Deed → Option ℕ
named_by (Asked request) = named_in request.ask
named_by deed = None

-- the request is a write
abbrev pub is_write : Ask → Bool
is_write (Write body minutes fresh cookie) = true
is_write ask = false

-- the request is a write or a removal
abbrev pub is_change : Ask → Bool
is_change (Remove cookie) = true
is_change ask = is_write ask

-- the deed is a request of this kind
abbrev pub is_asked : (Ask → Bool) → Deed → Bool
is_asked kind (Asked request) = kind request.ask
is_asked kind deed = false

-- The entry acts: what a request would find at its moment differs after it from what it found. To
-- clear an expired item away is no act.
abbrev pub Acts : Profile → (List ℕ → Option Item) → ℕ → List ℕ → List Entry → Entry → Type 0
Acts profile opening count key before e =
    seen (item_after_in profile opening count (before ++ e ∷ []) key) e.moment
    ≢ seen (item_after_in profile opening count before key) e.moment

-- what was asked is done, or nothing was, for want of memory or a fault of the keeper
abbrev pub IsAnsweredUnderLock : Reply → Type 0
IsAnsweredUnderLock Done = ⊤
IsAnsweredUnderLock NoMemory = ⊤
IsAnsweredUnderLock KeeperFault = ⊤
IsAnsweredUnderLock reply = ⊥

-- the content and the minutes of an item
abbrev pub content_with_minutes : Option Item → Option (List ℕ × ℕ)
content_with_minutes None = None
content_with_minutes (Some item) = Some (item.body, item.minutes)

-- the lock on an item
abbrev pub hold_of : Option Item → Option Hold
hold_of None = None
hold_of (Some item) = item.holder

-- the request asks for the content
abbrev pub is_content_ask : Ask → Bool
is_content_ask Read = true
is_content_ask Acquire = true
is_content_ask ask = false

-- ---- the laws

-- A request that names a cookie acts only where that lock is in force: a stale cookie changes
-- nothing.
abbrev pub ActsOnlyInForce : Profile → (List ℕ → Option Item) → ℕ → List Entry → Type 0
ActsOnlyInForce profile opening count list =
    (key : List ℕ) (before : List Entry) (e : Entry) (cookie : ℕ) → StandsAt list key before e
    → named_by e.deed ≡ Some cookie → Acts profile opening count key before e
    → IsInForce profile opening count key cookie before e.moment

-- A request that names a cookie whose lock is in force is done, or answered that nothing was for
-- want of memory or a fault.
abbrev pub InForceIsDone : Profile → (List ℕ → Option Item) → ℕ → List Entry → Type 0
InForceIsDone profile opening count list =
    (key : List ℕ) (before : List Entry) (e : Entry) (cookie : ℕ) → StandsAt list key before e
    → named_by e.deed ≡ Some cookie → IsInForce profile opening count key cookie before e.moment
    → IsAnsweredUnderLock e.reply

-- A write that names a cookie and acts finds the content and the minutes that were granted with it:
-- no update is lost.
abbrev pub NoUpdateIsLost : Profile → (List ℕ → Option Item) → ℕ → List Entry → Type 0
NoUpdateIsLost profile opening count list =
    (key : List ℕ) (before : List Entry) (e : Entry) (grant : Grant) (until since : List Entry)
    → StandsAt list key before e
    → IsTrue (is_asked is_write e.deed) → named_by e.deed ≡ Some grant.cookie
    → Acts profile opening count key before e
    → IsGranted opening key grant before until since
    → content_with_minutes (item_after_in profile opening count before key)
    ≡ Some (grant.body, grant.minutes)

-- The entry is a write or a removal, and it acts.
pub record Changes (profile : Profile) (opening : List ℕ → Option Item) (count : ℕ) (key : List ℕ)
    (before : List Entry) (e : Entry) : Type 0 where
  pub kind : IsTrue (is_asked is_change e.deed)
  pub acts : Acts profile opening count key before e

-- A grant among entries: those up to it, of which it is the last, and those since.
pub record GrantAmong : Type 0 where
  pub grant : Grant
  pub until : List Entry
  pub since : List Entry

-- Since the grant no entry has acquired a lock or changed the item; nor does the entry e that
-- stands behind, unless it names the cookie of the grant.
pub record IsAlone (profile : Profile) (opening : List ℕ → Option Item) (count : ℕ) (key : List ℕ)
    (among : GrantAmong) (e : Entry) : Type 0 where
  pub nobody_acquired : (middle : List Entry) (f : Entry) → StandsAt among.since key middle f
      → granted f.reply ≡ None
  pub nobody_changed : (middle : List Entry) (f : Entry) → StandsAt among.since key middle f
      → Changes profile opening count key (among.until ++ middle) f → ⊥
  pub acquires_nothing : granted e.reply ≡ None
  pub changes_by_cookie : Changes profile opening count key (among.until ++ among.since) e
      → named_by e.deed ≡ Some among.grant.cookie

-- Where a lock is in force nobody else has acquired or changed anything since its grant, and nobody
-- does.
abbrev pub NobodyElse : Profile → (List ℕ → Option Item) → ℕ → List Entry → Type 0
NobodyElse profile opening count list =
    (key : List ℕ) (before : List Entry) (e : Entry) (grant : Grant) (until since : List Entry)
    → StandsAt list key before e
    → IsInForce profile opening count key grant.cookie before e.moment
    → IsGranted opening key grant before until since
    → IsAlone profile opening count key (record { grant = grant; until = until; since = since }) e

-- What a reply tells of a lock that is in the way: its cookie, and how many seconds it was held.
pub record ToldLock : Type 0 where
  pub cookie : ℕ
  pub seconds : ℕ

-- The lock of that cookie is in force behind the entries before, and has been held for that many
-- seconds at the moment.
pub record IsInForceFor (profile : Profile) (opening : List ℕ → Option Item) (count : ℕ)
    (key : List ℕ) (told : ToldLock) (before : List Entry) (moment : ℕ) : Type 0 where
  pub in_force : IsInForce profile opening count key told.cookie before moment
  pub hold : Hold
  pub held : hold_of (item_after_in profile opening count before key) ≡ Some hold
  pub by_cookie : hold.cookie ≡ told.cookie
  pub held_for : age hold moment ≡ told.seconds

-- Where an acquire or a read is answered that a lock is in the way, that lock is in force, and as
-- old as the answer says.
abbrev pub LockInTheWayIsInForce : Profile → (List ℕ → Option Item) → ℕ → List Entry → Type 0
LockInTheWayIsInForce profile opening count list =
    (key : List ℕ) (before : List Entry) (e : Entry) (cookie seconds : ℕ) (told : Option ℕ)
    → StandsAt list key before e
    → IsTrue (is_asked is_content_ask e.deed) → e.reply ≡ Locked cookie seconds told
    → IsInForceFor profile opening count key (record { cookie = cookie; seconds = seconds }) before
    e.moment

-- What locks give in a history of the profile: all four laws.
pub record LocksHoldIn (profile : Profile) (opening : List ℕ → Option Item) (count : ℕ)
    (list : List Entry) : Type 0 where
  pub acts_only_in_force : ActsOnlyInForce profile opening count list
  pub in_force_is_done : InForceIsDone profile opening count list
  pub no_update_is_lost : NoUpdateIsLost profile opening count list
  pub nobody_else : NobodyElse profile opening count list

-- what locks give in a history of the newest profile
abbrev pub LocksHold : (List ℕ → Option Item) → ℕ → List Entry → Type 0
LocksHold opening count list = LocksHoldIn newest opening count list

-- ---- faults of a keeper

-- no entry is answered that the keeper failed
abbrev pub NeverFaults : List Entry → Type 0
NeverFaults list = AllByRecursion (λ e. e.reply ≢ KeeperFault) list

-- Where the keeper has counted no fault at any entry, none is answered that it failed.
abbrev pub FaultsAreCounted : List Entry → Type 0
FaultsAreCounted list = AllByRecursion (λ e. e.faults ≡ 0) list → NeverFaults list
