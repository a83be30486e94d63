-- Histories: what was done to the items of all sessions, in order. A history is a list of entries;
-- the items at its beginning are a function from keys to items.
use Rattle.std.specs.Prelude.{◌≡◌, ◌⊎◌, ℕ, ◌+◌, ◌-◌, ◌<◌, ◌≤◌, ◌^◌, max, List, [], ◌∷◌, Option, Some, None, Bool, false, nat_le, min, if◌then◌else◌, IsTrue, IsFalse, IfSome, ⊤}
use Rattle.std.specs.Str.{bytes_eq}
use Rattle.std.specs.List.{AllByRecursion}
use Rattle.asp_messages.specs.declared.request.Ask.{Ask}
use Rattle.asp_messages.specs.declared.request.Ask.TheVariants.{Acquire}
use Rattle.asp_messages.specs.declared.reply.Reply.{Reply}
use Rattle.asp_messages.specs.declared.reply.Reply.TheVariants.{Done, Bad, KeeperFault, NoMemory, PlacesOut}
use Rattle.asp_messages.specs.Ranges.{RequestFits, ReplyFits, KeyFits}
use Rattle.session_machine.specs.declared.entry.Entry.{Entry}
use Rattle.session_machine.specs.declared.entry.Deed.{Deed}
use Rattle.session_machine.specs.declared.entry.Deed.TheVariants.{Asked, Expired, Looked}
use Rattle.session_machine.specs.declared.item.Item.{Item}
use Rattle.session_machine.specs.declared.item.Profile.{Profile}
use Rattle.session_machine.specs.Liveness.{is_live}
use Rattle.session_machine.specs.Machine.{effect, Circumstances, Step}
use Rattle.session_machine.specs.Profiles.{newest}

-- ---- entries

-- only an acquire draws a cookie; 0 is a draw that found none left
abbrev pub DrawFits : Ask → ℕ → Type 0
DrawFits Acquire drawn = drawn < 2 ^ 63
DrawFits ask drawn = drawn ≡ 0

-- a message that is no request and a request for which no place is left have no entry
abbrev pub HasPlace : Reply → Type 0
HasPlace Bad = ⊥
HasPlace PlacesOut = ⊥
HasPlace reply = ⊤

-- what a look may be answered
abbrev pub IsLookReply : Reply → Type 0
IsLookReply Done = ⊤
IsLookReply NoMemory = ⊤
IsLookReply KeeperFault = ⊤
IsLookReply reply = ⊥

-- what was done, drawn and answered is in range
abbrev pub DeedFits : Deed → ℕ → Reply → Type 0
DeedFits (Asked request) drawn reply =
    RequestFits request × DrawFits request.ask drawn × ReplyFits reply × HasPlace reply
DeedFits (Expired key) drawn reply = KeyFits key × (drawn ≡ 0) × (reply ≡ Done)
DeedFits Looked drawn reply = (drawn ≡ 0) × IsLookReply reply

-- each number of the entry is in its range
pub record IsFormed (e : Entry) : Type 0 where
  pub caller_fits : e.caller < 2 ^ 63
  pub moment_fits : e.moment ≤ 2 ^ 62
  pub deed_fits : DeedFits e.deed e.drawn e.reply

-- ---- one key

-- the deed is one on this key
abbrev pub is_deed_of : List ℕ → Deed → Bool
is_deed_of key (Asked request) = bytes_eq key request.key
is_deed_of key (Expired other) = bytes_eq key other
is_deed_of key Looked = false

-- an entry, and whether the count of faults rose with it
abbrev pub Marked : Type 0
Marked = Bool × Entry

-- the keeper's count of faults is greater than before, or stands at the last value of its type
abbrev pub has_risen : ℕ → ℕ → Bool
has_risen before now = nat_le (min (before + 1) (2 ^ 64 - 1)) now

-- each entry with whether the count rose from the entry before it
abbrev pub marked : ℕ → List Entry → List Marked
marked count [] = []
marked count (e ∷ es) = (has_risen count e.faults, e) ∷ marked e.faults es

-- the entries on one key, in order
abbrev pub entries_of : List ℕ → List Marked → List Marked
entries_of key [] = []
entries_of key (e ∷ es) = if is_deed_of key e.1.deed then e ∷ entries_of key es else
    entries_of key es

-- the item after a request, which its reply fixes
abbrev pub after_reply : Profile → Option Item → ℕ → ℕ → Ask → Reply → Option Item
after_reply profile old t drawn ask NoMemory = old
after_reply profile old t drawn ask KeeperFault = old
after_reply profile old t drawn ask reply = (effect profile old t drawn ask).1

-- the item after a deed
abbrev pub after_deed : Profile → Option Item → Deed → Entry → Option Item
after_deed profile old (Asked request) e =
    after_reply profile old e.moment e.drawn request.ask e.reply
after_deed profile old (Expired key) e = None
after_deed profile old Looked e = old

-- the item of a key after one of its entries
abbrev pub after_entry : Profile → Option Item → Marked → Option Item
after_entry profile old e = after_deed profile old e.1.deed e.1

-- the item of a key after its entries
abbrev pub after_entries : Profile → Option Item → List Marked → Option Item
after_entries profile old [] = old
after_entries profile old (e ∷ es) = after_entries profile (after_entry profile old e) es

-- there is an item, and it has expired at the moment
abbrev pub IsDead : Option Item → ℕ → Type 0
IsDead None t = ⊥
IsDead (Some item) t = IsFalse (is_live item t)

-- the circumstances of an entry with which the count of faults rose, or did not
abbrev pub circumstances_of : Bool → Entry → Circumstances
circumstances_of rose e = record { moment = e.moment; drawn = e.drawn; rose = rose }

-- the deed may be done where the key has the item old
abbrev pub DeedStands : Profile → Option Item → Bool → Deed → Entry → Type 0
DeedStands profile old rose (Asked request) e =
    Step profile old request.ask (circumstances_of rose e) e.reply
    (after_reply profile old e.moment e.drawn request.ask e.reply)
DeedStands profile old rose (Expired key) e = IsDead old e.moment × (e.reply ≡ Done)
DeedStands profile old rose Looked e = ⊤

-- a key's entries lead from item to item
abbrev pub Lead : Profile → Option Item → List Marked → Type 0
Lead profile old [] = ⊤
Lead profile old (e ∷ es) = DeedStands profile old e.0 e.1.deed e.1
    × Lead profile (after_entry profile old e) es

-- ---- the whole

-- the count of faults never falls
abbrev pub CountsRise : ℕ → List Entry → Type 0
CountsRise count [] = ⊤
CountsRise count (e ∷ es) = (count ≤ e.faults) × CountsRise e.faults es

-- each drawn cookie is greater than each before it
abbrev pub DrawsRise : ℕ → List Entry → Type 0
DrawsRise above [] = ⊤
DrawsRise above (e ∷ es) = ((e.drawn ≡ 0) ⊎ (above < e.drawn)) × DrawsRise (max above e.drawn) es

-- the greatest cookie drawn, `above` where there is no greater one
abbrev pub greatest_draw : ℕ → List Entry → ℕ
greatest_draw above [] = above
greatest_draw above (e ∷ es) = greatest_draw (max above e.drawn) es

-- a lock that is there has a smaller cookie
abbrev pub IsHeldBelow : ℕ → Option Item → Type 0
IsHeldBelow cookie None = ⊤
IsHeldBelow cookie (Some item) = IfSome item.holder (λ h. h.cookie < cookie)

-- a look is answered with a fault of the keeper only where its count rose
abbrev pub LookStands : Bool → Deed → Reply → Type 0
LookStands rose Looked KeeperFault = IsTrue rose
LookStands rose deed reply = ⊤

-- The entries are a legal history of the profile from the opening items and the opening count of
-- faults.
pub record IsLegalIn (profile : Profile) (opening : List ℕ → Option Item) (count : ℕ)
    (list : List Entry) : Type 0 where
  pub formed : AllByRecursion IsFormed list
  pub counts : CountsRise count list
  pub draws : DrawsRise 0 list
  pub fresh_draws : AllByRecursion (λ e. 0 < e.drawn → (key : List ℕ)
      → IsHeldBelow e.drawn (opening key)) list
  pub keys : (key : List ℕ) → Lead profile (opening key) (entries_of key (marked count list))
  pub looks : AllByRecursion (λ e. LookStands e.0 e.1.deed e.1.reply) (marked count list)

-- the item of a key after a history of the profile: the map after it
abbrev pub item_after_in : Profile → (List ℕ → Option Item) → ℕ → List Entry → List ℕ
    → Option Item
item_after_in profile opening count list key =
    after_entries profile (opening key) (entries_of key (marked count list))

-- a legal history of the newest profile
abbrev pub IsLegal : (List ℕ → Option Item) → ℕ → List Entry → Type 0
IsLegal opening count list = IsLegalIn newest opening count list

-- the item of a key after a history of the newest profile
abbrev pub item_after : (List ℕ → Option Item) → ℕ → List Entry → List ℕ → Option Item
item_after opening count list key = item_after_in newest opening count list key

-- the count of faults after a history
abbrev pub count_after : ℕ → List Entry → ℕ
count_after count [] = count
count_after count (e ∷ es) = count_after e.faults es

-- A cookie that may be drawn behind the history: it is greater than each that was drawn, or is held
-- in the opening map. 0 draws none.
abbrev pub IsFreshDraw : (List ℕ → Option Item) → List Entry → ℕ → Type 0
IsFreshDraw opening list drawn =
    (drawn ≡ 0) ⊎ (AllByRecursion (λ e. e.drawn < drawn) list
    × ((key : List ℕ) → IsHeldBelow drawn (opening key)))

-- the empty map: no key has an item
abbrev pub nothing : List ℕ → Option Item
nothing key = None
