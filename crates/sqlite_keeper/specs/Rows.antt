-- The rows of the tables `items2` and `items`: what each column of a key and of an item is.
use Rattle.std.specs.Prelude.{◌≡◌, ℕ, ◌<◌, ◌≤◌, ◌-◌, ◌^◌, List, [], ◌∷◌, pos, Option, Some, None, Bool, true, false, IfSome, ⊤}
use Rattle.sqlite_value.specs.declared.value.Value.{Value}
use Rattle.sqlite_value.specs.declared.value.Value.TheVariants.{Int, Blob}
use Rattle.sqlite_value.specs.Order.{column}
use Rattle.asp_messages.specs.Ranges.{KeyFits}
use Rattle.session_machine.specs.declared.item.Item.{Item}
use Rattle.session_machine.specs.declared.item.Hold.{Hold}
use Rattle.session_machine.specs.Liveness.{ItemFits, expiry}

-- the cookie of a lock, 0 where there is none
abbrev pub cookie_of : Option Hold → ℕ
cookie_of None = 0
cookie_of (Some hold) = hold.cookie

-- the moment of a lock's acquisition, 0 where there is none
abbrev pub since_of : Option Hold → ℕ
since_of None = 0
since_of (Some hold) = hold.since

-- the number that stands for a flag
abbrev pub flag_number : Bool → ℕ
flag_number false = 0
flag_number true = 1

-- the value at this place of a row is this number
abbrev pub IsNumberAt : List Value → ℕ → ℕ → Type 0
IsNumberAt row place n = column row place ≡ Int (pos n)

-- the places of an item's columns in a row that was read: those that both tables have, those that
-- only `items2` has behind them, and that of `expiry` in `items`
abbrev pub body_at : ℕ
body_at = 0

abbrev pub minutes_at : ℕ
minutes_at = 1

abbrev pub fresh_at : ℕ
fresh_at = 2

abbrev pub cookie_at : ℕ
cookie_at = 3

abbrev pub since_at : ℕ
since_at = 4

abbrev pub touched_at : ℕ
touched_at = 5

abbrev pub ends_at : ℕ
ends_at = 6

abbrev pub expiry_at : ℕ
expiry_at = 7

abbrev pub old_expiry_at : ℕ
old_expiry_at = 6

-- the cookie of a lock, where there is one, is in range
abbrev pub LockCookieFits : Option Hold → Type 0
LockCookieFits lock = IfSome lock (λ hold. (0 < hold.cookie) × (hold.cookie < 2 ^ 63))

-- the moment of a lock's acquisition, where there is a lock, is in range
abbrev pub LockSinceFits : Option Hold → Type 0
LockSinceFits lock = IfSome lock (λ hold. hold.since ≤ 2 ^ 62)

-- These two numbers say this lock, which is in range, or that there is none.
pub record SaysLock (cookie since : ℕ) (lock : Option Hold) : Type 0 where
  pub cookie_fits : LockCookieFits lock
  pub since_fits : LockSinceFits lock
  pub cookie_is : cookie ≡ cookie_of lock
  pub since_is : since ≡ since_of lock

-- A row begins with an item in range: its columns `body`, `minutes`, `fresh`, `cookie`, `since` and
-- `touched` are the item's.
pub record BeginsWith (row : List Value) (item : Item) : Type 0 where
  pub fits : ItemFits item
  pub body : column row body_at ≡ Blob item.body
  pub minutes : IsNumberAt row minutes_at item.minutes
  pub fresh : IsNumberAt row fresh_at (flag_number item.fresh)
  pub cookie : IsNumberAt row cookie_at (cookie_of item.holder)
  pub since : IsNumberAt row since_at (since_of item.holder)
  pub touched : IsNumberAt row touched_at item.touched

-- A row of `items2` says an item: it begins with it, and its columns `ends` and `expiry` are the
-- item's.
pub record SaysItem (row : List Value) (item : Item) : Type 0 where
  pub begins : BeginsWith row item
  pub ends : IsNumberAt row ends_at item.ends
  pub expiry : IsNumberAt row expiry_at (expiry item)

-- A row of `items` says an item: it begins with it, its column `expiry` is the item's, and the item
-- has no end before the last moment of all.
pub record SaysOldItem (row : List Value) (item : Item) : Type 0 where
  pub begins : BeginsWith row item
  pub ends : item.ends ≡ 2 ^ 63 - 1
  pub expiry : IsNumberAt row old_expiry_at (expiry item)

-- a row says a key: the key is in range, and the column at this place is it
abbrev pub SaysKey : List Value → ℕ → List ℕ → Type 0
SaysKey row place key = KeyFits key × (column row place ≡ Blob key)

-- of all rows that are shown of `cookies` there is one, with id 1 and this last cookie
abbrev pub IsOneLast : List (List Value) → ℕ → Type 0
IsOneLast rows last =
    (row : List Value) × (rows ≡ row ∷ []) × IsNumberAt row 0 1 × IsNumberAt row 1 last

-- what is read of a row, where there is one, is its item
abbrev pub ReadsItem : Option (List Value) → Option Item → Type 0
ReadsItem None None = ⊤
ReadsItem None (Some item) = ⊥
ReadsItem (Some row) None = ⊥
ReadsItem (Some row) (Some item) = SaysItem row item

-- what is read of a row of one column, where there is one, is its key
abbrev pub ReadsKey : Option (List Value) → Option (List ℕ) → Type 0
ReadsKey None None = ⊤
ReadsKey None (Some key) = ⊥
ReadsKey (Some row) None = ⊥
ReadsKey (Some row) (Some key) = SaysKey row 0 key

-- what a row of `items2` holds of a key and its item
abbrev pub columns_of : List ℕ → Item → List Value
columns_of key item =
    Blob key ∷ Blob item.body ∷ Int (pos item.minutes) ∷ Int (pos (flag_number item.fresh))
    ∷ Int (pos (cookie_of item.holder)) ∷ Int (pos (since_of item.holder))
    ∷ Int (pos item.touched) ∷ Int (pos item.ends) ∷ Int (pos (expiry item)) ∷ []
