-- How long an item lives, and how old a lock is. Moments are milliseconds.
use Rattle.std.specs.Prelude.{ℕ, ◌+◌, ◌-◌, ◌*◌, ◌/◌, ◌^◌, ◌<◌, ◌≤◌, length, Option, Some, None, Bool, nat_lt, min, if◌then◌else◌, IfSome}
use Rattle.session_machine.specs.declared.item.Item.{Item}
use Rattle.session_machine.specs.declared.item.Hold.{Hold}

-- the moment from which on the item counts as absent: when it was not touched in time, or its end
-- if that comes sooner
abbrev pub expiry : Item → ℕ
expiry item = min (item.touched + item.minutes * 60000) item.ends

-- the item has not expired at the moment
abbrev pub is_live : Item → ℕ → Bool
is_live item t = nat_lt t (expiry item)

-- what a request at the moment finds: an item that has expired counts as absent
abbrev pub seen : Option Item → ℕ → Option Item
seen None t = None
seen (Some item) t = if is_live item t then Some item else None

-- how long a lock has been held, in whole seconds, 0 before the acquisition
abbrev pub age : Hold → ℕ → ℕ
age hold t = (t - hold.since) / 1000

-- each length and number of the item is in its range
pub record ItemFits (item : Item) : Type 0 where
  pub body : length item.body ≤ 4194304
  pub some_minutes : 0 < item.minutes
  pub minutes : item.minutes ≤ 525600
  pub touched : item.touched ≤ 2 ^ 62
  pub ends : item.ends < 2 ^ 63
  pub cookie : IfSome item.holder (λ h. (0 < h.cookie) × (h.cookie < 2 ^ 63))
  pub since : IfSome item.holder (λ h. h.since ≤ 2 ^ 62)
