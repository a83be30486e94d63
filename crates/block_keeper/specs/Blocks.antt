-- Blocks of cookies: what a keeper sets aside for a run.
use Rattle.std.specs.Prelude.{◌≡◌, ◌⊎◌, ℕ, ◌+◌, ◌-◌, ◌≤◌, ◌^◌, min, List, Option, Some, None, Result, Ok, Err, ⊤}
use Rattle.asp_messages.specs.Fields.{most_cookie}
use Rattle.cookie_source.specs.Counting.{Counter}
use Rattle.session_machine.specs.declared.item.Item.{Item}
use Rattle.session_machine.specs.declared.item.Hold.{Hold}

-- A block from this cookie on at the lowest: up to 2^32 cookies, and none past the last there is.
pub record IsBlock (at_least : ℕ) (block : Counter) : Type 0 where
  pub from : at_least ≤ block.next
  pub cookie : block.next ≤ most_cookie
  pub last : block.last ≡ min (block.next + (2 ^ 32 - 1)) most_cookie

-- some item's lock has this cookie
abbrev pub IsHeldIn : (List ℕ → Option Item) → ℕ → Type 0
IsHeldIn items cookie = (key : List ℕ) × (item : Item) × (hold : Hold)
    × (items key ≡ Some item) × (item.holder ≡ Some hold) × (hold.cookie ≡ cookie)

-- The block begins no later than it has to: at the lowest that was asked for, or just above the
-- floor, or just above the cookie of a lock. There is none only where one of these two is no less
-- than the last cookie there is.
abbrev pub IsLeast : ℕ → ℕ → (List ℕ → Option Item) → Option Counter → Type 0
IsLeast at_least floor items (Some block) = (block.next ≡ at_least) ⊎ ((block.next ≡ floor + 1)
    ⊎ ((cookie : ℕ) × (block.next ≡ cookie + 1) × IsHeldIn items cookie))
IsLeast at_least floor items None = (most_cookie ≤ floor)
    ⊎ ((cookie : ℕ) × (most_cookie ≤ cookie) × IsHeldIn items cookie)

-- the same where a keeper tells its items
abbrev pub TellsLeast : ℕ → ℕ → Option (List ℕ → Option Item) → Option Counter → Type 0
TellsLeast at_least floor None block = ⊤
TellsLeast at_least floor (Some items) block = IsLeast at_least floor items block

-- the floor behind a block is its last cookie, and without one it is what it was
abbrev pub floor_after : ℕ → Option Counter → ℕ
floor_after floor None = floor
floor_after floor (Some block) = block.last

-- the floor is that behind what was answered; an error leaves it
abbrev pub KeepsFloor : {E : Type 0} → ℕ → ℕ → Result (Option Counter) E → Type 0
KeepsFloor floor floor' (Ok block) = floor' ≡ floor_after floor block
KeepsFloor floor floor' (Err error) = floor' ≡ floor
