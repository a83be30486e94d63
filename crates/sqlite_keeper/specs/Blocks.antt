-- Blocks of cookies: where the next one begins, and where it ends.
use Rattle.std.specs.Prelude.{◌≡◌, ◌⊎◌, ℕ, ◌+◌, ◌-◌, ◌^◌, ◌<◌, ◌≤◌, List, Option, Some, None, Result, Ok, Err, max, min, ⊤}
use Rattle.cookie_source.specs.Counting.{Counter}
use Rattle.session_machine.specs.declared.item.Item.{Item}
use Rattle.sqlite_keeper.specs.declared.cookie_block.CookieBlock.{CookieBlock}
use Rattle.sqlite_keeper.specs.Rows.{IsNumberAt, cookie_of}
use Rattle.sqlite_value.specs.declared.value.Value.{Value}

-- a cookie is from 1 to 2^63 - 1
abbrev pub IsCookie : ℕ → Type 0
IsCookie cookie = (0 < cookie) × (cookie < 2 ^ 63)

-- the greatest cookie
abbrev pub most_of_cookies : ℕ
most_of_cookies = 2 ^ 63 - 1

-- A block begins at this cookie or above it, and has 4,294,967,296 cookies, or those up to the
-- greatest of all.
pub record IsBlockFrom (at_least : ℕ) (block : CookieBlock) : Type 0 where
  pub from : at_least ≤ block.first
  pub cookie : block.first ≤ most_of_cookies
  pub last : block.last ≡ min (block.first + 4294967295) most_of_cookies

-- This is the greatest cookie that an item holds, 0 where none holds one.
pub record IsGreatestHeld (items : List ℕ → Option Item) (cookie : ℕ) : Type 0 where
  pub all : (key : List ℕ) (item : Item) → items key ≡ Some item → cookie_of item.holder ≤ cookie
  pub held : (cookie ≡ 0)
      ⊎ ((key : List ℕ) × (item : Item) × (items key ≡ Some item)
      × (cookie ≡ cookie_of item.holder))

-- where a keeper tells, this is the greatest cookie that an item holds
abbrev pub TellsHeld : Option (List ℕ → Option Item) → ℕ → Type 0
TellsHeld None cookie = ⊤
TellsHeld (Some items) cookie = IsGreatestHeld items cookie

-- where the next block begins: above the last one and each cookie that is held; there is none where
-- the greatest cookie was drawn or is held
abbrev pub BeginsAbove : ℕ → ℕ → ℕ → Option CookieBlock → Type 0
BeginsAbove at_least last held None = most_of_cookies ≤ max last held
BeginsAbove at_least last held (Some block) = block.first ≡ max at_least (max last held + 1)

-- the next block of a keeper with this map and this last cookie, where it tells
abbrev pub TellsBlock : Option (List ℕ → Option Item) → ℕ → ℕ → Option CookieBlock → Type 0
TellsBlock None last at_least block = ⊤
TellsBlock (Some items) last at_least block =
    (held : ℕ) × IsGreatestHeld items held × BeginsAbove at_least last held block

-- where a keeper tells, each cookie that an item holds is below this one
abbrev pub HoldsBelow : Option (List ℕ → Option Item) → ℕ → Type 0
HoldsBelow None cookie = ⊤
HoldsBelow (Some items) cookie =
    (key : List ℕ) (item : Item) → items key ≡ Some item → cookie_of item.holder < cookie

-- what is read of the row of the greatest cookie, where there is one
abbrev pub ReadsHeld : Option (List Value) → ℕ → Type 0
ReadsHeld None cookie = cookie ≡ 0
ReadsHeld (Some row) cookie = IsNumberAt row 0 cookie

-- the last cookie after a look for a block
abbrev pub told_last : {E : Type 0} → ℕ → Result (Option CookieBlock) E → ℕ
told_last last (Ok (Some block)) = block.last
told_last last (Ok None) = last
told_last last (Err failure) = last

-- the block, where its last cookie was stored
abbrev pub stored_answer : {T E : Type 0} → Result T E → CookieBlock → Result (Option CookieBlock) E
stored_answer (Ok done) block = Ok (Some block)
stored_answer (Err failure) block = Err failure

-- the cookies of a block can be drawn, from the first to the last
abbrev pub CanBeDrawn : CookieBlock → Type 0
CanBeDrawn block =
    (0 < block.first) × ((block.first ≤ block.last) × (block.last < 2 ^ 63))

-- a block as a counter that stands at its first cookie
abbrev pub counter_of : CookieBlock → Counter
counter_of block = record { next = block.first; last = block.last }

-- the answer, with the cookies of its block
abbrev pub counter_answer : {E : Type 0} → Result (Option CookieBlock) E → Result (Option Counter) E
counter_answer (Ok (Some block)) = Ok (Some (counter_of block))
counter_answer (Ok None) = Ok None
counter_answer (Err error) = Err error
