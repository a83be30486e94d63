-- The ranges of lengths and numbers.
use Rattle.std.specs.Prelude.{ℕ, ◌<◌, ◌≤◌, ◌^◌, List, length, Option, IfSome, ⊤}
use Rattle.asp_messages.specs.declared.request.Request.{Request}
use Rattle.asp_messages.specs.declared.request.Ask.{Ask}
use Rattle.asp_messages.specs.declared.request.Ask.TheVariants.{Read, Acquire, Release, Write, Remove, Reset}
use Rattle.asp_messages.specs.declared.reply.Reply.{Reply}
use Rattle.asp_messages.specs.declared.reply.Reply.TheVariants.{Found, Locked}
use Rattle.asp_messages.specs.Fields.{most_body, most_minutes}

-- at most 4,194,304 bytes
abbrev pub BodyFits : List ℕ → Type 0
BodyFits body = length body ≤ most_body

-- a cookie that is named is from 1 to the greatest
abbrev pub CookieFits : Option ℕ → Type 0
CookieFits cookie = IfSome cookie (λ c. (0 < c) × (c < 2 ^ 63))

-- a timeout is from 1 to 525,600 minutes
abbrev pub MinutesFit : ℕ → Type 0
MinutesFit minutes = (0 < minutes) × (minutes ≤ most_minutes)

-- a moment of an acquisition that is told is at most 2^62
abbrev pub SinceFits : Option ℕ → Type 0
SinceFits since = IfSome since (λ s. s ≤ 2 ^ 62)

-- a key has 1 to 1,024 bytes
abbrev pub KeyFits : List ℕ → Type 0
KeyFits key = (0 < length key) × (length key ≤ 1024)

-- each length and number of the ask is in its range
abbrev pub AskFits : Ask → Type 0
AskFits Read = ⊤
AskFits Acquire = ⊤
AskFits (Release cookie) = cookie < 2 ^ 63
AskFits (Write body minutes fresh cookie) = BodyFits body × MinutesFit minutes × CookieFits cookie
AskFits (Remove cookie) = CookieFits cookie
AskFits Reset = ⊤

-- the key and the ask are in range
pub record RequestFits (request : Request) : Type 0 where
  pub key : KeyFits request.key
  pub ask : AskFits request.ask

-- each length and number of the reply is in its range
abbrev pub ReplyFits : Reply → Type 0
ReplyFits (Found body minutes cookie first) = BodyFits body × MinutesFit minutes × CookieFits cookie
ReplyFits (Locked cookie age since) = (cookie < 2 ^ 63) × (age ≤ 2 ^ 62) × SinceFits since
ReplyFits reply = ⊤
