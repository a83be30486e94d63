-- What a visit is about, and the ranges of its lengths and numbers.
use Rattle.std.specs.Prelude.{ℕ, ◌+◌, ◌*◌, ◌≤◌, ◌<◌, List, Bool, true, false, Option, Some, None, ⊤}
use Rattle.asp_messages.specs.Ranges.{BodyFits, MinutesFit, ReplyFits}
use Rattle.visit_core.specs.declared.visit_terms.Need.{Need}
use Rattle.visit_core.specs.declared.visit_terms.Limits.{Limits}
use Rattle.visit_core.specs.declared.act.Ending.{Ending}
use Rattle.visit_core.specs.declared.act.Ending.TheVariants.{Save, Keep, Abandon}
use Rattle.visit_core.specs.declared.act.Heard.{Heard}
use Rattle.visit_core.specs.declared.act.Heard.TheVariants.{Reply, Strange}

-- The terms of a visit: the session's key, what the page needs of the session, and how long it
-- asks.
pub record VisitTerms : Type 0 where
  pub key : List ℕ
  pub need : Need
  pub limits : Limits

-- an execution timeout of at most a day, a poll at least once a minute, and at most a million polls
pub record LimitsFit (limits : Limits) : Type 0 where
  pub execution : (0 < limits.execution_secs) × (limits.execution_secs ≤ 86400)
  pub poll : (0 < limits.poll_ms) × (limits.poll_ms ≤ 60000)
  pub polls_fit : (0 < limits.polls) × (limits.polls ≤ 1000000)

-- the limits that ASP.NET has by default, and 1,000 polls
abbrev pub default_limits : Limits
default_limits = record { execution_secs = 110; poll_ms = 500; polls = 1000 }

-- A visit by these limits is over after at most so many steps, and so sends at most so many
-- requests: three steps for each poll, and two for the page's end.
abbrev pub most_requests : Limits → ℕ
most_requests limits = 3 * limits.polls + 2

-- the content and the minutes that are saved are in their ranges
abbrev pub EndingFits : Ending → Type 0
EndingFits (Save body minutes) = BodyFits body × MinutesFit minutes
EndingFits Keep = ⊤
EndingFits Abandon = ⊤

-- the ending of a page, which its caller keeps until the page ended
abbrev pub kept_ending : Bool → Ending → Option Ending
kept_ending true ending = None
kept_ending false ending = Some ending

-- each length and number of the reply is in its range
abbrev pub HeardFits : Heard → Type 0
HeardFits (Reply reply) = ReplyFits reply
HeardFits (Strange status) = ⊤
