-- What a visit does, as values.
use Rattle.std.specs.Prelude.{ℕ, List, Option, option_copied, IfSome, Bool, ⊤}
use Rattle.asp_messages.specs.Ranges.{BodyFits, RequestFits}
use Rattle.asp_messages.specs.declared.request.Request.{Request}
use Rattle.visit_core.specs.declared.act.Act.{Act}
use Rattle.visit_core.specs.declared.act.Act.TheVariants.{Send, WaitUntil, Run, Over}
use Rattle.visit_core.specs.declared.outcome.Outcome.{Outcome}

-- what a visit does at a moment: it sends a request, waits until a later moment, lets the page run
-- on the content and its mark, or is over
pub data Action : Type 0 where
  send : Request → Action
  wait_until : ℕ → Action
  run : Option (List ℕ) → Bool → Action
  over : Outcome → Action

-- the action that an act names
abbrev pub action_of : Act → Action
action_of (Send request) = send request.now
action_of (WaitUntil moment) = wait_until moment
action_of (Run content first) = run (option_copied content) first
action_of (Over outcome) = over outcome.now

-- a request that is sent, and content that is run on, are in their ranges
abbrev pub ActFits : Action → Type 0
ActFits (send request) = RequestFits request
ActFits (run content first) = IfSome content BodyFits
ActFits (wait_until moment) = ⊤
ActFits (over outcome) = ⊤

-- a request is sent
abbrev pub IsSend : Action → Type 0
IsSend (send request) = ⊤
IsSend (wait_until moment) = ⊥
IsSend (run content first) = ⊥
IsSend (over outcome) = ⊥

-- the page is to run
abbrev pub IsToRun : Action → Type 0
IsToRun (send request) = ⊥
IsToRun (wait_until moment) = ⊥
IsToRun (run content first) = ⊤
IsToRun (over outcome) = ⊥
