-- How a visit stands for its past. Above this crate only the names `HasPast`, `VisitSends`, `Runs`
-- and
-- `steps_left` are of use: what they are good for is said by what the calls ensure.
use Rattle.std.specs.Prelude.{◌≡◌, ℕ, ◌+◌, ◌-◌, ◌*◌, ◌<◌, ◌≤◌, List, reverse, None, IfSome, true, false, nat_lt, if◌then◌else◌, ⊤}
use Rattle.asp_messages.specs.declared.request.Request.{Request}
use Rattle.asp_messages.specs.declared.request.Ask.{Ask}
use Rattle.asp_messages.specs.declared.request.Ask.TheVariants.{Release}
use Rattle.asp_messages.specs.Ranges.{BodyFits, CookieFits, RequestFits}
use Rattle.visit_core.specs.declared.visit_terms.Limits.{Limits}
use Rattle.visit_core.specs.declared.stage.Stage.{Stage}
use Rattle.visit_core.specs.declared.stage.Stage.TheVariants.{Asking, Forcing, Running, Ending, Over}
use Rattle.visit_core.specs.Acts.{Action, wait_until, run, over}
use Rattle.visit_core.specs.Terms.{VisitTerms, LimitsFit}
use Rattle.visit_core.specs.VisitRule.{Event, send_ask, ask_for, act_of, locked_answers, has_ended, own_cookie, IsLawful}

-- A visit: its terms, what it asks where its stage asks, how many asks for the session met a lock,
-- and its stage.
pub record VisitState : Type 0 where
  pub terms : VisitTerms
  pub ask : Ask
  pub locked : ℕ
  pub stage : Stage

-- what a stage does
abbrev pub stage_act : VisitTerms → Ask → Stage → ℕ → Action
stage_act terms ask (Asking from) t = if nat_lt t from then wait_until from else send_ask terms ask
stage_act terms ask Forcing t = send_ask terms ask
stage_act terms ask (Running content first cookie) t = run content first
stage_act terms ask Ending t = send_ask terms ask
stage_act terms ask (Over outcome) t = over outcome

-- ---- what keeps a visit in range

-- polls are left while the session is asked for, and a page runs on content in its range
abbrev pub StageFits : ℕ → ℕ → Stage → Type 0
StageFits locked polls (Asking from) = locked < polls
StageFits locked polls Forcing = locked < polls
StageFits locked polls (Running content first cookie) = IfSome content BodyFits × CookieFits cookie
StageFits locked polls Ending = ⊤
StageFits locked polls (Over outcome) = ⊤

-- what is sent is in its range, and so is what the stage holds
pub record IsSound (request : Request) (limits : Limits) (locked : ℕ) (stage : Stage) : Type 0 where
  pub request_fits : RequestFits request
  pub limits_fit : LimitsFit limits
  pub stage_fits : StageFits locked limits.polls stage

-- ---- how a visit stands for its past

-- what a stage knows of the past, which has its latest event first
abbrev pub StageKnows : VisitTerms → Ask → ℕ → Stage → List Event → Type 0
StageKnows terms ask locked (Asking from) past =
    (ask ≡ ask_for terms.need) × (locked_answers past ≡ locked) × (has_ended past ≡ false)
    × (own_cookie past ≡ None)
StageKnows terms ask locked Forcing past =
    ((cookie : ℕ) × (ask ≡ Release cookie)) × (locked_answers past ≡ locked)
    × (has_ended past ≡ false) × (own_cookie past ≡ None)
StageKnows terms ask locked (Running content first cookie) past = own_cookie past ≡ cookie
StageKnows terms ask locked Ending past = has_ended past ≡ true
StageKnows terms ask locked (Over outcome) past = ⊤

-- The calls of this past lead to this visit: the past is lawful, and the visit acts by its rule.
pub record HasPast (visit : VisitState) (past : List Event) : Type 0 where
  pub lawful : IsLawful visit.terms past
  pub acts : (t : ℕ) → act_of visit.terms past t ≡ stage_act visit.terms visit.ask visit.stage t
  pub knows : StageKnows visit.terms visit.ask visit.locked visit.stage (reverse past)

-- ---- what may be told to a visit

-- the session is asked for from some moment on
abbrev pub IsAsking : VisitState → Type 0
IsAsking visit = (from : ℕ) × (visit.stage ≡ Asking from)

-- the stage sends a request at this moment
abbrev pub StageSends : Stage → ℕ → Type 0
StageSends (Asking from) t = from ≤ t
StageSends Forcing t = ⊤
StageSends (Running content first cookie) t = ⊥
StageSends Ending t = ⊤
StageSends (Over outcome) t = ⊥

-- an answer may be heard at this moment
abbrev pub VisitSends : VisitState → ℕ → Type 0
VisitSends visit t = StageSends visit.stage t

-- the page is to run in this stage
abbrev pub StageRuns : Stage → Type 0
StageRuns (Asking from) = ⊥
StageRuns Forcing = ⊥
StageRuns (Running content first cookie) = ⊤
StageRuns Ending = ⊥
StageRuns (Over outcome) = ⊥

-- the page may end
abbrev pub Runs : VisitState → Type 0
Runs visit = StageRuns visit.stage

-- ---- how far a visit has to go

-- at most so many steps are left where a stage is reached with so many polls left
abbrev pub stage_steps : ℕ → Stage → ℕ → ℕ
stage_steps polls_left (Asking from) t = 3 * polls_left + 2 + (if nat_lt t from then 1 else 0)
stage_steps polls_left Forcing t = 3 * polls_left + 3
stage_steps polls_left (Running content first cookie) t = 2
stage_steps polls_left Ending t = 1
stage_steps polls_left (Over outcome) t = 0

-- at t the visit is over after at most so many steps, each an answer that is heard, a wait that is
-- over, or the page's end
abbrev pub steps_left : VisitState → ℕ → ℕ
steps_left visit t = stage_steps (visit.terms.limits.polls - visit.locked) visit.stage t
