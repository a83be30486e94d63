-- What the calls make of a visit, by its stage: the contracts of the functions behind the calls.
use Rattle.std.specs.Prelude.{ℕ, ◌+◌, ◌<◌, ◌≤◌, ◌^◌, List, Option, Some, None, Bool, true, false, nat_le, nat_lt}
use Rattle.asp_messages.specs.declared.request.Ask.{Ask}
use Rattle.asp_messages.specs.declared.request.Ask.TheVariants.{Read, Acquire, Release, Reset}
use Rattle.asp_messages.specs.declared.reply.Reply.TheVariants.{Found, Done as done_reply, Locked, Missing}
use Rattle.asp_messages.specs.ReplyText.{http_status}
use Rattle.visit_core.specs.declared.act.Heard.{Heard}
use Rattle.visit_core.specs.declared.act.Heard.TheVariants.{Reply, Strange}
use Rattle.visit_core.specs.declared.outcome.Outcome.TheVariants.{Done, LostLocked, LostMissing, GaveUp, Refused}
use Rattle.visit_core.specs.declared.stage.Lock.{Lock}
use Rattle.visit_core.specs.declared.stage.Stage.{Stage}
use Rattle.visit_core.specs.declared.stage.Stage.TheVariants.{Asking, Forcing, Running, Ending, Over}
use Rattle.visit_core.specs.VisitRule.{ask_for}
use Rattle.visit_core.specs.Stages.{VisitState}

-- the session is asked for from this moment on
abbrev pub asks_from : VisitState → ℕ → VisitState
asks_from visit from = record visit { ask = ask_for visit.terms.need; stage = Asking from }

-- an answer that does not belong to its request ends the visit
abbrev pub refused_stage : Heard → Stage
refused_stage (Reply reply) = Over (Refused (http_status reply))
refused_stage (Strange status) = Over (Refused status)

-- a lock's cookie and age are in their ranges
abbrev pub LockFits : Lock → Type 0
LockFits lock = (lock.cookie < 2 ^ 63) × (lock.age ≤ 2 ^ 62)

-- the lock that the answer to an ask for the session names
abbrev pub lock_met : Ask → Heard → Option Lock
lock_met Acquire (Reply (Locked cookie age since)) = Some (record { cookie = cookie; age = age })
lock_met Read (Reply (Locked cookie age since)) = Some (record { cookie = cookie; age = age })
lock_met ask answer = None

-- an ask for the session met a lock: the polls are used up, or the lock is too old, or the visit
-- waits
abbrev pub meets_lock_if : Bool → Bool → VisitState → ℕ → Lock → VisitState
meets_lock_if true is_old visit t lock =
    record visit { locked = visit.locked + 1; stage = Over (GaveUp lock.cookie lock.age) }
meets_lock_if false true visit t lock =
    record visit { locked = visit.locked + 1; ask = Release lock.cookie; stage = Forcing }
meets_lock_if false false visit t lock =
    record visit { locked = visit.locked + 1; stage = Asking (t + visit.terms.limits.poll_ms) }

-- the two tests of a lock that was met
abbrev pub meets_lock : VisitState → ℕ → Lock → VisitState
meets_lock visit t lock =
    meets_lock_if (nat_le visit.terms.limits.polls (visit.locked + 1))
    (nat_lt visit.terms.limits.execution_secs lock.age) visit t lock

-- content without a cookie answers a plain read, and no acquisition
abbrev pub acquired : List ℕ → Bool → Option ℕ → Stage
acquired body first None = Over (Refused 200)
acquired body first (Some cookie) = Running (Some body) first (Some cookie)

-- where an answer to an ask for the session leads, unless a lock is in the way
abbrev pub answered : Ask → Heard → Stage
answered Acquire (Reply (Found body minutes cookie first)) = acquired body first cookie
answered Acquire (Reply Missing) = Running None false None
answered Read (Reply (Found body minutes cookie first)) = Running (Some body) first None
answered Read (Reply Missing) = Running None false None
answered Reset (Reply done_reply) = Over Done
answered Reset (Reply Missing) = Over Done
answered ask answer = refused_stage answer

-- an answer to an ask for the session, which names this lock or none
abbrev pub hears_answer : VisitState → ℕ → Heard → Option Lock → VisitState
hears_answer visit t answer (Some lock) = meets_lock visit t lock
hears_answer visit t answer None = record visit { stage = answered visit.ask answer }

-- an answer to a forced release
abbrev pub hears_release : VisitState → Heard → VisitState
hears_release visit (Reply done_reply) = asks_from visit 0
hears_release visit (Reply Missing) = asks_from visit 0
hears_release visit (Reply (Locked cookie age since)) = asks_from visit 0
hears_release visit answer = record visit { stage = refused_stage answer }

-- where an answer to the request of the page's end leads
abbrev pub end_answered : Heard → Stage
end_answered (Reply done_reply) = Over Done
end_answered (Reply Missing) = Over LostMissing
end_answered (Reply (Locked cookie age since)) = Over (LostLocked cookie age)
end_answered answer = refused_stage answer

-- an answer, by the stage that sent its request
abbrev pub hears : VisitState → ℕ → Stage → Heard → VisitState
hears visit t (Asking from) answer = hears_answer visit t answer (lock_met visit.ask answer)
hears visit t Forcing answer = hears_release visit answer
hears visit t Ending answer = record visit { stage = end_answered answer }
hears visit t (Running content first cookie) answer = visit
hears visit t (Over outcome) answer = visit
