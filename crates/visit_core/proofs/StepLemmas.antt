-- An answer leaves a visit fewer steps.
use Rattle.std.proofs.Common.{ℕ, ◌+◌, ◌-◌, ◌*◌, ◌<◌, ◌≤◌, List, Bool, true, false, arith}
use Rattle.std.specs.Prelude.{nat_lt, Option, Some, None, if◌then◌else◌}
use Rattle.std.proofs.lemmas.Bool.Decides.{nat_tests}
use Rattle.asp_messages.specs.declared.request.Ask.{Ask}
use Rattle.asp_messages.specs.declared.request.Ask.TheVariants.{Read, Acquire, Release, Write, Remove, Reset}
use Rattle.asp_messages.specs.declared.reply.Reply.TheVariants.{Found, Done as done_reply, Locked, Missing}
use Rattle.visit_core.specs.declared.act.Heard.{Heard}
use Rattle.visit_core.specs.declared.act.Heard.TheVariants.{Reply, Strange}
use Rattle.visit_core.specs.declared.stage.Lock.{Lock}
use Rattle.visit_core.specs.declared.stage.Stage.{Stage}
use Rattle.visit_core.specs.declared.stage.Stage.TheVariants.{Asking, Forcing, Running, Ending, Over}
use Rattle.visit_core.specs.Stages.{VisitState, StageFits, StageSends, stage_steps, steps_left}
use Rattle.visit_core.specs.Tables.{meets_lock_if, answered, acquired, refused_stage, end_answered, hears, hears_answer, hears_release, lock_met}

flag-le : (flag : Bool) → (if flag then 1 else 0) ≤ 1
flag-le true = omega arith
flag-le false = omega arith

no_wait : (u : ℕ) → (if nat_lt u 0 then 1 else 0) ≤ 0
no_wait u = grind (arith, nat_tests)

refused_stage-steps : (k : ℕ) (answer : Heard) (u : ℕ) → stage_steps k (refused_stage answer) u ≤ 0
refused_stage-steps k (Reply reply) u = omega arith
refused_stage-steps k (Strange status) u = omega arith

acquired-steps : (k : ℕ) (content : List ℕ) (first : Bool) (cookie : Option ℕ) (u : ℕ)
    → stage_steps k (acquired content first cookie) u ≤ 2
acquired-steps k content first None u = omega arith
acquired-steps k content first (Some cookie) u = omega arith

answered-steps : (k : ℕ) (ask : Ask) (answer : Heard) (u : ℕ)
    → stage_steps k (answered ask answer) u ≤ 2
answered-steps k Acquire (Reply (Found body minutes cookie first)) u =
    acquired-steps k body first cookie u
answered-steps k Acquire (Reply Missing) u = omega arith
answered-steps k Acquire answer u = omega arith
answered-steps k Read (Reply (Found body minutes cookie first)) u = omega arith
answered-steps k Read (Reply Missing) u = omega arith
answered-steps k Read answer u = omega arith
answered-steps k Reset (Reply done_reply) u = omega arith
answered-steps k Reset (Reply Missing) u = omega arith
answered-steps k Reset answer u = omega arith
answered-steps k (Release cookie) answer u = omega (arith, refused_stage-steps k answer u)
answered-steps k (Write body minutes fresh cookie) answer u =
    omega (arith, refused_stage-steps k answer u)
answered-steps k (Remove cookie) answer u = omega (arith, refused_stage-steps k answer u)

end_answered-steps : (k : ℕ) (answer : Heard) (u : ℕ) → stage_steps k (end_answered answer) u < 1
end_answered-steps k (Reply done_reply) u = omega arith
end_answered-steps k (Reply Missing) u = omega arith
end_answered-steps k (Reply (Locked cookie age since)) u = omega arith
end_answered-steps k answer u = omega arith

locked-steps : (visit : VisitState) (t u : ℕ) (lock : Lock) (used_up old : Bool)
    → visit.locked < visit.terms.limits.polls
    → steps_left (meets_lock_if used_up old visit t lock) u
    < 3 * (visit.terms.limits.polls - visit.locked) + 2
locked-steps visit t u lock true old h = omega arith
locked-steps visit t u lock false true h = omega arith
locked-steps visit t u lock false false h = omega
    (arith, flag-le (nat_lt u (t + visit.terms.limits.poll_ms)))

asked-steps : (visit : VisitState) (t u : ℕ) (answer : Heard) (lock : Option Lock)
    → visit.locked < visit.terms.limits.polls
    → steps_left (hears_answer visit t answer lock) u
    < 3 * (visit.terms.limits.polls - visit.locked) + 2
asked-steps visit t u answer None h = omega (
  arith,
  answered-steps
      (visit.terms.limits.polls - visit.locked) visit.ask answer u,
)
asked-steps visit t u answer (Some lock) h = locked-steps visit t u lock _ _ h

forced-steps : (visit : VisitState) (u : ℕ) (answer : Heard)
    → steps_left (hears_release visit answer) u < 3 * (visit.terms.limits.polls - visit.locked) + 3
forced-steps visit u (Reply done_reply) = omega (arith, no_wait u)
forced-steps visit u (Reply Missing) = omega (arith, no_wait u)
forced-steps visit u (Reply (Locked cookie age since)) = omega (arith, no_wait u)
forced-steps visit u answer = omega arith

pub hears-steps : (visit : VisitState) (t u : ℕ) (stage : Stage) (answer : Heard)
    → StageFits visit.locked visit.terms.limits.polls stage → StageSends stage t
    → steps_left (hears visit t stage answer) u
    < stage_steps (visit.terms.limits.polls - visit.locked) stage t
hears-steps visit t u (Asking from) answer fits sends =
    omega (arith, asked-steps visit t u answer (lock_met visit.ask answer) fits)
hears-steps visit t u Forcing answer fits sends = forced-steps visit u answer
hears-steps visit t u (Running content first cookie) answer fits sends = absurd sends
hears-steps visit t u Ending answer fits sends = end_answered-steps _ answer u
hears-steps visit t u (Over outcome) answer fits sends = absurd sends
