use Rattle.std.proofs.Common.{◌≡◌, true, false, subst, sym, ◌∙◌}
use Rattle.visit_core.specs.Terms.{LimitsFit}
use Rattle.page_script.proofs.LineLemmas.{limits_same, limits_second, limits_third}
use Rattle.page_script.proofs.line_reading.read_limits.Goals as goal

pub returns-in_err-poll_ms : goal.returns-in_err-poll_ms
returns-in_err-poll_ms c =
    rw c.from_residual-in_err-poll_ms.ensures
    (λ l is. c.in_err-poll_ms.ensures _ _ (limits_second c.args.text.now
    c.in_ok-execution_secs.rest.now c.in_ok-execution_secs.execution_secs l
    c.in_ok-execution_secs.ensures is).1)

pub returns-in_err-polls : goal.returns-in_err-polls
returns-in_err-polls c =
    rw c.from_residual-in_err-polls.ensures
    (λ l is. c.in_err-polls.ensures l.polls
    (limits_third c.args.text.now c.in_ok-execution_secs.rest.now c.in_ok-poll_ms.rest.now
    c.in_ok-execution_secs.execution_secs c.in_ok-poll_ms.poll_ms l
    c.in_ok-execution_secs.ensures c.in_ok-poll_ms.ensures is).2)

pub returns-else-limits_fit : goal.returns-else-limits_fit
returns-else-limits_fit c = λ l is.
    let same = limits_same c.args.text.now c.in_ok-execution_secs.rest.now c.in_ok-poll_ms.rest.now
    c.in_ok-execution_secs.execution_secs c.in_ok-poll_ms.poll_ms c.in_ok-polls.polls l
    c.in_ok-execution_secs.ensures c.in_ok-poll_ms.ensures c.in_ok-polls.ensures is in
    let clash : true ≡ false = sym (c.limits_fit.ensures.1 (subst LimitsFit same is.fits))
    ∙ c.if-limits_fit.false in
    cc
