use Rattle.std.proofs.Common.{rules, Some, ap, ◌∙◌}
use Rattle.turnstile.proofs.AfterSteps.{taken}
use Rattle.turnstile.proofs.TurnsKeepRule.{enters}
use Rattle.turnstile.proofs.turns.Turnstile.wait.Goals as goal

pub load-found-requires : goal.load-found-requires
load-found-requires g c =
    let same = c.loop.invariant.3 in (
      search rules,
      search rules,
      enters _ _ _ _ _ _ c.args.ticket (ap (λ m. m.0.ticket) same ∙ c.requires.holds.0)
          (ap (λ m. m.0.inside) same ∙ c.requires.holds.1),
    )

pub exchange-requires : goal.exchange-requires
exchange-requires g c =
    let holds = ap (λ m. m.0.ticket) c.loop.invariant.3 ∙ c.requires.holds.0 in
    let came = (c.load-found.ensures.2 c.args.ticket holds).0 c.if-found-ticket.true in
    (search rules, (Some came.0, taken c.load-found.new.seat.me came.0 c.loop.seat.me.1 came.1))
