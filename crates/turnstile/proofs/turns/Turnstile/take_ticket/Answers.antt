use Rattle.std.proofs.Common.{rules}
use Rattle.turnstile.proofs.LoadsKeepRule.{takes_ticket}
use Rattle.turnstile.proofs.turns.Turnstile.take_ticket.Goals as goal

pub compare_exchange-at-requires : goal.compare_exchange-at-requires
compare_exchange-at-requires g c = (
  search rules,
  search rules,
  takes_ticket _ _ _ _ _ _ _ (search
      rules) (search rules) (search rules) (search rules) (search rules),
)
