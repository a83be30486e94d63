use Rattle.std.proofs.Common.{rules}
use Rattle.cookie_source.proofs.CounterSteps.{looks, draws}
use Rattle.cookie_source.proofs.source.CookieSource.draw.Goals as goal

pub load-found-requires : goal.load-found-requires
load-found-requires g c = (search rules, search rules, looks _ _ _ _)

pub compare_exchange-at-requires : goal.compare_exchange-at-requires
compare_exchange-at-requires g c = (search rules, search rules, draws _ _ _ _ _ (search rules))
