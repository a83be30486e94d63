use Rattle.std.proofs.Common.{rules, sym}
use Rattle.cookie_source.proofs.CounterSteps.{splits}
use Rattle.cookie_source.proofs.source.CookieSource.make_drawer.Goals as goal

pub split_seat-seat-requires : goal.split_seat-seat-requires
split_seat-seat-requires c = (
  c.requires.0,
  omega
      (Rattle.std.proofs.Common.arith, c.args.self.now.one_word),
  splits _ _ _,
)
