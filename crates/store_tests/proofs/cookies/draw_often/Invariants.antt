use Rattle.std.proofs.Common.{◌≡◌}
use Rattle.cookie_source.specs.Source.{source_id, drawer_home}
use Rattle.store_tests.proofs.cookies.draw_often.Given as goal

abbrev pub invariant-loop : goal.invariant-loop
invariant-loop g l = drawer_home l.drawer ≡ source_id l.source
