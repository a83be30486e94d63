use Rattle.std.proofs.Common.{◌≤◌, ◌^◌}
use Rattle.std.specs.Prelude.{All}
use Rattle.visit_tests.proofs.texts.moments_of.Given as goal

abbrev pub invariant-loop-moment : goal.invariant-loop-moment
invariant-loop-moment l = All (λ m. m ≤ 2 ^ 62) l.all.items
