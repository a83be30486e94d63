use Rattle.std.proofs.Common.{◌≡◌, drop}
use Rattle.keeper.specs.Pairs.{item_at}
use Rattle.keeper.proofs.pairs.find.Given as goal

abbrev pub invariant-loop-other : goal.invariant-loop-other
invariant-loop-other l = item_at l.pairs l.key ≡ item_at (drop l.other-index l.pairs) l.key
