use Rattle.std.proofs.Common.{take, option_copied}
use Rattle.keeper.specs.Pairs.{IsFirstOf}
use Rattle.keeper.proofs.pairs_due.first_due.Given as goal

abbrev pub invariant-loop-pair : goal.invariant-loop-pair
invariant-loop-pair l = IsFirstOf (take l.pair-index l.pairs) l.t (option_copied l.soonest)
