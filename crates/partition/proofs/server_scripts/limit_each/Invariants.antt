use Rattle.std.proofs.Common.{ℕ}
use Rattle.page_script.specs.World.{World}
use Rattle.partition.specs.FarmStands.{ScriptsStand}
use Rattle.partition.proofs.ScriptLemmas.{LimitedUpTo}
use Rattle.partition.proofs.server_scripts.limit_each.Given as goal

abbrev pub invariant-loop-script : goal.invariant-loop-script
invariant-loop-script g l =
    (worlds : ℕ → World) → ScriptsStand g.K.Keeper l.initial.scripts worlds
    → LimitedUpTo g.K.Keeper l.limits worlds l.script-index l.scripts
