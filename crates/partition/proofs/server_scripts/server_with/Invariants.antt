use Rattle.std.proofs.Common.{ℕ, ◌<◌}
use Rattle.page_script.specs.World.{World, HasName}
use Rattle.partition.specs.FarmStands.{ScriptsStand}
use Rattle.partition.proofs.server_scripts.server_with.Given as goal

abbrev pub invariant-loop-server : goal.invariant-loop-server
invariant-loop-server g l =
    (worlds : ℕ → World) → ScriptsStand g.K.Keeper l.scripts worlds → (k : ℕ) → k < l.server
    → HasName (worlds k).pages l.name → ⊥
