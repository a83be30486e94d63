use Rattle.std.proofs.Common.{◌≡◌, length}
use Rattle.page_script.specs.World.{world_from}
use Rattle.partition.specs.Farm.{server_opening}
use Rattle.partition.specs.FarmStands.{ScriptsStand}
use Rattle.partition.proofs.farm_script.FarmScript.new.Given as goal

abbrev pub invariant-loop-keeper : goal.invariant-loop-keeper
invariant-loop-keeper g l = record {
  count : length l.scripts.items ≡ length l.yielded;
  stand : ScriptsStand g.K.Keeper l.scripts.items (λ server. world_from server_opening);
}
