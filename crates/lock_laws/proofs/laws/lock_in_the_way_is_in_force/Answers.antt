use Rattle.lock_laws.proofs.WayLemmas.{lock_in_the_way}
use Rattle.lock_laws.proofs.laws.lock_in_the_way_is_in_force.Goals as goal

pub returns : goal.returns
returns c = lock_in_the_way
