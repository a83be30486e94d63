use Rattle.lock_laws.proofs.LawLemmas.{in_force_is_done}
use Rattle.lock_laws.proofs.laws.in_force_is_done.Goals as goal

pub returns : goal.returns
returns c = in_force_is_done
