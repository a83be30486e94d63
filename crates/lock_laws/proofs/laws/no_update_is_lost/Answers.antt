use Rattle.lock_laws.proofs.LawLemmas.{no_update_is_lost}
use Rattle.lock_laws.proofs.laws.no_update_is_lost.Goals as goal

pub returns : goal.returns
returns c = no_update_is_lost
