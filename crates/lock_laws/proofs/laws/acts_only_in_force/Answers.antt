use Rattle.lock_laws.proofs.LawLemmas.{acts_only_in_force}
use Rattle.lock_laws.proofs.laws.acts_only_in_force.Goals as goal

pub returns : goal.returns
returns c = acts_only_in_force
