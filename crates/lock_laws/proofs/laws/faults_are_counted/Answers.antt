use Rattle.lock_laws.proofs.FaultLemmas.{faults-counted}
use Rattle.lock_laws.proofs.laws.faults_are_counted.Goals as goal

pub returns : goal.returns
returns c = faults-counted
