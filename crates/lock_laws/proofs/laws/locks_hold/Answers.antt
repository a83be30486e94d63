use Rattle.lock_laws.proofs.LawLemmas.{LocksHoldIn-of_legal}
use Rattle.lock_laws.proofs.laws.locks_hold.Goals as goal

pub returns : goal.returns
returns c = LocksHoldIn-of_legal
