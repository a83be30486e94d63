use Rattle.lock_laws.proofs.LawLemmas.{nobody_else}
use Rattle.lock_laws.proofs.laws.nobody_else.Goals as goal

pub returns : goal.returns
returns c = nobody_else
