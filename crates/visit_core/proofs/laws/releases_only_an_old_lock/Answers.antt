use Rattle.visit_core.proofs.ReleaseLemmas.{releases, released}
use Rattle.visit_core.proofs.laws.releases_only_an_old_lock.Goals as goal

pub returns : goal.returns
returns c = λ terms past t cookie lawful not_ended.
    (releases terms past t cookie lawful not_ended, released terms past t cookie not_ended)
