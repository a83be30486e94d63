use Rattle.page_script.proofs.RunLemmas.{run-lawful, run-forces}
use Rattle.page_script.proofs.laws.pages_keep_their_rule.Goals as goal

pub returns-clause-lawful : goal.returns-clause-lawful
returns-clause-lawful c = run-lawful

pub returns-clause-forced : goal.returns-clause-forced
returns-clause-forced c = run-forces
