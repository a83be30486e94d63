use Rattle.page_script.specs.World.{world_from}
use Rattle.page_script.proofs.RunLemmas.{Leads-push}
use Rattle.page_script.proofs.laws.runs_go_on.Goals as goal

pub returns : goal.returns
returns c opening script world output line next printed runs step =
    Leads-push (world_from opening) world next script line output printed runs step
