use Rattle.page_script.proofs.PageLemmas.{no_ending}
use Rattle.page_script.proofs.page.read_ending.Goals as goal

pub returns-in-None : goal.returns-in-None
returns-in-None c =
    no_ending c.args.text.now c.in_default.ensures.none.0 c.in_default.ensures.none.1
    (rw c.in-None.is at c.in_ok-minutes.ensures)
