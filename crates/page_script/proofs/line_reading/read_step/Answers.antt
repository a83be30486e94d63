use Rattle.page_script.proofs.LineLemmas.{no_step}
use Rattle.page_script.proofs.line_reading.read_step.Goals as goal

pub returns-in_err-name : goal.returns-in_err-name
returns-in_err-name c =
    rw c.from_residual-in_err-name.ensures
    (no_step c.args.text.now c.in_ok-moment.name.now c.in_ok-moment.moment c.in_ok-moment.ensures
    c.in_err-name.ensures)
