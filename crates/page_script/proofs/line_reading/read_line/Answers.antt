use Rattle.page_script.proofs.ReadingLemmas.{no_step_read}
use Rattle.page_script.proofs.line_reading.read_line.Goals as goal

pub returns-in-Some-strip-2-clause-none : goal.returns-in-Some-strip-2-clause-none
returns-in-Some-strip-2-clause-none c =
    no_step_read c.args.text.now c.in-Some-strip-2.words.now c.read_step.result
    c.map-in-Some-strip-2.result c.in-Some-strip-2.ensures
    c.read_step.ensures c.map-in-Some-strip-2.ensures.variant
