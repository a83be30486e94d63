use Rattle.journal_text.proofs.JournalLemmas.{no_start}
use Rattle.journal_text.proofs.reading.journal_line.cut_start.Goals as goal

pub returns-in_err-rest : goal.returns-in_err-rest
returns-in_err-rest c = rw c.from_residual.ensures
    (no_start c.args.line.now c.in_default.ensures c.in_default-strip.ensures
    c.in_err-rest.ensures)
