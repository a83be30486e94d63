use Rattle.std.proofs.Common.{sym}
use Rattle.asp_base.proofs.NumberLemmas.{number_of-le}
use Rattle.visit_command.proofs.visit_words.minutes_of.Goals as goal

pub returns-then-minutes-gt0-clause-fits : goal.returns-then-minutes-gt0-clause-fits
returns-then-minutes-gt0-clause-fits c =
    (c.if-minutes-gt0.true, number_of-le _ _ _ (sym c.in_ok-minutes.ensures))
