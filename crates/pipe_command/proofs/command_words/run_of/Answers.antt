use Rattle.std.proofs.Common.{sym, arith}
use Rattle.asp_base.proofs.NumberLemmas.{number_of-le}
use Rattle.pipe_command.proofs.command_words.run_of.Goals as goal

pub returns-clause-fits : goal.returns-clause-fits
returns-clause-fits c =
    let first = number_of-le _ _ _ (sym c.in_ok-first.ensures) in
    record {
      start = number_of-le _ _ _ (sym c.in_ok-start.ensures);
      step = number_of-le _ _ _ (sym c.in_ok-step.ensures);
      some = omega arith;
      first = omega (arith, first);
      most = omega arith;
    }
