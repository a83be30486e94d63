use Rattle.std.proofs.Common.{sym, arith}
use Rattle.asp_base.proofs.NumberLemmas.{number_of-le}
use Rattle.serve_command.proofs.words_of_serve.serve_words.Goals as goal

pub returns-clause-fits : goal.returns-clause-fits
returns-clause-fits c =
    let port = number_of-le _ _ _ (sym c.in_ok-port.ensures) in
    let workers = number_of-le _ _ _ (sym c.in_ok-workers.ensures) in
    let limit = number_of-le _ _ _ (sym c.in_ok-limit.ensures) in
    record {
      port = (omega arith, omega (arith, port));
      workers = (omega arith, omega (arith, workers));
      limit = (omega arith, omega (arith, limit));
    }
