use Rattle.std.proofs.Common.{sym, arith}
use Rattle.asp_base.proofs.NumberLemmas.{number_of-le}
use Rattle.pipe_command.proofs.command_words.load_of.Goals as goal

pub returns-clause-fits : goal.returns-clause-fits
returns-clause-fits c =
    let requests = number_of-le _ _ _ (sym c.in_ok-requests.ensures) in
    let seed = number_of-le _ _ _ (sym c.in_ok-seed.ensures) in
    (omega (arith, requests), omega (arith, seed))
