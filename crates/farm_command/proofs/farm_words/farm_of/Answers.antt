use Rattle.std.proofs.Common.{sym, arith}
use Rattle.asp_base.proofs.NumberLemmas.{number_of-le}
use Rattle.farm_command.proofs.farm_words.farm_of.Goals as goal

pub returns-clause-fits : goal.returns-clause-fits
returns-clause-fits c =
    let few = number_of-le _ _ _ (sym c.in_ok-servers.ensures) in (omega arith, few)
