use Rattle.std.proofs.Common.{sym}
use Rattle.asp_base.proofs.NumberLemmas.{number_of-le}
use Rattle.visit_command.proofs.server_port.port_of.Goals as goal

pub returns-then-port-gt0-clause-fits : goal.returns-then-port-gt0-clause-fits
returns-then-port-gt0-clause-fits c =
    (c.if-port-gt0.true, number_of-le _ _ _ (sym c.in_ok-port.ensures))
