use Rattle.std.proofs.Common.{length}
use Rattle.std.specs.Prelude.{All}
use Rattle.visit_command.specs.ServerPorts.{IsPort}
use Rattle.visit_command.proofs.PortLemmas.{PortsRead}
use Rattle.visit_command.proofs.server_port.read_ports.Given as goal

abbrev pub invariant-loop-part : goal.invariant-loop-part
invariant-loop-part l = PortsRead l.fn.word l.ports.items l.rest × All IsPort l.ports.items

abbrev pub decreases-loop-part : goal.decreases-loop-part
decreases-loop-part l = length l.rest
