use Rattle.sqlite.specs.Held.{state}
use Rattle.sqlite_keeper.proofs.ReadyLemmas.{goes_on_then}
use Rattle.sqlite_keeper.proofs.sqlite_keeper.open_over.Goals as goal

pub returns-clause-goes_on : goal.returns-clause-goes_on
returns-clause-goes_on g c last ready = goes_on_then g.S.Store (state g.S.Store c.args.connection)
    (state g.S.Store c.prepare.new.connection) (state g.S.Store c.in_ok-connection.connection) last
    c.settle.result c.in_ok-prepare.ensures c.in_ok-connection.ensures.kept ready
    c.settle.ensures.opened (c.settle.ensures.goes_on last)
