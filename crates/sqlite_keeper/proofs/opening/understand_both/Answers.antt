use Rattle.sqlite.specs.Held.{state}
use Rattle.sqlite_keeper.proofs.ReadyLemmas.{after_known}
use Rattle.sqlite_keeper.proofs.opening.understand_both.Goals as goal

pub returns : goal.returns
returns g c = after_known c.understand-2.result (state g.S.Store c.args.connection.now)
    (state g.S.Store c.understand.new.conn) (state g.S.Store c.understand-2.new.conn)
    c.in_ok-understand.ensures c.understand-2.ensures
