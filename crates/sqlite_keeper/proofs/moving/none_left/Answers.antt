use Rattle.sqlite.specs.Held.{state}
use Rattle.sqlite_keeper.proofs.ReadyLemmas.{read_ready}
use Rattle.sqlite_keeper.proofs.moving.none_left.Goals as goal

pub returns-in-Ok : goal.returns-in-Ok
returns-in-Ok g c = read_ready c.is_none.result (state g.S.Store c.args.connection.now) (state g.S.Store c.first_row.new.conn)
    c.first_row.ensures.same c.first_row.ensures.opened
