use Rattle.sqlite.specs.Held.{state}
use Rattle.sqlite_keeper.proofs.ReadyLemmas.{after_ready, begun, ready_of, ready_then}
use Rattle.sqlite_keeper.proofs.opening.prepare.Goals as goal

pub returns : goal.returns
returns g c =
    let first = (state g.S.Store c.args.connection.now) in
    let made = (state g.S.Store c.make.new.connection) in
    let one = (state g.S.Store c.begin_cookies.new.conn) in
    after_ready c.move_rows.result first one (state g.S.Store c.move_rows.new.connection)
    (ready_then first made one (ready_of first made c.in_ok-make.ensures)
    (begun made one c.in_ok-begin_cookies.ensures.stays c.begin_cookies.ensures.opened))
    c.move_rows.ensures
