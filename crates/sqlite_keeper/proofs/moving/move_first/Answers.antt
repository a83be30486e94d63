use Rattle.sqlite_keeper.proofs.ReadyLemmas.{any_ready}
use Rattle.sqlite_keeper.proofs.moving.move_first.Goals as goal

pub returns-in-Ok : goal.returns-in-Ok
returns-in-Ok g c = any_ready g.S.Store c.args.connection.now c.first_row.new.conn
    c.move_any.new.connection c.in-Ok.row c.move_any.result c.in-Ok.ensures.row c.first_row.ensures.same
    c.first_row.ensures.opened c.move_any.ensures.opened c.move_any.ensures.none
