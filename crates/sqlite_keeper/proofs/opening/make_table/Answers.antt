use Rattle.sqlite.specs.Held.{state}
use Rattle.sqlite_keeper.proofs.ReadyLemmas.{known_then}
use Rattle.sqlite_keeper.proofs.opening.make_table.Goals as goal

pub returns : goal.returns
returns g c =
    let first = (state g.S.Store c.args.connection.now) in
    let made = (state g.S.Store c.make_items2.new.conn) in
    let read = (state g.S.Store c.understand_both.new.connection) in
    known_then first read (state g.S.Store c.index_items2.new.conn)
    (known_then first made read c.in_ok-make_items2.ensures c.in_ok-understand_both.ensures)
    c.in_ok-index_items2.ensures
