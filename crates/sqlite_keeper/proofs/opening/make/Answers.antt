use Rattle.sqlite.specs.Held.{state}
use Rattle.sqlite_keeper.proofs.ReadyLemmas.{after_known, known_then}
use Rattle.sqlite_keeper.proofs.opening.make.Goals as goal

pub returns : goal.returns
returns g c =
    let first = (state g.S.Store c.args.connection.now) in
    let old = (state g.S.Store c.make_old_table.new.connection) in
    let made = (state g.S.Store c.make_table.new.connection) in
    after_known c.make_last_table.result first made (state g.S.Store c.make_last_table.new.connection)
    (known_then first old made c.in_ok-make_old_table.ensures c.in_ok-make_table.ensures)
    c.make_last_table.ensures
