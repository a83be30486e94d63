use Rattle.sqlite.specs.Held.{state}
use Rattle.sqlite_keeper.proofs.ReadyLemmas.{after_known}
use Rattle.sqlite_keeper.proofs.opening.make_last_table.Goals as goal

pub returns : goal.returns
returns g c = after_known c.understand_both.result (state g.S.Store c.args.connection.now)
    (state g.S.Store c.make_cookies.new.conn) (state g.S.Store c.understand_both.new.connection)
    c.in_ok-make_cookies.ensures c.understand_both.ensures
