use Rattle.sqlite.specs.Held.{state}
use Rattle.sqlite_rows.proofs.MakeLemmas.{understood_ok}
use Rattle.sqlite_rows.proofs.making.understand.Goals as goal

pub returns : goal.returns
returns g c = understood_ok _ (state g.S.Store c.args.conn.now)
    (state g.S.Store c.prepare-statement.new.self) c.prepare-statement.result
    c.is_understood.result (g.met.S.Store.shut_if_dirty c.prepare-statement.new.self.store)
    c.prepare-statement.ensures.ok c.is_understood.ensures
