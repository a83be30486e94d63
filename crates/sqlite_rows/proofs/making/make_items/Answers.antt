use Rattle.sqlite.specs.Held.{state}
use Rattle.sqlite_rows.specs.Texts.{make_items_text}
use Rattle.sqlite_rows.proofs.MakeLemmas.{made}
use Rattle.sqlite_rows.proofs.TextLemmas.{make_items_is}
use Rattle.sqlite_rows.proofs.making.make_items.Goals as goal

pub returns : goal.returns
returns g c = made make_items_text (state g.S.Store c.args.conn.now)
    (state g.S.Store c.execute.new.self) c.execute.result make_items_is
    (g.met.S.Store.shut_if_dirty c.execute.new.self.store) c.execute.ensures.runs
