use Rattle.sqlite.specs.Held.{state}
use Rattle.sqlite_rows.specs.Texts.{index_items_text}
use Rattle.sqlite_rows.proofs.MakeLemmas.{made}
use Rattle.sqlite_rows.proofs.TextLemmas.{index_items_is}
use Rattle.sqlite_rows.proofs.making.index_items.Goals as goal

pub returns : goal.returns
returns g c = made index_items_text (state g.S.Store c.args.conn.now)
    (state g.S.Store c.execute.new.self) c.execute.result index_items_is
    (g.met.S.Store.shut_if_dirty c.execute.new.self.store) c.execute.ensures.runs
