use Rattle.sqlite.specs.Held.{state}
use Rattle.sqlite_rows.specs.Texts.{make_cookies_text}
use Rattle.sqlite_rows.proofs.MakeLemmas.{made}
use Rattle.sqlite_rows.proofs.TextLemmas.{make_cookies_is}
use Rattle.sqlite_rows.proofs.making.make_cookies.Goals as goal

pub returns : goal.returns
returns g c = made make_cookies_text (state g.S.Store c.args.conn.now)
    (state g.S.Store c.execute.new.self) c.execute.result make_cookies_is
    (g.met.S.Store.shut_if_dirty c.execute.new.self.store) c.execute.ensures.runs
