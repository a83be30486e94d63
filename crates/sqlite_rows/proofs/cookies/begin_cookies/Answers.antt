use Rattle.sqlite.specs.Held.{state}
use Rattle.sqlite.proofs.StateLemmas.{clean_if_open}
use Rattle.sqlite_rows.specs.Texts.{begin_cookies_text}
use Rattle.sqlite_rows.proofs.MakeLemmas.{begin_ok}
use Rattle.sqlite_rows.proofs.StayLemmas.{opened}
use Rattle.sqlite_rows.proofs.cookies.begin_cookies.Goals as goal

pub returns-clause-stays : goal.returns-clause-stays
returns-clause-stays g c last is known now =
    let new = c.execute.new.self in
    let clean = clean_if_open (g.S.Store.view new.store) (g.met.S.Store.shut_if_dirty new.store) now
    in
    begin_ok last (state g.S.Store c.args.conn.now) (state g.S.Store new) c.execute.result known is
    (c.execute.ensures.runs clean)

pub returns-clause-opened : goal.returns-clause-opened
returns-clause-opened g c now =
    let new = c.execute.new.self in
    let clean = clean_if_open (g.S.Store.view new.store) (g.met.S.Store.shut_if_dirty new.store) now
    in
    opened begin_cookies_text _ (state g.S.Store c.args.conn.now) (state g.S.Store new)
    c.execute.result (c.execute.ensures.runs clean) now
