use Rattle.std.proofs.Common.{◌∙◌, ap}
use Rattle.std.specs.Prelude.{not}
use Rattle.sqlite.specs.Held.{state}
use Rattle.sqlite.proofs.StateLemmas.{clean_if_open}
use Rattle.sqlite_rows.specs.Texts.{first_text}
use Rattle.sqlite_rows.proofs.MoveLemmas.{first_ok, none_first}
use Rattle.sqlite_rows.proofs.QueryLemmas.{query_keeps}
use Rattle.sqlite_rows.proofs.StayLemmas.{query_opened, stays}
use Rattle.sqlite_rows.proofs.TextLemmas.{first_plain}
use Rattle.sqlite_rows.proofs.moves.query_first.Goals as goal

pub returns-clause-found : goal.returns-clause-found
returns-clause-found g c known opened =
    let new = c.query_row.new.self in
    let clean = clean_if_open (g.S.Store.view new.store) (g.met.S.Store.shut_if_dirty new.store)
    opened in
    first_ok (state g.S.Store c.args.conn.now) (state g.S.Store new) c.query_row.result known
    (c.query_row.ensures.row clean)

pub returns-clause-same : goal.returns-clause-same
returns-clause-same g c known opened =
    let new = c.query_row.new.self in
    let clean = clean_if_open (g.S.Store.view new.store) (g.met.S.Store.shut_if_dirty new.store)
    opened in
    stays (state g.S.Store c.args.conn.now) (state g.S.Store new) known.1
    (c.is_autocommit-settled.ensures.settled (c.is_autocommit-settled.ensures.value
    ∙ ap not known.1))
    (query_keeps first_text _ (state g.S.Store c.args.conn.now) (state g.S.Store new) known.0
    first_plain c.query_row.result (c.query_row.ensures.row clean)) opened

pub returns-clause-none : goal.returns-clause-none
returns-clause-none g c known opened e =
    let new = c.query_row.new.self in
    let clean = clean_if_open (g.S.Store.view new.store) (g.met.S.Store.shut_if_dirty new.store)
    opened in
    none_first (state g.S.Store c.args.conn.now) (state g.S.Store new) c.query_row.result known
    (c.query_row.ensures.row clean) e

pub returns-clause-opened : goal.returns-clause-opened
returns-clause-opened g c now =
    let new = c.query_row.new.self in
    let clean = clean_if_open (g.S.Store.view new.store) (g.met.S.Store.shut_if_dirty new.store) now
    in
    query_opened first_text _ (state g.S.Store c.args.conn.now)
    (state g.S.Store new) c.query_row.result (c.query_row.ensures.row clean) now
