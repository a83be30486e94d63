use Rattle.std.proofs.Common.{◌∙◌, ap, subst}
use Rattle.std.specs.Prelude.{not}
use Rattle.sqlite.specs.Held.{state}
use Rattle.sqlite.specs.State.{QueriesRow}
use Rattle.sqlite.proofs.StateLemmas.{clean_if_open}
use Rattle.sqlite_rows.specs.Texts.{due_text}
use Rattle.sqlite_rows.proofs.CallLemmas.{due_ok, due_none}
use Rattle.sqlite_rows.proofs.QueryLemmas.{query_keeps}
use Rattle.sqlite_rows.proofs.StayLemmas.{query_opened, stays}
use Rattle.sqlite_rows.proofs.TextLemmas.{due_plain}
use Rattle.sqlite_rows.proofs.items.query_due.Goals as goal

pub returns-clause-found : goal.returns-clause-found
returns-clause-found g c fits opened t e =
    let old = state g.S.Store c.args.conn.now in
    let new = c.query_row.new.self in
    let clean = clean_if_open (g.S.Store.view new.store) (g.met.S.Store.shut_if_dirty new.store)
    opened in
    due_ok t old (state g.S.Store new) c.query_row.result fits
    (subst (λ p. QueriesRow due_text p old (state g.S.Store new) c.query_row.result) e
    (c.query_row.ensures.row clean))

pub returns-clause-none : goal.returns-clause-none
returns-clause-none g c fits opened t e is =
    let old = state g.S.Store c.args.conn.now in
    let new = c.query_row.new.self in
    let clean = clean_if_open (g.S.Store.view new.store) (g.met.S.Store.shut_if_dirty new.store)
    opened in
    due_none t old (state g.S.Store new) c.query_row.result fits
    (subst (λ p. QueriesRow due_text p old (state g.S.Store new) c.query_row.result) e
    (c.query_row.ensures.row clean)) is

pub returns-clause-same : goal.returns-clause-same
returns-clause-same g c fits opened =
    let new = c.query_row.new.self in
    let clean = clean_if_open (g.S.Store.view new.store) (g.met.S.Store.shut_if_dirty new.store)
    opened in
    stays (state g.S.Store c.args.conn.now) (state g.S.Store new) fits.1
    (c.is_autocommit-settled.ensures.settled (c.is_autocommit-settled.ensures.value
    ∙ ap not fits.1))
    (query_keeps due_text _ (state g.S.Store c.args.conn.now) (state g.S.Store new) fits.0 due_plain
    c.query_row.result (c.query_row.ensures.row clean)) opened

pub returns-clause-opened : goal.returns-clause-opened
returns-clause-opened g c now =
    let new = c.query_row.new.self in
    let clean = clean_if_open (g.S.Store.view new.store) (g.met.S.Store.shut_if_dirty new.store) now
    in
    query_opened due_text _ (state g.S.Store c.args.conn.now)
    (state g.S.Store new) c.query_row.result (c.query_row.ensures.row clean) now
