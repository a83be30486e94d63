use Rattle.std.proofs.Common.{◌∙◌, ap}
use Rattle.std.specs.Prelude.{not}
use Rattle.sqlite.specs.Held.{state}
use Rattle.sqlite.proofs.StateLemmas.{clean_if_open}
use Rattle.sqlite_rows.specs.Texts.{cut_text}
use Rattle.sqlite_rows.proofs.StayLemmas.{opened}
use Rattle.sqlite_rows.proofs.CallLemmas.{cut_ok, err_stays}
use Rattle.sqlite_rows.proofs.items.cut_row.Goals as goal

pub returns-clause-cuts : goal.returns-clause-cuts
returns-clause-cuts g c known now n =
    let new = c.execute.new.self in
    let clean = clean_if_open (g.S.Store.view new.store) (g.met.S.Store.shut_if_dirty new.store) now
    in
    cut_ok c.args.key.now (state g.S.Store c.args.conn.now) (state g.S.Store new) c.execute.result
    known n (rw c.params-to_sql.ensures at (c.execute.ensures.runs clean))

pub returns-clause-same : goal.returns-clause-same
returns-clause-same g c known now =
    let new = c.execute.new.self in
    let clean = clean_if_open (g.S.Store.view new.store) (g.met.S.Store.shut_if_dirty new.store) now
    in
    err_stays cut_text _ (state g.S.Store c.args.conn.now) (state g.S.Store new) c.execute.result
    known (c.is_autocommit-settled.ensures.settled (c.is_autocommit-settled.ensures.value
    ∙ ap not known.1)) now (c.execute.ensures.runs clean)

pub returns-clause-opened : goal.returns-clause-opened
returns-clause-opened g c now =
    let new = c.execute.new.self in
    let clean = clean_if_open (g.S.Store.view new.store) (g.met.S.Store.shut_if_dirty new.store) now
    in
    opened cut_text _ (state g.S.Store c.args.conn.now) (state g.S.Store new) c.execute.result
    (c.execute.ensures.runs clean) now
