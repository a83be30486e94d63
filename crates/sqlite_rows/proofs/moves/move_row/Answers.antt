use Rattle.std.proofs.Common.{◌∙◌, ap, subst}
use Rattle.std.specs.Prelude.{not}
use Rattle.sqlite.specs.Held.{state}
use Rattle.sqlite.specs.State.{Executes}
use Rattle.sqlite.proofs.StateLemmas.{clean_if_open}
use Rattle.sqlite_rows.specs.Texts.{move_text}
use Rattle.sqlite_rows.proofs.StayLemmas.{opened}
use Rattle.sqlite_rows.proofs.CallLemmas.{err_stays}
use Rattle.sqlite_rows.proofs.InsertLemmas.{move_ok}
use Rattle.sqlite_rows.proofs.moves.move_row.Goals as goal

pub returns-clause-moves : goal.returns-clause-moves
returns-clause-moves g c known now n key it e =
    let old = state g.S.Store c.args.conn.now in
    let new = c.execute.new.self in
    let clean = clean_if_open (g.S.Store.view new.store) (g.met.S.Store.shut_if_dirty new.store) now
    in
    move_ok key it old (state g.S.Store new) c.execute.result known n
    (subst (λ p. Executes move_text p old (state g.S.Store new) c.execute.result) e
    (c.execute.ensures.runs clean))

pub returns-clause-same : goal.returns-clause-same
returns-clause-same g c known now =
    let new = c.execute.new.self in
    let clean = clean_if_open (g.S.Store.view new.store) (g.met.S.Store.shut_if_dirty new.store) now
    in
    err_stays move_text _ (state g.S.Store c.args.conn.now) (state g.S.Store new) c.execute.result
    known (c.is_autocommit-settled.ensures.settled (c.is_autocommit-settled.ensures.value
    ∙ ap not known.1)) now (c.execute.ensures.runs clean)

pub returns-clause-opened : goal.returns-clause-opened
returns-clause-opened g c now =
    let new = c.execute.new.self in
    let clean = clean_if_open (g.S.Store.view new.store) (g.met.S.Store.shut_if_dirty new.store) now
    in
    opened move_text _ (state g.S.Store c.args.conn.now) (state g.S.Store new) c.execute.result
    (c.execute.ensures.runs clean) now
