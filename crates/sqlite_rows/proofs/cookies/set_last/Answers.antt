use Rattle.std.proofs.Common.{◌∙◌, ap, subst}
use Rattle.std.specs.Prelude.{not}
use Rattle.sqlite.specs.Held.{state}
use Rattle.sqlite.specs.State.{Executes}
use Rattle.sqlite.proofs.StateLemmas.{clean_if_open}
use Rattle.sqlite_rows.specs.Texts.{set_last_text}
use Rattle.sqlite_rows.proofs.StayLemmas.{opened}
use Rattle.sqlite_rows.proofs.CallLemmas.{err_stays}
use Rattle.sqlite_rows.proofs.CookieLemmas.{set_last_ok}
use Rattle.sqlite_rows.proofs.cookies.set_last.Goals as goal

pub returns-clause-sets : goal.returns-clause-sets
returns-clause-sets g c known now m e =
    let old = state g.S.Store c.args.conn.now in
    let new = c.execute.new.self in
    let clean = clean_if_open (g.S.Store.view new.store) (g.met.S.Store.shut_if_dirty new.store) now
    in
    set_last_ok m old (state g.S.Store new) c.execute.result known
    (subst (λ p. Executes set_last_text p old (state g.S.Store new) c.execute.result) e
    (c.execute.ensures.runs clean))

pub returns-clause-same : goal.returns-clause-same
returns-clause-same g c known now =
    let new = c.execute.new.self in
    let clean = clean_if_open (g.S.Store.view new.store) (g.met.S.Store.shut_if_dirty new.store) now
    in
    err_stays set_last_text _ (state g.S.Store c.args.conn.now)
    (state g.S.Store new) c.execute.result known
    (c.is_autocommit-settled.ensures.settled (c.is_autocommit-settled.ensures.value
    ∙ ap not known.1)) now (c.execute.ensures.runs clean)

pub returns-clause-opened : goal.returns-clause-opened
returns-clause-opened g c now =
    let new = c.execute.new.self in
    let clean = clean_if_open (g.S.Store.view new.store) (g.met.S.Store.shut_if_dirty new.store) now
    in
    opened set_last_text _ (state g.S.Store c.args.conn.now) (state g.S.Store new) c.execute.result
    (c.execute.ensures.runs clean) now
