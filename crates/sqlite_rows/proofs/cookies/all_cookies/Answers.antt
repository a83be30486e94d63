use Rattle.std.proofs.Common.{◌∙◌, ap}
use Rattle.std.specs.Prelude.{not}
use Rattle.sqlite.specs.Held.{state}
use Rattle.sqlite.proofs.StateLemmas.{clean_if_open}
use Rattle.sqlite_rows.specs.Texts.{all_cookies_text}
use Rattle.sqlite_rows.proofs.CookieLemmas.{all_cookies_ok}
use Rattle.sqlite_rows.proofs.QueryLemmas.{all_keeps}
use Rattle.sqlite_rows.proofs.StayLemmas.{all_opened, stays}
use Rattle.sqlite_rows.proofs.TextLemmas.{all_cookies_plain}
use Rattle.sqlite_rows.proofs.cookies.all_cookies.Goals as goal

pub returns-clause-found : goal.returns-clause-found
returns-clause-found g c known opened =
    let new = c.query_all.new.self in
    let clean = clean_if_open (g.S.Store.view new.store) (g.met.S.Store.shut_if_dirty new.store)
    opened in
    all_cookies_ok (λ v. v.items) (state g.S.Store c.args.conn.now) (state g.S.Store new)
    c.query_all.result known (c.query_all.ensures.ok clean)

pub returns-clause-same : goal.returns-clause-same
returns-clause-same g c known opened =
    let new = c.query_all.new.self in
    let clean = clean_if_open (g.S.Store.view new.store) (g.met.S.Store.shut_if_dirty new.store)
    opened in
    stays (state g.S.Store c.args.conn.now) (state g.S.Store new) known.1
    (c.is_autocommit-settled.ensures.settled (c.is_autocommit-settled.ensures.value
    ∙ ap not known.1))
    (all_keeps all_cookies_text _ (state g.S.Store c.args.conn.now) (state g.S.Store new) known.0
    all_cookies_plain (λ v. v.items) c.query_all.result (c.query_all.ensures.ok clean)
    (c.query_all.ensures.err clean)) opened

pub returns-clause-opened : goal.returns-clause-opened
returns-clause-opened g c now =
    let new = c.query_all.new.self in
    let clean = clean_if_open (g.S.Store.view new.store) (g.met.S.Store.shut_if_dirty new.store) now
    in
    all_opened (λ v. v.items) all_cookies_text _ (state g.S.Store c.args.conn.now)
    (state g.S.Store new) c.query_all.result (c.query_all.ensures.ok clean)
    (c.query_all.ensures.err clean) now
