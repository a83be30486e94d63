use Rattle.std.proofs.Common.{arith}
use Rattle.sqlite_trees.specs.View.{IsClean}
use Rattle.sqlite.specs.Held.{state}
use Rattle.sqlite.proofs.StateLemmas.{clean_if_open}
use Rattle.sqlite_keeper.proofs.OpenLemmas.{tree_numbered}
use Rattle.sqlite_keeper.proofs.opening.over_store.Goals as goal

pub returns-in-Ok-clause-items : goal.returns-in-Ok-clause-items
returns-in-Ok-clause-items g c numbered opened =
    let store = c.args.store in
    let conn = c.in-Ok.connection in
    let clean = clean_if_open (g.S.Store.view conn.store)
    (g.met.S.Store.shut_if_dirty conn.store) opened in
    let less = c.in-Ok.ensures.clean in
    let before : IsClean (g.S.Store.view store) = omega (arith, less, clean) in
    tree_numbered (g.S.Store.view store).shape (g.S.Store.view store).trees
    (state g.S.Store conn).now.trees 3 (g.met.S.Store.ordered store (c.requires before).sound)
    (c.has_tables-numbered.ensures.items numbered) (c.in-Ok.ensures.trees clean)

pub returns-in-Ok-clause-cookies : goal.returns-in-Ok-clause-cookies
returns-in-Ok-clause-cookies g c numbered opened =
    let store = c.args.store in
    let conn = c.in-Ok.connection in
    let clean = clean_if_open (g.S.Store.view conn.store)
    (g.met.S.Store.shut_if_dirty conn.store) opened in
    let less = c.in-Ok.ensures.clean in
    let before : IsClean (g.S.Store.view store) = omega (arith, less, clean) in
    tree_numbered (g.S.Store.view store).shape (g.S.Store.view store).trees
    (state g.S.Store conn).now.trees 6 (g.met.S.Store.ordered store (c.requires before).sound)
    (c.has_tables-numbered.ensures.cookies numbered) (c.in-Ok.ensures.trees clean)

pub returns-in-Ok-clause-kept : goal.returns-in-Ok-clause-kept
returns-in-Ok-clause-kept g c opened =
    let store = c.args.store in
    let conn = c.in-Ok.connection in
    let clean = clean_if_open (g.S.Store.view conn.store)
    (g.met.S.Store.shut_if_dirty conn.store) opened in
    let less = c.in-Ok.ensures.clean in
    let before : IsClean (g.S.Store.view store) = omega (arith, less, clean) in
    (before, c.in-Ok.ensures.trees clean)
