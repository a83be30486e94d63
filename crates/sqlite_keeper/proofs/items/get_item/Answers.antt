use Rattle.sqlite.specs.Held.{state}
use Rattle.sqlite_keeper.specs.Keeping.{rows_in}
use Rattle.sqlite_keeper.proofs.CallLemmas.{checked_by, got_by}
use Rattle.sqlite_keeper.proofs.items.get_item.Goals as goal

pub returns-clause-item : goal.returns-clause-item
returns-clause-item g c rests opened =
    let was = (c.item_row-row.ensures.same rests.0 opened).was_open in
    got_by (rows_in (state g.S.Store c.args.connection.now)) c.args.key.now c.item_row-row.result
    c.read_item.result c.requires (c.learn_keys.ensures was rests.0 rests.1)
    (rw c.as_slice.ensures at (c.item_row-row.ensures.row rests.0 opened)) c.read_item.ensures.shows
    c.read_item.ensures.ok

pub returns-clause-checked : goal.returns-clause-checked
returns-clause-checked g c rests opened =
    let was = (c.item_row-row.ensures.same rests.0 opened).was_open in
    checked_by (rows_in (state g.S.Store c.args.connection.now)) c.args.key.now
    c.item_row-row.result c.read_item.result c.requires
    (c.learn_keys.ensures was rests.0 rests.1)
    (rw c.as_slice.ensures at (c.item_row-row.ensures.row rests.0 opened)) c.read_item.ensures.shows
    c.read_item.ensures.ok
