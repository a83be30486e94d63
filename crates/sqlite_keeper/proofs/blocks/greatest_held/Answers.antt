use Rattle.sqlite.specs.Held.{state}
use Rattle.sqlite_keeper.specs.Keeping.{rows_in}
use Rattle.sqlite_keeper.proofs.BlockLemmas.{held_by}
use Rattle.sqlite_keeper.proofs.blocks.greatest_held.Goals as goal

pub returns-clause-held : goal.returns-clause-held
returns-clause-held g c rests opened =
    let was = (c.greatest_row-row.ensures.same rests.0 opened).was_open in
    held_by (rows_in (state g.S.Store c.args.connection.now)) c.greatest_row-row.result
    c.read_held.result (c.learn_keys.ensures was rests.0 rests.1)
    (c.greatest_row-row.ensures.row rests.0 opened) c.read_held.ensures.shows
    c.read_held.ensures.ok
