use Rattle.std.proofs.Common.{rules, pos, ◌-◌, ◌^◌}
use Rattle.std.specs.Prelude.{min}
use Rattle.sqlite.specs.Held.{state}
use Rattle.sqlite_keeper.specs.Keeping.{rows_in}
use Rattle.sqlite_keeper.proofs.CallLemmas.{due_by}
use Rattle.sqlite_keeper.proofs.items.due_key.Goals as goal

pub returns-clause-due : goal.returns-clause-due
returns-clause-due g c rests opened =
    let was = (c.due_row-row.ensures.same rests.0 opened).was_open in
    due_by (rows_in (state g.S.Store c.args.connection.now)) c.args.t c.due_row-row.result
    c.read_key.result (c.learn_keys.ensures was rests.0 rests.1)
    (c.due_row-row.ensures.row rests.0 opened (pos (min c.args.t (2 ^ 63 - 1))) (search rules))
    c.read_key.ensures.shows c.read_key.ensures.ok
