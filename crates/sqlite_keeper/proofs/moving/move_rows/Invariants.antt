use Rattle.sqlite.specs.Held.{state}
use Rattle.sqlite_keeper.specs.Opening.{KeepsReady}
use Rattle.sqlite_keeper.proofs.moving.move_rows.Given as goal

abbrev pub invariant-loop : goal.invariant-loop
invariant-loop g l = KeepsReady (state g.S.Store l.fn.connection) (state g.S.Store l.connection)
