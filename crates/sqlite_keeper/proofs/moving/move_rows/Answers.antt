use Rattle.sqlite.specs.Held.{state}
use Rattle.sqlite_keeper.proofs.ReadyLemmas.{after_ready, ready_then}
use Rattle.sqlite_keeper.proofs.moving.move_rows.Goals as goal

pub returns-then-not-branch : goal.returns-then-not-branch
returns-then-not-branch g c = ready_then (state g.S.Store c.args.connection.now) (state g.S.Store c.loop.connection)
    (state g.S.Store c.move_first.new.connection) c.loop.invariant c.in_ok-move_first.ensures

pub loop-preserved : goal.loop-preserved
loop-preserved g c = ready_then (state g.S.Store c.args.connection.now) (state g.S.Store c.loop.connection)
    (state g.S.Store c.move_first.new.connection) c.loop.invariant c.in_ok-move_first.ensures

pub returns : goal.returns
returns g c = after_ready c.none_left.result (state g.S.Store c.args.connection.now) (state g.S.Store c.loop.connection)
    (state g.S.Store c.none_left.new.connection) c.loop.invariant c.none_left.ensures
