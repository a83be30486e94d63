use Rattle.std.proofs.Common.{◌≤◌}
use Rattle.command_loop.specs.Flow.{flow}
use Rattle.command_loop.specs.LoopRunning.{Running}
use Rattle.command_loop.proofs.main_loop.run.Given as goal

abbrev pub invariant-pieces : goal.invariant-pieces
invariant-pieces g l = record {
  running : Running g.C.Consumer.went l.most l.fn.consumer l.consumer
      (flow (g.S.Source.told l.fn.source) (g.S.Source.told l.source)
      (g.T.Sink.taken l.fn.sink) (g.T.Sink.taken l.sink)) l.left;
  reads : g.S.Source.faults l.fn.source ≤ g.S.Source.faults l.source;
  writes : g.T.Sink.faults l.fn.sink ≤ g.T.Sink.faults l.sink;
}

abbrev pub decreases-pieces : goal.decreases-pieces
decreases-pieces g l = l.left
