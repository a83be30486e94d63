use Rattle.std.proofs.Common.{◌≡◌, ◌≤◌, length}
use Rattle.std.specs.Prelude.{IsFalse}
use Rattle.asp_base.specs.Outside.{Takes}
use Rattle.state_store.specs.Passes.{IsPassOf, caller_of}
use Rattle.stream_server.specs.Callers.{caller_with}
use Rattle.stream_server.specs.StreamProgress.{AnswersHeld}
use Rattle.stream_server.proofs.one_stream.answer_held.Given as goal

abbrev pub invariant-loop-message : goal.invariant-loop-message
invariant-loop-message g l = record {
  pass : IsPassOf l.store l.pass;
  caller : caller_of l.pass ≡ caller_of l.fn.pass;
  held : AnswersHeld (Takes (g.T.Sink.taken l.fn.sink) (g.T.Sink.taken l.sink))
      l.fn.stream.reader.held l.stream.reader.held
      (caller_with l.store l.fn.pass (g.C.Clock.told l.fn.clock))
      (caller_with l.store l.pass (g.C.Clock.told l.clock));
  whole : IsFalse l.stream.reader.is_broken;
  faults : g.T.Sink.faults l.fn.sink ≤ g.T.Sink.faults l.sink;
}

abbrev pub decreases-loop-message : goal.decreases-loop-message
decreases-loop-message g l = length l.stream.reader.held
