use Rattle.std.proofs.Common.{◌≡◌, ◌≤◌, IsTrue}
use Rattle.std.specs.Prelude.{IsFalse}
use Rattle.asp_messages.specs.RequestSpelling.{SpellsRequest}
use Rattle.asp_messages.specs.Stream.{HasNoMessage}
use Rattle.state_store.specs.Passes.{IsPassOf, caller_of}
use Rattle.stream_server.specs.Callers.{caller_with}
use Rattle.stream_server.specs.Connections.{line_of}
use Rattle.stream_server.specs.StreamProgress.{Streaming}
use Rattle.stream_server.proofs.one_stream.serve_stream_noted.Given as goal

abbrev pub invariant-loop-left : goal.invariant-loop-left
invariant-loop-left g l = record {
  pass : IsPassOf l.store l.pass;
  caller : caller_of l.pass ≡ caller_of l.fn.pass;
  streaming : Streaming
      (line_of g.S.Source g.T.Sink l.fn.source l.fn.sink)
      (line_of g.S.Source g.T.Sink l.source l.sink)
      (caller_with l.store l.fn.pass (g.C.Clock.told l.fn.clock))
      (caller_with l.store l.pass (g.C.Clock.told l.clock))
      l.stream.reader.held l.left;
  may_feed : IsTrue l.stream.reader.may_feed;
  whole : IsFalse l.stream.reader.is_broken;
  none : HasNoMessage SpellsRequest l.stream.reader.held;
  reads : g.S.Source.faults l.fn.source ≤ g.S.Source.faults l.source;
  writes : g.T.Sink.faults l.fn.sink ≤ g.T.Sink.faults l.sink;
}

abbrev pub decreases-loop-left : goal.decreases-loop-left
decreases-loop-left g l = l.left
