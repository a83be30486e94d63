use Rattle.std.proofs.Common.{◌≡◌, ◌≤◌, length}
use Rattle.journal_files.specs.Gathering.{taken_with}
use Rattle.journal_files.proofs.gathering_sink.GatheringSink.hand_on.Given as goal

abbrev pub invariant-loop-self : goal.invariant-loop-self
invariant-loop-self g l = record {
  taken : taken_with (g.T.Sink.taken l.self.inner) l.self.waiting
      ≡ taken_with (g.T.Sink.taken l.fn.self.inner) l.fn.self.waiting;
  later : g.T.Sink.faults l.fn.self.inner ≤ g.T.Sink.faults l.self.inner;
}

abbrev pub decreases-loop-self : goal.decreases-loop-self
decreases-loop-self g l = length l.self.waiting
