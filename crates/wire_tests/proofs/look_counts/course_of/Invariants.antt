use Rattle.std.proofs.Common.{IsTrue}
use Rattle.wire_tests.proofs.look_counts.course_of.Given as goal

abbrev pub invariant-loop-piece : goal.invariant-loop-piece
invariant-loop-piece l = IsTrue l.reader.bytes.may_feed
