use Rattle.std.proofs.Common.{◌+◌, ◌*◌, ◌≤◌, length, IsTrue}
use Rattle.wire_tests.proofs.look_counts.counted_of.Given as goal

abbrev pub invariant-loop-at : goal.invariant-loop-at
invariant-loop-at g l = record {
  may_feed : IsTrue l.reader.bytes.may_feed;
  looks : l.steps + 2 * l.given.content + 2 * length l.reader.bytes.held
      ≤ l.reader.looks + 2 * l.at;
}
