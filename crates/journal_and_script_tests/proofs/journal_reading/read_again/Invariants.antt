use Rattle.std.proofs.Common.{◌≤◌, ◌+◌, ◌^◌, length, IsTrue}
use Rattle.journal_and_script_tests.proofs.journal_reading.read_again.Given as goal

abbrev pub invariant-loop-piece : goal.invariant-loop-piece
invariant-loop-piece l = record {
  may_feed : IsTrue l.reader.may_feed;
  counted : l.reader.offset + length l.reader.held ≤ l.fed;
  fits : l.fed ≤ 2 ^ 40 + 16384;
}
