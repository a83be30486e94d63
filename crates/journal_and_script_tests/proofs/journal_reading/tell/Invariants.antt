use Rattle.std.proofs.Common.{◌+◌, ◌≤◌, length}
use Rattle.journal_and_script_tests.proofs.journal_reading.tell.Given as goal

abbrev pub invariant-lines : goal.invariant-lines
invariant-lines l = l.reader.offset + length l.reader.held ≤ l.fn.reader.offset
    + length l.fn.reader.held
