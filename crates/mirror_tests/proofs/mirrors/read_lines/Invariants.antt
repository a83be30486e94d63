use Rattle.std.proofs.Common.{◌+◌, ◌≤◌, length}
use Rattle.mirror_tests.proofs.mirrors.read_lines.Given as goal

abbrev pub invariant-lines : goal.invariant-lines
invariant-lines l = l.mirror.reader.offset + length l.mirror.reader.held
    ≤ l.fn.mirror.reader.offset + length l.fn.mirror.reader.held
