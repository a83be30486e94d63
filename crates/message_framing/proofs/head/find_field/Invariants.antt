use Rattle.std.proofs.Common.{◌≡◌, map, take}
use Rattle.httparse.specs.Spans.{header_bytes}
use Rattle.asp_messages.specs.Fields.{once}
use Rattle.message_framing.specs.Standings.{standing_of}
use Rattle.message_framing.proofs.head.find_field.Given as goal

abbrev pub invariant-loop-header : goal.invariant-loop-header
invariant-loop-header l = standing_of l.found
    ≡ once (map (header_bytes l.buf) (take l.header-index l.headers)) l.name
