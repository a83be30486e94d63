use Rattle.std.proofs.Common.{◌≡◌, ◌<◌, take}
use Rattle.placement.specs.Placement.{hash_of}
use Rattle.placement.proofs.hash.byte_hash.Given as goal

abbrev pub invariant-loop-byte : goal.invariant-loop-byte
invariant-loop-byte l = (l.hash < 65536) × (l.hash ≡ hash_of (take l.byte-index l.bytes))
