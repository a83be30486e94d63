use Rattle.std.proofs.Common.{arith, ap, length}
use Rattle.percent_encoding.proofs.PercentLemmas.{length-percent_decode}
use Rattle.request_reader.proofs.request_kind.decode.Goals as goal

pub returns-in-Err : goal.returns-in-Err
returns-in-Err c =
    let none : ⊥ = omega (
      arith,
      c.in-Err.ensures.full,
      (length-percent_decode c.args.target.now).0,
      c.requires.room,
      ap length c.requires.empty,
      ap length c.percent_decode.ensures.bytes,
    ) in
    absurd none
