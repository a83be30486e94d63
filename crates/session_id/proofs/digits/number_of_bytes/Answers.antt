use Rattle.std.proofs.Common.{◌^◌, ◌≤◌, length, arith}
use Rattle.std.proofs.Math.Nat.{pow-le-pow_right}
use Rattle.session_id.proofs.NumberLemmas.{All-bytes}
use Rattle.session_id.proofs.digits.number_of_bytes.Goals as goal

pub number_of_digits-requires-clause-below : goal.number_of_digits-requires-clause-below
number_of_digits-requires-clause-below c = All-bytes c.args.bytes.now c.type_inv.bytes

pub number_of_digits-requires-clause-fits : goal.number_of_digits-requires-clause-fits
number_of_digits-requires-clause-fits c =
    let wide : 256 ^ length c.args.bytes.now ≤ 256 ^ 15 =
    pow-le-pow_right (omega arith) c.requires in
    omega (arith, wide)

pub returns-clause-range : goal.returns-clause-range
returns-clause-range c = All-bytes c.args.bytes.now c.type_inv.bytes
