use Rattle.std.proofs.Common.{arith, sym}
use Rattle.session_id.proofs.NumberLemmas.{number-step_lt}
use Rattle.session_id.proofs.digits.number_of_digits.Goals as goal

pub overflow_mul-number : goal.overflow_mul-number
overflow_mul-number c =
    let whole = number-step_lt c.args.base c.args.digits.now c.loop-i.i c.requires.below
    (omega arith) (omega arith) in
    let now = sym c.loop-i.invariant in
    let below = rw (now) at whole in
    omega (arith, below)

pub overflow_add-number : goal.overflow_add-number
overflow_add-number c =
    let whole = number-step_lt c.args.base c.args.digits.now c.loop-i.i c.requires.below
    (omega arith) (omega arith) in
    let now = sym c.loop-i.invariant in
    let below = rw (now) at whole in
    omega (arith, below)
