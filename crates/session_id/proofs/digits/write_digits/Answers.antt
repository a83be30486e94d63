use Rattle.std.proofs.Common.{◌/◌, ◌%◌, ◌^◌, length, arith}
use Rattle.std.proofs.lemmas.List.Edits.{fill_by_more}
use Rattle.std.proofs.lemmas.List.FromFn.{fill_by_all}
use Rattle.session_id.specs.Identifiers.{digits}
use Rattle.session_id.proofs.NumberLemmas.{digits_step}
use Rattle.session_id.proofs.digits.write_digits.Goals as goal

pub loop-i-preserved : goal.loop-i-preserved
loop-i-preserved c =
    let now = c.loop-i.invariant.value in
    record {
      value = rw now (digits_step c.args.number c.args.base c.loop-i.i);
      written = rw now (fill_by_more (λ k. c.args.number / c.args.base ^ k % c.args.base)
          c.loop-i.digits c.loop-i.i 0 (omega arith) c.loop-i.invariant.written);
    }

pub returns : goal.returns
unfolding digits
returns c =
    fill_by_all (λ k. c.args.number / c.args.base ^ k % c.args.base) c.loop-i.digits
    (length c.args.digits.now) 0
    (omega arith) (λ k lt. c.loop-i.invariant.written k (omega arith))
