use Rattle.std.proofs.Common.{◌≡◌, length, take, drop, arith, ap, length-drop, length-take}
use Rattle.std.proofs.Math.Nat.{add-sub_cancel_left}
use Rattle.asp_base.proofs.OutsideLemmas.{given_front, given_rest}
use Rattle.asp_base.proofs.memory_source.give.Goals as goal

pub returns-clause-given : goal.returns-clause-given
returns-clause-given c =
    let text = c.args.text.now in
    let at = c.args.at.now in
    let n = c.min-count.result in
    let put = c.copy_from_slice.new.self in
    let src = c.copy_from_slice.ensures.after in
    let same : c.as_slice-text.result.now ≡ text = c.as_slice-text.ensures in
    let copied : put ≡ take n (drop at text) = rw (same, add-sub_cancel_left at n) at src in
    let fit = simp (length-take, length-drop) at (ap length copied) in
    let len : length put ≡ n = omega (arith, fit, c.min-count.ensures, ap length same) in
    given_front text put (drop n c.args.buf.now) at n len copied

pub returns-clause-left : goal.returns-clause-left
returns-clause-left c =
    let text = c.args.text.now in
    let at = c.args.at.now in
    let n = c.min-count.result in
    let put = c.copy_from_slice.new.self in
    let src = c.copy_from_slice.ensures.after in
    let same : c.as_slice-text.result.now ≡ text = c.as_slice-text.ensures in
    let copied : put ≡ take n (drop at text) = rw (same, add-sub_cancel_left at n) at src in
    let fit = simp (length-take, length-drop) at (ap length copied) in
    let len : length put ≡ n = omega (arith, fit, c.min-count.ensures, ap length same) in
    given_rest text put (drop n c.args.buf.now) at n len copied
