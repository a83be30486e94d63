use Rattle.std.proofs.Common.{◌≢◌, ◌<◌, length, get_or, arith}
use Rattle.plain_words.proofs.NumberLemmas.{leading_zero, plain_reads}
use Rattle.plain_words.proofs.number_word.read_plain_number.Goals.{else-text-gt1-via-then-text-gt1+else-text-eq48, else-text-gt1-via-else-text-gt1}
use Rattle.plain_words.proofs.number_word.read_plain_number.Goals as goal

pub returns-then-text-eq48 : goal.returns-then-text-eq48
returns-then-text-eq48 c = leading_zero c.args.text.now c.args.max c.ranges.max.fits
    c.if-text-gt1.true c.if-text-eq48.true

pub returns : goal.returns
returns c =
    let text = c.args.text.now in
    let plain : 1 < length text → get_or text 0 0 ≢ 48 = elim c.else-text-gt1.branch [
      | else-text-gt1-via-then-text-gt1+else-text-eq48 w ↦ λ long z. w.if-text-eq48.false z
      | else-text-gt1-via-else-text-gt1 w ↦ λ long z. absurd (omega arith)
    ] in
    plain_reads text c.args.max c.read_number.result c.ranges.max.fits plain c.read_number.ensures
