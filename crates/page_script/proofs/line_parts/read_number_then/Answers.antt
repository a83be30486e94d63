use Rattle.std.proofs.Common.{arith}
use Rattle.std.specs.Prelude.{decimal}
use Rattle.page_script.proofs.CutLemmas.{no_cut, no_number_then}
use Rattle.page_script.proofs.line_parts.read_number_then.Goals as goal

pub returns-in_err-word : goal.returns-in_err-word
returns-in_err-word c = rw c.from_residual.ensures
    (λ n rest is. no_cut 32 c.args.text.now (decimal n) rest c.in_err-word.ensures is.spelled)

pub returns-in_err-n : goal.returns-in_err-n
returns-in_err-n c =
    rw c.from_residual-in_err-n.ensures
    (no_number_then c.args.text.now c.in_ok-word.word.now c.in_ok-word.rest.now c.args.max
    (omega arith) c.in_ok-word.ensures c.in_err-n.ensures)
