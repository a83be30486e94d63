use Rattle.std.proofs.Common.{length, sym, ap, ◌∙◌}
use Rattle.std.proofs.lemmas.Bool.{eqb-true}
use Rattle.page_script.proofs.PageLemmas.{empty_key}
use Rattle.page_script.proofs.page.read_key.Goals as goal

pub returns-then-is_empty : goal.returns-then-is_empty
returns-then-is_empty c =
    empty_key c.args.word.now c.in-Some.key 1024 (rw c.in-Some.is at c.in_ok-key.ensures)
    (ap length (sym c.as_slice.ensures) ∙ eqb-true (length c.as_slice.result.now) 0
    (sym c.if-is_empty.ensures))
