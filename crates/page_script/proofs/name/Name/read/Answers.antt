use Rattle.std.proofs.Common.{length, ◌++◌, drop, arith, sym, subst}
use Rattle.std.specs.Prelude.{replicate}
use Rattle.page_script.specs.Names.{IsName, HoldsName}
use Rattle.page_script.proofs.NameLemmas.{HoldsName-front}
use Rattle.page_script.proofs.name.Name.read.Goals as goal

pub invariant_of-result : goal.invariant_of-result
invariant_of-result c =
    let text = c.args.text.now in
    let is_name : IsName text = record {
      some = omega arith;
      short = c.if-len-gt-MOST_LETTERS.false;
      lower = c.all_lower.ensures.0 c.if-not-all_lower.false;
    } in
    subst (λ t. HoldsName (t ++ drop (length text) (replicate 16 0)) (length text))
    (sym c.copy_from_slice.ensures.after) (HoldsName-front text is_name)
