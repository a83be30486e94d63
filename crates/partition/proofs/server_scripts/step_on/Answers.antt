use Rattle.std.proofs.Common.{◌++◌, ◌∷◌, [], ap, ◌∙◌, append_assoc}
use Rattle.std.specs.Prelude.{decimal}
use Rattle.partition.proofs.ScriptLemmas.{cut-back}
use Rattle.partition.proofs.server_scripts.step_on.Goals as goal

pub returns-then-ne-clause-same : goal.returns-then-ne-clause-same
returns-then-ne-clause-same g c not_done =
    cut-back c.len-len.result c.args.out.now.items _ _ _ _ (c.len-len.ensures ∙ c.args.out.now.ok.0) c.in-Ok.ensures.ok
    (c.step-end.ensures.same not_done) c.truncate.ensures.items

pub returns-else-ne-clause-done : goal.returns-else-ne-clause-done
returns-else-ne-clause-done g c done world stands =
    let takes = c.step-end.ensures.done done world stands in
    let old = c.args.out.now.items in
    let number = decimal c.args.server in record {
      world' = takes.world';
      printed = takes.printed;
      step = takes.step;
      stands = takes.stands;
      prints =
          takes.prints ∙ ap (λ o. o ++ takes.printed) c.in-Ok.ensures.ok
          ∙ append_assoc old (number ++ 32 ∷ []) takes.printed
          ∙ ap (λ t. old ++ t) (append_assoc number (32 ∷ []) takes.printed);
    }
