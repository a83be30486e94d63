use Rattle.std.proofs.Common.{◌≡◌, List, length, refl, sym, subst, ap, ◌∙◌}
use Rattle.std.proofs.lemmas.List.{with_items_is}
use Rattle.page_script.specs.declared.script.Script.{Script}
use Rattle.partition.specs.FarmStands.{ScriptsStand}
use Rattle.partition.specs.Limited.{limited}
use Rattle.partition.proofs.TakeLemmas.{limits-taken}
use Rattle.partition.proofs.farm_script.FarmScript.set_limits.Goals as goal

pub returns-clause-takes : goal.returns-clause-takes
returns-clause-takes g c run stands =
    let old = c.args.self.now.scripts in
    let long : length c.limit_each.new.scripts ≡ length old.items =
    c.limit_each.ensures.count ∙ ap length c.deref_mut.ensures.value in
    let items = with_items_is old c.limit_each.new.scripts (long ∙ sym old.ok.0) in
    let stand = (rw c.deref_mut.ensures.value at c.limit_each.ensures.limited) run.worlds
    stands.scripts in
    limits-taken g.K.Keeper c.args.self.now _ (ap length items ∙ long) run stands c.args.limits
    (subst (λ (ss : List (Script _)). ScriptsStand g.K.Keeper ss
    (λ server. limited c.args.limits (run.worlds server))) (sym items) stand) refl
