use Rattle.std.proofs.Common.{◌≡◌, List, [], ◌∷◌, ◌++◌, length, refl, sym, ap, arith, rules, subst, length-append}
use Rattle.std.proofs.lemmas.Iterator.Adapters.{YieldsList-from_vec}
use Rattle.std.proofs.lemmas.Iterator.Consumers.{YieldsList-end}
use Rattle.page_script.specs.declared.script.Script.{Script}
use Rattle.page_script.specs.World.{world_from}
use Rattle.partition.specs.Farm.{server_opening}
use Rattle.partition.specs.FarmStands.{ScriptsStand}
use Rattle.partition.proofs.ScriptLemmas.{ScriptsStand-push}
use Rattle.partition.proofs.TakeLemmas.{farm-begins}
use Rattle.partition.proofs.farm_script.FarmScript.new.Goals as goal

pub loop-keeper-preserved : goal.loop-keeper-preserved
loop-keeper-preserved g c =
    let old = c.loop-keeper.scripts.items in
    let pushed : c.push.new.self.items ≡ old ++ c.new.result ∷ [] = c.in_ok-push.ensures.items in
    let long = ap length pushed in
    let count = c.loop-keeper.invariant.count in record {
      count = omega (
        arith,
        long,
        count,
        length-append old (c.new.result ∷ []),
        length-append c.loop-keeper.yielded (c.in-Some.keeper ∷ []),
      );
      stand =
          subst (λ (ss : List (Script _)). ScriptsStand g.K.Keeper ss
          (λ server. world_from server_opening)) (sym pushed)
          (ScriptsStand-push g.K.Keeper old (λ server. world_from server_opening) c.new.result
          c.loop-keeper.invariant.stand c.new.ensures.stands);
    }

pub invariant_of-result : goal.invariant_of-result
invariant_of-result g c =
    let end = YieldsList-end (YieldsList-from_vec {s = c.into_iter-keeper-iterator.result}
    c.args.keepers.items (search rules) (search rules)) c.loop-keeper.yielded
    c.loop-keeper.keeper-iterator c.loop-keeper.yielded_by c.next.result c.next.new.self
    c.in-None.is c.next.ensures.steps in
    let count = c.loop-keeper.invariant.count in
    let some = c.requires.servers in record {
      servers = (omega (arith, count, end.1, some.0), omega (arith, count, end.1, some.1));
    }

pub returns-clause-stands : goal.returns-clause-stands
returns-clause-stands g c = farm-begins g.K.Keeper _ c.loop-keeper.invariant.stand refl
