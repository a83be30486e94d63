use Rattle.std.proofs.Common.{All, arith, subst, sym}
use Rattle.std.proofs.lemmas.List.Elements.{All-push}
use Rattle.state_store.specs.Passes.{IsPassOf}
use Rattle.store_tests.proofs.threads.make_passes.Goals as goal

pub loop-preserved : goal.loop-preserved
loop-preserved g c = record {
  roll = c.in_ok-pass.ensures.roll;
  made = omega (arith, c.in_ok-pass.ensures.made, c.loop.invariant.made);
  passes =
      subst (All (IsPassOf c.args.store.now)) (sym c.in_ok-push.ensures.items)
      (All-push (IsPassOf c.args.store.now) c.loop.passes.items c.in_ok-pass.field-0
      c.loop.invariant.passes c.in_ok-pass.ensures.pass);
}
