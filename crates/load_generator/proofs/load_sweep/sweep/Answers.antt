use Rattle.std.proofs.Common.{◌++◌, ◌∷◌, [], subst, refl, ◌∙◌, arith}
use Rattle.asp_base.specs.Moments.{last_moment}
use Rattle.plain_desk.specs.DeskStands.{DeskStandsFor, desk_state}
use Rattle.shard_core.specs.Sweeping.{swept_entry}
use Rattle.session_machine.specs.History.{nothing}
use Rattle.load_generator.proofs.SweepLemmas.{not_removed, Removes-none, Removes-push, SweepsLoad-look, SweepsLoad-all}
use Rattle.load_generator.proofs.load_sweep.sweep.Goals as goal

pub loop-removed-init : goal.loop-removed-init
loop-removed-init g c = record {
  removes = λ first list stand. Removes-none g.K.Keeper.can_count first list
      (desk_state g.K.Keeper c.args.desk.now) stand;
  within = omega arith;
  floor = refl;
}

pub loop-removed-preserved : goal.loop-removed-preserved
loop-removed-preserved g c = record {
  removes = λ first list stand.
      let before = c.loop-removed.invariant.removes first list stand in
      let after = c.sweep_one.ensures.stands first 0 nothing 0 (list ++ before.removals)
      (omega arith) before.desk in
      let new = desk_state g.K.Keeper c.sweep_one.new.self in
      Removes-push g.K.Keeper.can_count first list
      (desk_state g.K.Keeper c.loop-removed.desk) new
      c.loop-removed.removed c.in-Removed.key before
      (subst (λ s. DeskStandsFor g.K.Keeper.can_count first nothing 0
      (list ++ before.removals ++ swept_entry 0 last_moment s new.faults ∷ []) new)
      c.in-Removed.is after);
  within = omega (arith, c.loop-removed-test.true);
  floor = c.sweep_one.ensures.floor ∙ c.loop-removed.invariant.floor;
}

pub returns-in_default : goal.returns-in_default
returns-in_default g c = record {
  sweeps = λ first list stand.
      let before = c.loop-removed.invariant.removes first list stand in
      SweepsLoad-look g.K.Keeper.can_count first c.args.most list
      (desk_state g.K.Keeper c.loop-removed.desk)
      (desk_state g.K.Keeper c.sweep_one.new.self)
      c.loop-removed.removed c.sweep_one.result before
      (c.sweep_one.ensures.stands first 0 nothing 0 (list ++ before.removals) (omega arith)
      before.desk) (not_removed c.sweep_one.result c.in_default.not-Removed)
      c.sweep_one.ensures.nothing c.loop-removed-test.true;
  floor = c.sweep_one.ensures.floor ∙ c.loop-removed.invariant.floor;
}

pub returns-clause-sweeps : goal.returns-clause-sweeps
returns-clause-sweeps g c = λ first list stand.
    SweepsLoad-all g.K.Keeper.can_count first c.args.most list
    (desk_state g.K.Keeper c.loop-removed.desk)
    c.loop-removed.removed (c.loop-removed.invariant.removes first list stand)
    (omega (arith, c.loop-removed.invariant.within, c.loop-removed-test.false))
