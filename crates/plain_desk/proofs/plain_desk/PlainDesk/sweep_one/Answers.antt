use Rattle.std.proofs.Common.{◌++◌, ◌∷◌, [], subst}
use Rattle.shard_core.specs.Sweeping.{swept_entry}
use Rattle.plain_desk.specs.DeskStands.{DeskOf, DeskState, DeskStandsFor, desk_state}
use Rattle.plain_desk.proofs.DeskLemmas.{goes_on-swept}
use Rattle.plain_desk.proofs.plain_desk.PlainDesk.sweep_one.Goals as goal

pub returns-clause-stands : goal.returns-clause-stands
returns-clause-stands g c = λ first caller opening count list caller_fits.
    let told = g.K.Keeper.told in
    let faults = g.K.Keeper.count in
    let old : DeskState = record {
      told = told c.self.inside.shard;
      faults = faults c.self.inside.shard;
      cookies = c.self.inside.cookies;
    } in
    let new : DeskState = record {
      told = told c.sweep_one.new.self;
      faults = faults c.sweep_one.new.self;
      cookies = c.self.inside.cookies;
    } in
    subst (λ (d : DeskOf _). DeskStandsFor g.K.Keeper.can_count first opening count list
    (desk_state g.K.Keeper d)
    → DeskStandsFor g.K.Keeper.can_count first opening count
    (list ++ swept_entry caller c.args.t c.sweep_one.result new.faults ∷ []) new) c.self.view_is
    (λ stand.
    goes_on-swept g.K.Keeper.can_count first opening count list old new stand
    (g.K.Keeper.counts c.sweep_one.new.self)
    caller c.args.t c.sweep_one.result c.self.invariant.0
    (c.sweep_one.ensures.history caller opening count list caller_fits stand.stands))
