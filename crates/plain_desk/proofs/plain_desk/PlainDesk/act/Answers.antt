use Rattle.std.proofs.Common.{◌≡◌, ◌++◌, ◌∷◌, [], subst}
use Rattle.shard_core.specs.ShardStands.{asked_entry}
use Rattle.plain_desk.specs.Draws.{draw_of, draws_in}
use Rattle.plain_desk.specs.DeskStands.{DeskOf, DeskState, DeskStandsFor, desk_state}
use Rattle.plain_desk.specs.Openings.{NeverBegins}
use Rattle.plain_desk.proofs.DeskLemmas.{goes_on-asked}
use Rattle.plain_desk.proofs.OpeningLemmas.{never-steps}
use Rattle.plain_desk.proofs.plain_desk.PlainDesk.act.Goals as goal

pub returns-clause-stands : goal.returns-clause-stands
returns-clause-stands g c = λ first caller opening count list caller_fits.
    let told = g.K.Keeper.told in
    let faults = g.K.Keeper.count in
    let old : DeskState = record {
      told = told c.self.inside.shard;
      faults = faults c.self.inside.shard;
      cookies = c.self.inside.cookies;
    } in
    let new : DeskState = record {
      told = told c.act-reply.new.self;
      faults = faults c.act-reply.new.self;
      cookies = c.draw_for-drawn.new.cookies;
    } in
    subst (λ (d : DeskOf _). DeskStandsFor g.K.Keeper.can_count first opening count list
    (desk_state g.K.Keeper d)
    → (c.draw_for-drawn.result ≡ draw_of first d.cookies.last (draws_in list) c.args.request.ask)
    × DeskStandsFor g.K.Keeper.can_count first opening count
    (list ++ asked_entry caller c.args.t c.args.request c.draw_for-drawn.result c.act-reply.result
    new.faults ∷ []) new)
    c.self.view_is
    (λ stand.
    goes_on-asked g.K.Keeper.can_count first opening count list old new stand
    (g.K.Keeper.counts c.act-reply.new.self) caller c.args.t c.draw_for-drawn.result c.args.request
    c.act-reply.result c.draw_for-drawn.ensures.draws
    (λ fresh before. c.act-reply.ensures.history caller opening count list caller_fits fresh
    before))

pub returns-clause-tells : goal.returns-clause-tells
returns-clause-tells g c =
    subst (λ (d : DeskOf _). NeverBegins (g.K.Keeper.told d.keeper)
    (g.K.Keeper.told c.act-reply.new.self)) c.self.view_is
    (never-steps (g.K.Keeper.told c.self.inside.shard) (g.K.Keeper.told c.act-reply.new.self)
    c.args.request _ c.act-reply.result c.act-reply.ensures.acts)
