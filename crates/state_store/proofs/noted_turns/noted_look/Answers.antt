use Rattle.std.proofs.Common.{◌∙◌}
use Rattle.turnstile.specs.Turns.{caller_number}
use Rattle.state_store.specs.ShardViews.{call_with, view_of}
use Rattle.state_store.proofs.SweepLemmas.{look_given}
use Rattle.state_store.proofs.noted_turns.noted_look.Goals as goal

pub returns-clause-looked : goal.returns-clause-looked
returns-clause-looked g c =
    let look = c.in-Some.ensures.looked in
    look_given g.K.Keeper.told (call_with c.args.turns.now c.args.pass.now c.args.t) c.args.shard
    (view_of c.args.pass.now) (view_of c.look_turn.new.pass) c.in-Some.look.found
    c.in-Some.look.faults c.in-Some.look.place c.caller.result c.into_placed.result
    c.requires.pass.few c.requires.moment (c.caller.ensures ∙ c.look_turn.ensures.pass.number)
    c.in-Some.ensures.key look.0 look.1 c.into_placed.ensures
