use Rattle.std.proofs.Common.{◌≡◌, ◌↔◌, refl}
use Rattle.turnstile.specs.TurnRule.{end_of_places}
use Rattle.state_store.specs.NotedTurns.{IfPlaced, IsLookWith, IsPlacesOut}
use Rattle.state_store.specs.StoreTurns.{FindsNoPlace}
use Rattle.state_store.specs.Passes.{shards_of}
use Rattle.state_store.proofs.PassLemmas as lemmas
use Rattle.state_store.proofs.PassLemmas.{here}
use Rattle.state_store.proofs.store.Store.sweep_turn.Goals as goal

pub noted_look-requires-clause-pass : goal.noted_look-requires-clause-pass
noted_look-requires-clause-pass g c =
    let at = here c.args.self.now c.args.pass.now c.requires.pass c.args.shard
    (shards_of c.args.self.now) refl c.requires.shard c.index-turns.ensures
    c.index_mut-part.ensures.value in
    lemmas.is_part at

pub noted_look-requires-clause-history : goal.noted_look-requires-clause-history
noted_look-requires-clause-history g c =
    let at = here c.args.self.now c.args.pass.now c.requires.pass c.args.shard
    (shards_of c.args.self.now) refl c.requires.shard c.index-turns.ensures
    c.index_mut-part.ensures.value in
    lemmas.is_history at

pub returns-clause-pass : goal.returns-clause-pass
returns-clause-pass g c =
    let at = here c.args.self.now c.args.pass.now c.requires.pass c.args.shard
    (shards_of c.args.self.now) refl c.requires.shard c.index-turns.ensures
    c.index_mut-part.ensures.value in
    lemmas.stays_pass at c.noted_look.new.pass c.noted_look.ensures.pass
    c.noted_look.ensures.history

pub returns-clause-locks : goal.returns-clause-locks
returns-clause-locks g c =
    let at = here c.args.self.now c.args.pass.now c.requires.pass c.args.shard
    (shards_of c.args.self.now) refl c.requires.shard c.index-turns.ensures
    c.index_mut-part.ensures.value in
    lemmas.locks c.args.self.now _
    (lemmas.stays_pass at c.noted_look.new.pass c.noted_look.ensures.pass
    c.noted_look.ensures.history)

pub returns-clause-looked : goal.returns-clause-looked
returns-clause-looked g c =
    let at = here c.args.self.now c.args.pass.now c.requires.pass c.args.shard
    (shards_of c.args.self.now) refl c.requires.shard c.index-turns.ensures
    c.index_mut-part.ensures.value in
    lemmas.in_shard at c.noted_look.new.pass
    (λ first_place caller old new. IfPlaced c.noted_look.result
    (IsLookWith g.K.Keeper.told (record {
      first_place = first_place;
      caller = caller;
      moment = c.args.t;
    }) c.args.shard old new))
    c.noted_look.ensures.looked

pub returns-clause-others : goal.returns-clause-others
returns-clause-others g c =
    let at = here c.args.self.now c.args.pass.now c.requires.pass c.args.shard
    (shards_of c.args.self.now) refl c.requires.shard c.index-turns.ensures
    c.index_mut-part.ensures.value in
    λ other ne. lemmas.others at c.noted_look.new.pass other ne

pub returns-clause-no_place : goal.returns-clause-no_place
returns-clause-no_place g c =
    let at = here c.args.self.now c.args.pass.now c.requires.pass c.args.shard
    (shards_of c.args.self.now) refl c.requires.shard c.index-turns.ensures
    c.index_mut-part.ensures.value in
    lemmas.in_shard at c.noted_look.new.pass
    (λ first_place caller old new. IsPlacesOut c.noted_look.result → FindsNoPlace old new)
    c.noted_look.ensures.no_place

pub returns-clause-spent : goal.returns-clause-spent
returns-clause-spent g c =
    let at = here c.args.self.now c.args.pass.now c.requires.pass c.args.shard
    (shards_of c.args.self.now) refl c.requires.shard c.index-turns.ensures
    c.index_mut-part.ensures.value in
    lemmas.in_shard at c.noted_look.new.pass
    (λ first_place caller old new.
    IsPlacesOut c.noted_look.result ↔ (new.ticket ≡ end_of_places))
    c.noted_look.ensures.spent

pub returns-clause-stays_spent : goal.returns-clause-stays_spent
returns-clause-stays_spent g c =
    let at = here c.args.self.now c.args.pass.now c.requires.pass c.args.shard
    (shards_of c.args.self.now) refl c.requires.shard c.index-turns.ensures
    c.index_mut-part.ensures.value in
    lemmas.in_shard at c.noted_look.new.pass
    (λ first_place caller old new. old.ticket ≡ end_of_places → IsPlacesOut c.noted_look.result)
    c.noted_look.ensures.stays_spent

pub returns-clause-never_falls : goal.returns-clause-never_falls
returns-clause-never_falls g c =
    let at = here c.args.self.now c.args.pass.now c.requires.pass c.args.shard
    (shards_of c.args.self.now) refl c.requires.shard c.index-turns.ensures
    c.index_mut-part.ensures.value in
    lemmas.never_falls at c.noted_look.new.pass c.noted_look.ensures.never_falls
