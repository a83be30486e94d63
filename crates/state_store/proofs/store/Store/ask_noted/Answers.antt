use Rattle.std.proofs.Common.{◌≡◌, ◌↔◌, ℕ, ap, ◌∙◌, subst, arith}
use Rattle.turnstile.specs.TurnRule.{end_of_places}
use Rattle.state_store.specs.NotedTurns.{IfPlaced, IsAskedWith, IsPlacesOut}
use Rattle.state_store.specs.Shards.{shard_of_key}
use Rattle.state_store.specs.StoreTurns.{FindsNoPlace}
use Rattle.state_store.specs.Passes.{shard_for, call_of, view_for, view_in}
use Rattle.state_store.proofs.PassLemmas as lemmas
use Rattle.state_store.proofs.PassLemmas.{here, with_part}
use Rattle.state_store.proofs.store.Store.ask_noted.Goals as goal

pub noted_turn-requires-clause-pass : goal.noted_turn-requires-clause-pass
noted_turn-requires-clause-pass g c =
    let at = here c.args.self.now c.args.pass.now c.requires.pass _ c.len.result
    (omega (arith, c.len.ensures, c.args.self.now.turnstiles.ok.0)) c.shard_of-shard.ensures.below
    c.index-turns.ensures c.index_mut-part.ensures.value in
    lemmas.is_part at

pub noted_turn-requires-clause-history : goal.noted_turn-requires-clause-history
noted_turn-requires-clause-history g c =
    let at = here c.args.self.now c.args.pass.now c.requires.pass _ c.len.result
    (omega (arith, c.len.ensures, c.args.self.now.turnstiles.ok.0)) c.shard_of-shard.ensures.below
    c.index-turns.ensures c.index_mut-part.ensures.value in
    lemmas.is_history at

pub returns-clause-pass : goal.returns-clause-pass
returns-clause-pass g c =
    let at = here c.args.self.now c.args.pass.now c.requires.pass _ c.len.result
    (omega (arith, c.len.ensures, c.args.self.now.turnstiles.ok.0)) c.shard_of-shard.ensures.below
    c.index-turns.ensures c.index_mut-part.ensures.value in
    lemmas.stays_pass at c.noted_turn.new.pass c.noted_turn.ensures.pass
    c.noted_turn.ensures.history

pub returns-clause-locks : goal.returns-clause-locks
returns-clause-locks g c =
    let at = here c.args.self.now c.args.pass.now c.requires.pass _ c.len.result
    (omega (arith, c.len.ensures, c.args.self.now.turnstiles.ok.0)) c.shard_of-shard.ensures.below
    c.index-turns.ensures c.index_mut-part.ensures.value in
    lemmas.locks c.args.self.now _
    (lemmas.stays_pass at c.noted_turn.new.pass c.noted_turn.ensures.pass
    c.noted_turn.ensures.history)

pub returns-clause-asked : goal.returns-clause-asked
returns-clause-asked g c =
    let at = here c.args.self.now c.args.pass.now c.requires.pass _ c.len.result
    (omega (arith, c.len.ensures, c.args.self.now.turnstiles.ok.0)) c.shard_of-shard.ensures.below
    c.index-turns.ensures c.index_mut-part.ensures.value in
    let is : c.shard_of-shard.result ≡ shard_for c.args.self.now c.args.request.key =
    c.shard_of-shard.ensures.shard ∙ ap (λ k. shard_of_key k c.len.result) c.as_slice.ensures
    ∙ ap (shard_of_key c.args.request.key)
    (omega (arith, c.len.ensures, c.args.self.now.turnstiles.ok.0)) in
    subst (λ n. IfPlaced c.noted_turn.result
    (IsAskedWith (call_of c.args.self.now c.args.pass.now c.args.t) n c.args.request
    (view_for c.args.self.now c.args.pass.now c.args.request.key)
    (view_in (with_part c.args.pass.now c.shard_of-shard.result c.noted_turn.new.pass)
    (shard_for c.args.self.now c.args.request.key)))) is
    (lemmas.in_shard_of at c.noted_turn.new.pass _ is
    (λ first_place caller old new. IfPlaced c.noted_turn.result (IsAskedWith (record {
      first_place = first_place;
      caller = caller;
      moment = c.args.t;
    }) c.shard_of-shard.result c.args.request old new))
    c.noted_turn.ensures.asked)

pub returns-clause-others : goal.returns-clause-others
returns-clause-others g c =
    let at = here c.args.self.now c.args.pass.now c.requires.pass _ c.len.result
    (omega (arith, c.len.ensures, c.args.self.now.turnstiles.ok.0)) c.shard_of-shard.ensures.below
    c.index-turns.ensures c.index_mut-part.ensures.value in
    let is : c.shard_of-shard.result ≡ shard_for c.args.self.now c.args.request.key =
    c.shard_of-shard.ensures.shard ∙ ap (λ k. shard_of_key k c.len.result) c.as_slice.ensures
    ∙ ap (shard_of_key c.args.request.key)
    (omega (arith, c.len.ensures, c.args.self.now.turnstiles.ok.0)) in
    λ shard ne. lemmas.others at c.noted_turn.new.pass shard (λ same. ne (same ∙ is))

pub returns-clause-no_place : goal.returns-clause-no_place
returns-clause-no_place g c =
    let at = here c.args.self.now c.args.pass.now c.requires.pass _ c.len.result
    (omega (arith, c.len.ensures, c.args.self.now.turnstiles.ok.0)) c.shard_of-shard.ensures.below
    c.index-turns.ensures c.index_mut-part.ensures.value in
    let is : c.shard_of-shard.result ≡ shard_for c.args.self.now c.args.request.key =
    c.shard_of-shard.ensures.shard ∙ ap (λ k. shard_of_key k c.len.result) c.as_slice.ensures
    ∙ ap (shard_of_key c.args.request.key)
    (omega (arith, c.len.ensures, c.args.self.now.turnstiles.ok.0)) in
    lemmas.in_shard_of at c.noted_turn.new.pass _ is
    (λ first_place caller old new. IsPlacesOut c.noted_turn.result → FindsNoPlace old new)
    c.noted_turn.ensures.no_place

pub returns-clause-spent : goal.returns-clause-spent
returns-clause-spent g c =
    let at = here c.args.self.now c.args.pass.now c.requires.pass _ c.len.result
    (omega (arith, c.len.ensures, c.args.self.now.turnstiles.ok.0)) c.shard_of-shard.ensures.below
    c.index-turns.ensures c.index_mut-part.ensures.value in
    let is : c.shard_of-shard.result ≡ shard_for c.args.self.now c.args.request.key =
    c.shard_of-shard.ensures.shard ∙ ap (λ k. shard_of_key k c.len.result) c.as_slice.ensures
    ∙ ap (shard_of_key c.args.request.key)
    (omega (arith, c.len.ensures, c.args.self.now.turnstiles.ok.0)) in
    lemmas.in_shard_of at c.noted_turn.new.pass _ is
    (λ first_place caller old new.
    IsPlacesOut c.noted_turn.result ↔ (new.ticket ≡ end_of_places))
    c.noted_turn.ensures.spent

pub returns-clause-stays_spent : goal.returns-clause-stays_spent
returns-clause-stays_spent g c =
    let at = here c.args.self.now c.args.pass.now c.requires.pass _ c.len.result
    (omega (arith, c.len.ensures, c.args.self.now.turnstiles.ok.0)) c.shard_of-shard.ensures.below
    c.index-turns.ensures c.index_mut-part.ensures.value in
    let is : c.shard_of-shard.result ≡ shard_for c.args.self.now c.args.request.key =
    c.shard_of-shard.ensures.shard ∙ ap (λ k. shard_of_key k c.len.result) c.as_slice.ensures
    ∙ ap (shard_of_key c.args.request.key)
    (omega (arith, c.len.ensures, c.args.self.now.turnstiles.ok.0)) in
    lemmas.in_shard_of at c.noted_turn.new.pass _ is
    (λ first_place caller old new. old.ticket ≡ end_of_places → IsPlacesOut c.noted_turn.result)
    c.noted_turn.ensures.stays_spent

pub returns-clause-never_falls : goal.returns-clause-never_falls
returns-clause-never_falls g c =
    let at = here c.args.self.now c.args.pass.now c.requires.pass _ c.len.result
    (omega (arith, c.len.ensures, c.args.self.now.turnstiles.ok.0)) c.shard_of-shard.ensures.below
    c.index-turns.ensures c.index_mut-part.ensures.value in
    lemmas.never_falls at c.noted_turn.new.pass c.noted_turn.ensures.never_falls
