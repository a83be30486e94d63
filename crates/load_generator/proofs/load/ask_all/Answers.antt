use Rattle.std.proofs.Common.{refl, ◌≡◌, ◌+◌, ◌^◌, ◌++◌, ◌∷◌, [], sym, ap, ◌∙◌, subst, arith, length-append}
use Rattle.session_machine.specs.declared.entry.Deed.TheVariants.{Asked}
use Rattle.session_machine.specs.History.{nothing}
use Rattle.asp_messages.specs.Fields.{most_cookie}
use Rattle.shard_core.specs.ShardStands.{asked_entry}
use Rattle.plain_desk.specs.Draws.{draw_of, draws_in}
use Rattle.load_generator.specs.StatusCounting.{CountsAre}
use Rattle.load_generator.specs.Load.{Generating, generator_after, seeded, next_request, next_moment}
use Rattle.load_generator.proofs.LoadLemmas.{AreMade-push, generated-push, CountsAre-push, CountsAre-below}
use Rattle.load_generator.proofs.load.ask_all.Goals as goal

pub count-requires : goal.count-requires
count-requires g c =
    let asked = c.loop.invariant.asked in
    CountsAre-below c.loop.counts asked.0 (2 ^ 32) asked.4
    (let few = c.requires.load.0 in let so_far = asked.2 in
    omega (arith, few, so_far, c.loop.auto.counter-end))

pub loop-preserved : goal.loop-preserved
loop-preserved g c =
    let asked = c.loop.invariant.asked in
    let seed = c.args.load.seed in
    let entry = asked_entry 0 c.moment.result c.in_ok-request.request c.act-acted.result.drawn
    c.act-acted.result.reply (g.K.Keeper.count c.act-acted.new.self.keeper) in
    let stands = c.act-acted.ensures.stands 1 0 nothing 0 asked.0 (omega arith) asked.1.desk in
    let is = asked.3 in
    let from_none : draws_in asked.0 ≡ 0 + draws_in asked.0 = omega arith in
    record {
      asked = (
        asked.0 ++ entry ∷ [],
        record {
          made = AreMade-push (seeded seed) 0 asked.0 entry asked.1.made refl
              (c.moment.ensures ∙ ap next_moment is)
              (ap Asked (c.in_ok-request.ensures.request ∙ ap next_request is))
              (stands.0 ∙ ap (λ l. draw_of 1 l (draws_in asked.0) c.in_ok-request.request.ask)
              c.loop.invariant.last ∙ ap (λ n. draw_of 1 most_cookie n
              c.in_ok-request.request.ask) from_none
              ∙ ap (λ r. draw_of 1 most_cookie (0 + draws_in asked.0) r.ask)
              (c.in_ok-request.ensures.request ∙ ap next_request is));
          desk = stands.1;
        },
        let so_far = asked.2 in let more = length-append asked.0 (entry ∷ []) in
            omega (arith, so_far, more),
        c.heard.ensures ∙ ap (λ (x : Generating). generator_after x c.act-acted.result.reply) is
            ∙ sym (generated-push (seeded seed) asked.0 entry),
        subst (λ n. CountsAre n (asked.0 ++ entry ∷ [])) (sym c.count.ensures)
            (CountsAre-push c.loop.counts asked.0 entry asked.4),
      );
      made = let made = c.loop.invariant.made in ap (λ (x : Generating). x.made) c.heard.ensures
          ∙ ap (λ n. n + 1) made;
      last = c.act-acted.ensures.last ∙ c.loop.invariant.last;
      floor = c.act-acted.ensures.floor ∙ c.loop.invariant.floor;
    }
