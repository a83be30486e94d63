use Rattle.std.proofs.Common.{◌<◌, length, slice_index_or, refl, ◌∙◌, arith}
use Rattle.state_store.specs.Passes.{IsPassOf, caller_of, view_in}
use Rattle.stream_server.proofs.MeetingLemmas.{met-none, met-more, met-all, all_set, same_set}
use Rattle.stream_server.proofs.seating.meet_each.Goals as goal

pub loop-k-init : goal.loop-k-init
loop-k-init g c = record {
  first = c.requires.first;
  caller = refl;
  others = c.requires.others;
  callers = λ j d below. refl;
  met = λ shard. met-none _ _ _;
}

pub meet-requires-clause-b : goal.meet-requires-clause-b
meet-requires-clause-b g c =
    let inside : c.loop-k.k < length c.loop-k.others =
    omega (arith, c.loop-k-test.true, c.loop-k.auto.others) in
    c.loop-k.invariant.others c.loop-k.k c.index-others-k.result inside

pub loop-k-preserved : goal.loop-k-preserved
loop-k-preserved g c =
    let k = c.loop-k.k in
    let e = c.index-others-k.result in
    let met = c.meet.ensures in
    let inv = c.loop-k.invariant in
    let inside : k < length c.loop-k.others =
    omega (arith, c.loop-k-test.true, c.loop-k.auto.others) in
    record {
      first = met.a.0;
      caller = met.a.1 ∙ inv.caller;
      others = all_set (IsPassOf c.args.store.now) c.loop-k.others k c.meet.new.b inv.others
          met.b.0;
      callers = same_set caller_of c.args.others.now c.loop-k.others k c.meet.new.b e inside met.b.1
          inv.callers;
      met = λ shard. met-more (λ p. view_in p shard) k c.args.first.now c.loop-k.first c.meet.new.a
          c.args.others.now c.loop-k.others
          (slice_index_or c.loop-k.others k e) c.meet.new.b e c.loop-k-test.true
          (inv.met shard) refl (met.meets shard);
    }

pub returns-clause-met : goal.returns-clause-met
returns-clause-met g c = λ shard. met-all (λ p. view_in p shard) c.loop-k.k _ _ _ _
    (omega (arith, c.loop-k-test.false)) (c.loop-k.invariant.met shard)
