use Rattle.std.proofs.Common.{◌∷◌, ◌++◌, sym, ap, ◌∙◌, subst, slice_index_or, slice_set, ◌<◌, length, arith}
use Rattle.std.proofs.lemmas.List.{get_or-set_same}
use Rattle.state_store.specs.Passes.{passes_of, caller_of, view_in}
use Rattle.stream_server.specs.WorkerPasses.{AllHaveMet}
use Rattle.stream_server.proofs.WorkerLemmas.{one_list, set_one, finished}
use Rattle.stream_server.proofs.seating.finish.Goals as goal

pub returns-clause-finished : goal.returns-clause-finished
returns-clause-finished g c =
    let split = c.split_at_mut-first in
    let met = c.meet_all.ensures in
    let sealed = c.seal.ensures in
    let first = split.result.0.now in
    let p = slice_index_or first 0 c.index-first-0.result in
    let old = split.ensures.value ∙ ap (λ l. l ++ split.result.1.now)
    (one_list first c.index-first-0.result split.ensures.front_len) in
    let inside : 0 < length first = omega (arith, split.ensures.front_len) in
    let at = get_or-set_same first 0 c.meet_all.new.first c.index-first-0-2.result inside in
    let new = ap (λ l. l ++ c.meet_all.new.others)
    (set_one first c.meet_all.new.first c.seal.new.pass split.ensures.front_len) in
    subst (λ l. AllHaveMet c.args.store.now (passes_of c.args.roll) l
    (slice_set (slice_set first 0 c.meet_all.new.first) 0 c.seal.new.pass
    ++ c.meet_all.new.others)) (sym old)
    (subst (λ l. AllHaveMet c.args.store.now (passes_of c.args.roll) (p ∷ split.result.1.now) l)
    (sym new)
    (finished c.args.store.now (passes_of c.args.roll) p c.meet_all.new.first c.seal.new.pass
    split.result.1.now c.meet_all.new.others
    sealed.pass (sealed.caller ∙ ap caller_of at) met.first.1
    (λ shard. sealed.same shard ∙ ap (λ q. view_in q shard) at) met.others met.callers
    met.as_long met.first_met met.others_met sealed.callers))
