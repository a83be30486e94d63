use Rattle.std.proofs.Common.{◌∙◌, ap, sym, subst, length, arith}
use Rattle.std.specs.Prelude.{All}
use Rattle.std.proofs.lemmas.List.{take_at}
use Rattle.state_store.specs.Passes.{IsPassOf, passes_of}
use Rattle.stream_server.specs.WorkerPasses.{AllHaveMet}
use Rattle.stream_server.specs.Serving.{IsServed}
use Rattle.stream_server.specs.Workers.{means_of}
use Rattle.stream_server.proofs.ServingLemmas.{all_served, passes_are, untouched-cleared}
use Rattle.stream_server.proofs.all_workers.serve_all_noted.Goals as goal
use Rattle.stream_server.proofs.all_workers.serve_all_noted.Goals.{then-has_failed, else-has_failed}

pub finish-requires-clause-passes : goal.finish-requires-clause-passes
finish-requires-clause-passes g c =
    let store = c.in-Ok-new.made.store in
    subst (λ l. All (IsPassOf store) l) (sym c.deref_mut.ensures.value)
    (passes_are (means_of g.D.Door g.C.Clock)
    store
    c.give_passes.new.workers c.serve_part.new.workers c.take_passes-passes.result.items
    c.serve_part.ensures.as_long c.serve_part.ensures.worked c.take_passes-passes.ensures.passes)

pub returns-clause-served : goal.returns-clause-served
returns-clause-served g c = λ _.
    let store = c.in-Ok-new.made.store in
    let long = c.finish.ensures.as_long in
    let at = take_at c.finish.new.passes _ c.take_passes-passes.result.len
    (long ∙ c.deref_mut.ensures.len) in
    let seated = c.in-Ok-give_passes.ensures in (
      c.in-Ok-new.ensures.shards,
      c.in-Ok-new.ensures.place,
      c.in-Ok-new.ensures.first_cookie,
      c.in-Ok-new.ensures.last_cookie,
      subst (λ l. IsServed (means_of g.D.Door g.C.Clock) store
          c.args.workers.now c.take_passes-passes.new.workers l) (sym at)
          (all_served (means_of g.D.Door g.C.Clock) store
          (passes_of c.give_passes.new.roll) c.args.workers.now c.give_passes.new.workers
          c.serve_part.new.workers
          c.take_passes-passes.new.workers c.take_passes-passes.result.items c.finish.new.passes
          c.requires.workers.0 seated.made seated.seated c.serve_part.ensures.as_long
          c.serve_part.ensures.worked
          c.take_passes-passes.ensures.unseated c.take_passes-passes.ensures.passes
          (long ∙ ap length c.deref_mut.ensures.value)
          (subst (λ l. AllHaveMet store (passes_of c.give_passes.new.roll) l c.finish.new.passes)
          c.deref_mut.ensures.value c.finish.ensures.finished)),
    )

pub returns-in_default-give_passes-clause-no_memory :
    goal.returns-in_default-give_passes-clause-no_memory
returns-in_default-give_passes-clause-no_memory g c = λ _.
    let refused = c.refused-in_default-give_passes.ensures in
    let given = c.give_passes.ensures.so_far in (
      refused.store,
      refused.passes,
      untouched-cleared c.in-Ok-new.made.store given.0 _ _ _ given.1 c.clear.ensures,
    )

pub returns-clause-none_failed : goal.returns-clause-none_failed
returns-clause-none_failed g c = λ none.
    elim c.if-has_failed.branch [
      | then-has_failed w ↦ absurd (omega (arith, none, w.status-is))
      | else-has_failed w ↦ c.has_failed.ensures.none w.if-has_failed.false
    ]
