use Rattle.std.proofs.Common.{arith, refl, inl, ◌++◌}
use Rattle.asp_base.proofs.OutsideLemmas.{Takes-trans}
use Rattle.command_loop.specs.Feeding.{GoesOn, OverAnyhow, both_parts}
use Rattle.command_loop.proofs.RunLemmas.{goes_further, stops_in_part}
use Rattle.command_loop.proofs.steps.work_off.Goals as goal

pub steps-preserved : goal.steps-preserved
steps-preserved g c =
    let did = c.in-Did.ensures.did refl in
    let out = both_parts (g.C.Consumer.parts c.step.new.self) in
    let short = c.steps.invariant.short in
    record {
      goes = goes_further g.C.Consumer.went (g.T.Sink.taken c.args.sink.now)
          (g.T.Sink.taken c.steps.sink)
          (g.T.Sink.taken c.write_given.new.sink) c.args.consumer.now c.steps.consumer
          c.step.new.self out
          c.steps.invariant.goes c.in-Ok.ensures.taken
          (λ start fed given went. (did start fed given went).0);
      short = (short.0, short.1, short.2 ++ out, (did short.0 short.1 short.2 short.3).0, short.4);
      faults = omega (arith, c.steps.invariant.faults, c.write_given.ensures.cause.later);
    }

pub returns-in-Err-write_given-clause-stops : goal.returns-in-Err-write_given-clause-stops
returns-in-Err-write_given-clause-stops g c = λ untaken start fed given went wrote.
    let goes = c.steps.invariant.goes in
    stops_in_part
    (λ over. g.C.Consumer.gave (OverAnyhow c.args.more over) start c.step.new.self fed)
    (g.C.Consumer.gave GoesOn start c.step.new.self fed)
    (g.C.Consumer.lacks start c.step.new.self fed)
    untaken (g.T.Sink.taken c.steps.sink) (g.T.Sink.taken c.write_given-in-Over.new.sink)
    (given ++ goes.0)
    (both_parts (g.C.Consumer.parts c.step.new.self))
    (Takes-trans untaken (g.T.Sink.taken c.args.sink.now) (g.T.Sink.taken c.steps.sink) given goes.0
    wrote goes.1)
    (inl (
      c.in-Over.over,
      c.in-Over.ensures.over start fed (given ++ goes.0)
          (goes.2 start fed given went),
    ))
    c.in-Err-write_given.ensures.some c.in-Err-write_given.ensures.in_part
