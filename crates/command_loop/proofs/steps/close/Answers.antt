use Rattle.std.proofs.Common.{inl}
use Rattle.command_loop.specs.Feeding.{GoesOn, OverAtEnd, both_parts}
use Rattle.command_loop.proofs.RunLemmas.{stops_in_part}
use Rattle.command_loop.proofs.steps.close.Goals as goal

pub returns-in-Err-write_given-clause-stops : goal.returns-in-Err-write_given-clause-stops
returns-in-Err-write_given-clause-stops g c = λ untaken start fed given went wrote.
    stops_in_part (λ over. g.C.Consumer.gave (OverAtEnd over) start c.finish.new.self fed)
    (g.C.Consumer.gave GoesOn start c.finish.new.self fed)
    (g.C.Consumer.lacks start c.finish.new.self fed)
    untaken (g.T.Sink.taken c.args.sink.now) (g.T.Sink.taken c.write_given.new.sink) given
    (both_parts (g.C.Consumer.parts c.finish.new.self)) wrote
    (inl (c.in-Ok.over, c.in-Ok.ensures.over start fed given went))
    c.in-Err-write_given.ensures.some c.in-Err-write_given.ensures.in_part
