use Rattle.std.proofs.Common.{ℕ, ◌<◌, ◌≤◌, Some, true, arith, refl, subst, sym, ap}
use Rattle.std.proofs.lemmas.Bool.{lt-ltb, le-ltb}
use Rattle.asp_base.specs.Causes.{Rose}
use Rattle.command_loop.specs.Flow.{flow}
use Rattle.command_loop.specs.LoopRunning.{Running}
use Rattle.command_loop.proofs.RunLemmas.{Running-on, complete_of, ended-stopped, ended-closed, ended-long, ended-read, ended-unfed}
use Rattle.command_loop.proofs.main_loop.run.Goals as goal

rise : (a b c : ℕ) → a ≤ b → Rose b c → Rose a c
rise a b c le rose = omega (arith, le, rose)

pub returns-in-Some-clause-ran : goal.returns-in-Some-clause-ran
returns-in-Some-clause-ran g c =
    ended-stopped g.C.Consumer c.args.most c.args.consumer.now c.pieces.consumer
    (flow (g.S.Source.told c.args.source.now) (g.S.Source.told c.pieces.source)
    (g.T.Sink.taken c.args.sink.now) (g.T.Sink.taken c.pieces.sink))
    c.pieces.left c.pieces.invariant.running
    c.work_off.new.consumer (g.T.Sink.taken c.work_off.new.sink) c.in-Some.end
    c.in-Some.ensures.stops

pub returns-in-Some-clause-read : goal.returns-in-Some-clause-read
returns-in-Some-clause-read g c = λ is. absurd (c.in-Some.ensures.read (ap Some is))

pub returns-in-Some-clause-complete : goal.returns-in-Some-clause-complete
returns-in-Some-clause-complete g c = λ read write.
    complete_of g.C.Consumer c.args.most c.args.consumer.now c.work_off.new.consumer
    (g.S.Source.told c.args.source.now) (g.S.Source.told c.pieces.source)
    (g.T.Sink.taken c.args.sink.now) (g.T.Sink.taken c.work_off.new.sink) c.in-Some.end
    (returns-in-Some-clause-ran g c)
    (λ is. c.in-Some.ensures.read (ap Some is))
    (λ is. write (rise _ _ _ c.pieces.invariant.writes (c.in-Some.ensures.write (ap Some is))))

pub returns-in-End-clause-ran : goal.returns-in-End-clause-ran
returns-in-End-clause-ran g c =
    let ended = c.in-End.ensures.end refl in
    let some : 0 < c.pieces.left = omega (arith, c.if-left-eq0.false) in
    let run = Running-on g.C.Consumer c.args.most c.args.consumer.now c.pieces.consumer
    (flow (g.S.Source.told c.args.source.now) (g.S.Source.told c.pieces.source)
    (g.T.Sink.taken c.args.sink.now) (g.T.Sink.taken c.pieces.sink))
    c.pieces.left c.pieces.invariant.running
    c.work_off.new.consumer (g.T.Sink.taken c.work_off.new.sink)
    (c.work_off.ensures.goes c.in_default.is) in
    let here = flow (g.S.Source.told c.args.source.now) (g.S.Source.told c.pieces.source)
    (g.T.Sink.taken c.args.sink.now) (g.T.Sink.taken c.work_off.new.sink) in
    ended-closed g.C.Consumer c.args.most c.args.consumer.now c.take_piece.new.consumer here
    c.pieces.left
    (subst (λ x. Running g.C.Consumer.went c.args.most c.args.consumer.now x here c.pieces.left)
    (sym ended.2) run)
    c.close.new.consumer (g.S.Source.told c.take_piece.new.source) (g.T.Sink.taken c.close.new.sink)
    c.close.result some ended.1 ended.0 c.close.ensures.stops

pub returns-in-End-clause-complete : goal.returns-in-End-clause-complete
returns-in-End-clause-complete g c = λ read write.
    complete_of g.C.Consumer c.args.most c.args.consumer.now c.close.new.consumer
    (g.S.Source.told c.args.source.now) (g.S.Source.told c.take_piece.new.source)
    (g.T.Sink.taken c.args.sink.now) (g.T.Sink.taken c.close.new.sink) c.close.result
    (returns-in-End-clause-ran g c) c.close.ensures.read
    (λ is. write (rise _ (g.T.Sink.faults c.work_off.new.sink) _
    (omega (arith, c.pieces.invariant.writes, c.work_off.ensures.faults))
    (c.close.ensures.write is)))

pub returns-in-End-clause-read : goal.returns-in-End-clause-read
returns-in-End-clause-read g c = λ is. absurd (c.close.ensures.read is)

pub returns-in-ReadFault-clause-ran : goal.returns-in-ReadFault-clause-ran
returns-in-ReadFault-clause-ran g c =
    let fault = c.in-ReadFault.ensures.fault refl in
    let some : 0 < c.pieces.left = omega (arith, c.if-left-eq0.false) in
    let run = Running-on g.C.Consumer c.args.most c.args.consumer.now c.pieces.consumer
    (flow (g.S.Source.told c.args.source.now) (g.S.Source.told c.pieces.source)
    (g.T.Sink.taken c.args.sink.now) (g.T.Sink.taken c.pieces.sink))
    c.pieces.left c.pieces.invariant.running
    c.work_off.new.consumer (g.T.Sink.taken c.work_off.new.sink)
    (c.work_off.ensures.goes c.in_default.is) in
    let here = flow (g.S.Source.told c.args.source.now) (g.S.Source.told c.pieces.source)
    (g.T.Sink.taken c.args.sink.now) (g.T.Sink.taken c.work_off.new.sink) in
    ended-read g.C.Consumer c.args.most c.args.consumer.now c.take_piece.new.consumer here
    c.pieces.left
    (subst (λ x. Running g.C.Consumer.went c.args.most c.args.consumer.now x here c.pieces.left)
    (sym fault.2) run)
    (g.S.Source.told c.take_piece.new.source) some fault.0
    (subst (λ x. g.C.Consumer.waits true x) (sym fault.2)
    (subst (λ b. g.C.Consumer.waits b c.work_off.new.consumer) (lt-ltb 0 c.pieces.left some)
    (c.work_off.ensures.waits c.in_default.is)))

pub returns-in-NoMemory-clause-ran : goal.returns-in-NoMemory-clause-ran
returns-in-NoMemory-clause-ran g c =
    let unfed = c.in-NoMemory.ensures.no_memory refl in
    let run = Running-on g.C.Consumer c.args.most c.args.consumer.now c.pieces.consumer
    (flow (g.S.Source.told c.args.source.now) (g.S.Source.told c.pieces.source)
    (g.T.Sink.taken c.args.sink.now) (g.T.Sink.taken c.pieces.sink))
    c.pieces.left c.pieces.invariant.running
    c.work_off.new.consumer (g.T.Sink.taken c.work_off.new.sink)
    (c.work_off.ensures.goes c.in_default.is) in
    ended-unfed g.C.Consumer c.args.most c.args.consumer.now c.work_off.new.consumer
    (flow (g.S.Source.told c.args.source.now) (g.S.Source.told c.pieces.source)
    (g.T.Sink.taken c.args.sink.now) (g.T.Sink.taken c.work_off.new.sink))
    c.pieces.left run
    c.take_piece.new.consumer (g.S.Source.told c.take_piece.new.source) unfed.0 unfed.2 unfed.1
    unfed.3

pub take_piece-requires-clause-waits : goal.take_piece-requires-clause-waits
take_piece-requires-clause-waits g c =
    let some : 0 < c.pieces.left = omega (arith, c.if-left-eq0.false) in
    subst (λ b. g.C.Consumer.waits b c.work_off.new.consumer) (lt-ltb 0 c.pieces.left some)
    (c.work_off.ensures.waits c.in_default.is)

pub returns-then-left-eq0-clause-ran : goal.returns-then-left-eq0-clause-ran
returns-then-left-eq0-clause-ran g c =
    let none = c.if-left-eq0.true in
    let run = Running-on g.C.Consumer c.args.most c.args.consumer.now c.pieces.consumer
    (flow (g.S.Source.told c.args.source.now) (g.S.Source.told c.pieces.source)
    (g.T.Sink.taken c.args.sink.now) (g.T.Sink.taken c.pieces.sink))
    c.pieces.left c.pieces.invariant.running
    c.work_off.new.consumer (g.T.Sink.taken c.work_off.new.sink)
    (c.work_off.ensures.goes c.in_default.is) in
    ended-long g.C.Consumer c.args.most c.args.consumer.now c.work_off.new.consumer
    (flow (g.S.Source.told c.args.source.now) (g.S.Source.told c.pieces.source)
    (g.T.Sink.taken c.args.sink.now) (g.T.Sink.taken c.work_off.new.sink))
    c.pieces.left run none
    (subst (λ b. g.C.Consumer.waits b c.work_off.new.consumer)
    (le-ltb 0 c.pieces.left (omega (arith, none))) (c.work_off.ensures.waits c.in_default.is))
