use Rattle.std.proofs.Common.{◌-◌, List, ℕ, [], refl, sym, ap, ◌∙◌, subst, inl, inr, arith}
use Rattle.std.specs.Prelude.{◌≢◌}
use Rattle.asp_base.specs.Limits.{most_input}
use Rattle.asp_base.proofs.OutsideLemmas.{Gives-nil}
use Rattle.asp_messages.specs.RequestSpelling.{SpellsRequest}
use Rattle.asp_messages.specs.Stream.{HasNoMessage}
use Rattle.asp_messages.proofs.RequestLemmas.{none_in_nothing}
use Rattle.message_framing.specs.ReaderState.{ReaderState}
use Rattle.stream_core.specs.Connection.{Connection}
use Rattle.stream_server.specs.Callers.{caller_with}
use Rattle.stream_server.specs.Connections.{line_of}
use Rattle.stream_server.specs.StreamProgress.{Streaming}
use Rattle.stream_server.proofs.StreamLemmas.{streaming-start, streaming-fed, streaming-on, end-long, end-no_memory, end-badly, end-unfed, end-write, hopeless-none, hopeless-some, fed_is, rose-since}
use Rattle.stream_server.proofs.one_stream.serve_stream_noted.Goals as goal

pub loop-left-init : goal.loop-left-init
loop-left-init g c =
    let reader = ap (λ (s : Connection). s.reader) c.new-stream.ensures in
    let held = ap (λ (r : ReaderState). r.held) reader in
    let before = line_of g.S.Source g.T.Sink c.args.source.now c.args.sink.now in
    let first = caller_with c.args.store.now c.args.pass.now (g.C.Clock.told c.args.clock.now) in
    record {
      pass = c.requires.pass;
      caller = refl;
      streaming = subst (λ (h : List ℕ). Streaming before before first first h most_input)
          (sym held) (streaming-start before first);
      may_feed = ap (λ (r : ReaderState). r.may_feed) reader;
      whole = ap (λ (r : ReaderState). r.is_broken) reader;
      none = subst (HasNoMessage SpellsRequest) (sym held) none_in_nothing;
      reads = omega arith;
      writes = omega arith;
    }

pub loop-left-preserved : goal.loop-left-preserved
loop-left-preserved g c =
    let before = line_of g.S.Source g.T.Sink c.args.source.now c.args.sink.now in
    let now = line_of g.S.Source g.T.Sink c.loop-left.source c.loop-left.sink in
    let read = line_of g.S.Source g.T.Sink c.take_piece.new.source c.loop-left.sink in
    let first = caller_with c.args.store.now c.args.pass.now (g.C.Clock.told c.args.clock.now) in
    let mid = caller_with c.args.store.now c.loop-left.pass (g.C.Clock.told c.loop-left.clock) in
    let last = caller_with c.args.store.now c.answer_held.new.pass
    (g.C.Clock.told c.answer_held.new.clock) in
    let gave = c.in-Fed.ensures.fed in
    let held = fed_is c.loop-left.stream c.take_piece.new.stream gave.2.0 gave.2.3
    c.loop-left.invariant.whole in
    let s = streaming-fed before now read first mid c.loop-left.stream.reader.held
    c.take_piece.new.stream.reader.held gave.2.0 c.loop-left.left
    (c.loop-left.left - c.in-Fed.count) c.loop-left.invariant.streaming gave.2.2 refl held
    (omega (arith, gave.1, gave.2.1)) in
    let after = line_of g.S.Source g.T.Sink c.take_piece.new.source c.answer_held.new.sink in
    let waits = c.in-More.ensures.waits refl in
    record {
      pass = c.answer_held.ensures.pass;
      caller = c.answer_held.ensures.caller ∙ c.loop-left.invariant.caller;
      streaming = streaming-on before read after first mid last c.take_piece.new.stream.reader.held
          c.answer_held.new.stream.reader.held
          (c.loop-left.left - c.in-Fed.count) s (c.in-More.ensures.more refl) refl;
      may_feed = waits.1;
      whole = waits.0;
      none = waits.2;
      reads = omega (arith, c.loop-left.invariant.reads, c.take_piece.ensures.faults);
      writes = omega (arith, c.loop-left.invariant.writes, c.answer_held.ensures.faults);
    }

pub returns-in-End-clause-served : goal.returns-in-End-clause-served
returns-in-End-clause-served g c =
    let before = line_of g.S.Source g.T.Sink c.args.source.now c.args.sink.now in
    let now = line_of g.S.Source g.T.Sink c.loop-left.source c.loop-left.sink in
    let read = line_of g.S.Source g.T.Sink c.take_piece.new.source c.loop-left.sink in
    let first = caller_with c.args.store.now c.args.pass.now (g.C.Clock.told c.args.clock.now) in
    let mid = caller_with c.args.store.now c.loop-left.pass (g.C.Clock.told c.loop-left.clock) in
    let after = line_of g.S.Source g.T.Sink c.take_piece.new.source c.end_badly.new.sink in
    let ended = c.in-End.ensures.end refl in
    let reader = ap (λ (s : Connection). s.reader) ended.2 in
    let some : c.loop-left.stream.reader.held ≢ [] = λ none.
    let t = c.finish.ensures.finished.1 (
      ap (λ (r : ReaderState). r.is_broken) reader
          ∙ c.loop-left.invariant.whole,
      ap (λ (r : ReaderState). r.held) reader ∙ none,
    ) in
    let f = c.if-is_none.ensures in cc in
    end-badly before now after first mid
    (record {
      source = omega (arith, c.loop-left.invariant.reads, c.take_piece.ensures.faults);
      sink = omega (arith, c.loop-left.invariant.writes, c.end_badly.ensures.faults);
    })
    c.loop-left.stream.reader.held c.loop-left.left c.loop-left.invariant.streaming ended.1
    c.end_badly.result c.loop-left-test.true (some, inr ended.0) c.loop-left.invariant.none
    c.end_badly.ensures.ends
    (λ e. rose-since _ _ _ c.loop-left.invariant.writes (c.end_badly.ensures.fault e))

pub returns-in-NoMemory-clause-served : goal.returns-in-NoMemory-clause-served
returns-in-NoMemory-clause-served g c =
    let before = line_of g.S.Source g.T.Sink c.args.source.now c.args.sink.now in
    let now = line_of g.S.Source g.T.Sink c.loop-left.source c.loop-left.sink in
    let read = line_of g.S.Source g.T.Sink c.take_piece.new.source c.loop-left.sink in
    let first = caller_with c.args.store.now c.args.pass.now (g.C.Clock.told c.args.clock.now) in
    let mid = caller_with c.args.store.now c.loop-left.pass (g.C.Clock.told c.loop-left.clock) in
    let gave = c.in-NoMemory.ensures.no_memory refl in
    end-unfed before now read first mid
    (record {
      source = omega (arith, c.loop-left.invariant.reads, c.take_piece.ensures.faults);
      sink = c.loop-left.invariant.writes;
    })
    c.loop-left.stream.reader.held c.loop-left.left gave.0 c.loop-left.invariant.streaming gave.1
    gave.2 refl

pub returns-then-left-eq0-clause-served : goal.returns-then-left-eq0-clause-served
returns-then-left-eq0-clause-served g c =
    let before = line_of g.S.Source g.T.Sink c.args.source.now c.args.sink.now in
    let now = line_of g.S.Source g.T.Sink c.loop-left.source c.loop-left.sink in
    let read = line_of g.S.Source g.T.Sink c.take_piece.new.source c.loop-left.sink in
    let first = caller_with c.args.store.now c.args.pass.now (g.C.Clock.told c.args.clock.now) in
    let mid = caller_with c.args.store.now c.loop-left.pass (g.C.Clock.told c.loop-left.clock) in
    let last = caller_with c.args.store.now c.answer_held.new.pass
    (g.C.Clock.told c.answer_held.new.clock) in
    let gave = c.in-Fed.ensures.fed in
    let held = fed_is c.loop-left.stream c.take_piece.new.stream gave.2.0 gave.2.3
    c.loop-left.invariant.whole in
    let s = streaming-fed before now read first mid c.loop-left.stream.reader.held
    c.take_piece.new.stream.reader.held gave.2.0 c.loop-left.left
    (c.loop-left.left - c.in-Fed.count) c.loop-left.invariant.streaming gave.2.2 refl held
    (omega (arith, gave.1, gave.2.1)) in
    let after = line_of g.S.Source g.T.Sink c.take_piece.new.source c.answer_held.new.sink in
    let broken = c.in-Broken.ensures.broken refl in
    let t = streaming-on before read after first mid last c.take_piece.new.stream.reader.held
    broken.0
    (c.loop-left.left - c.in-Fed.count) s broken.2 refl in
    end-long before after after first last
    (record {
      source = omega (arith, c.loop-left.invariant.reads, c.take_piece.ensures.faults);
      sink = omega (arith, c.loop-left.invariant.writes, c.answer_held.ensures.faults);
    })
    broken.0 (c.loop-left.left - c.in-Fed.count) t
    (Gives-nil (g.S.Source.told c.take_piece.new.source))
    c.if-left-eq0.true (hopeless-none broken.0 broken.1) refl

pub returns-in-Broken-clause-served : goal.returns-in-Broken-clause-served
returns-in-Broken-clause-served g c =
    let before = line_of g.S.Source g.T.Sink c.args.source.now c.args.sink.now in
    let now = line_of g.S.Source g.T.Sink c.loop-left.source c.loop-left.sink in
    let read = line_of g.S.Source g.T.Sink c.take_piece.new.source c.loop-left.sink in
    let first = caller_with c.args.store.now c.args.pass.now (g.C.Clock.told c.args.clock.now) in
    let mid = caller_with c.args.store.now c.loop-left.pass (g.C.Clock.told c.loop-left.clock) in
    let last = caller_with c.args.store.now c.answer_held.new.pass
    (g.C.Clock.told c.answer_held.new.clock) in
    let gave = c.in-Fed.ensures.fed in
    let held = fed_is c.loop-left.stream c.take_piece.new.stream gave.2.0 gave.2.3
    c.loop-left.invariant.whole in
    let s = streaming-fed before now read first mid c.loop-left.stream.reader.held
    c.take_piece.new.stream.reader.held gave.2.0 c.loop-left.left
    (c.loop-left.left - c.in-Fed.count) c.loop-left.invariant.streaming gave.2.2 refl held
    (omega (arith, gave.1, gave.2.1)) in
    let turn = line_of g.S.Source g.T.Sink c.take_piece.new.source c.answer_held.new.sink in
    let after = line_of g.S.Source g.T.Sink c.take_piece.new.source
    c.end_badly-in-Broken.new.sink in
    let broken = c.in-Broken.ensures.broken refl in
    let t = streaming-on before read turn first mid last c.take_piece.new.stream.reader.held
    broken.0
    (c.loop-left.left - c.in-Fed.count) s broken.2 refl in
    end-badly before turn after first last
    (record {
      source = omega (arith, c.loop-left.invariant.reads, c.take_piece.ensures.faults);
      sink = omega (
        arith,
        c.loop-left.invariant.writes,
        c.answer_held.ensures.faults,
        c.end_badly-in-Broken.ensures.faults,
      );
    })
    broken.0 (c.loop-left.left - c.in-Fed.count) t
    (Gives-nil (g.S.Source.told c.take_piece.new.source))
    c.end_badly-in-Broken.result (omega (arith, c.if-left-eq0.false))
    (hopeless-some broken.0 broken.1, inl broken.1)
    (hopeless-none broken.0 broken.1) c.end_badly-in-Broken.ensures.ends
    (λ e. rose-since _ _ _ (omega (
      arith,
      c.loop-left.invariant.writes,
      c.answer_held.ensures.faults,
    )) (c.end_badly-in-Broken.ensures.fault e))

pub returns-in-NoMemory-answer_held-clause-served :
    goal.returns-in-NoMemory-answer_held-clause-served
returns-in-NoMemory-answer_held-clause-served g c =
    let before = line_of g.S.Source g.T.Sink c.args.source.now c.args.sink.now in
    let now = line_of g.S.Source g.T.Sink c.loop-left.source c.loop-left.sink in
    let read = line_of g.S.Source g.T.Sink c.take_piece.new.source c.loop-left.sink in
    let first = caller_with c.args.store.now c.args.pass.now (g.C.Clock.told c.args.clock.now) in
    let mid = caller_with c.args.store.now c.loop-left.pass (g.C.Clock.told c.loop-left.clock) in
    let last = caller_with c.args.store.now c.answer_held.new.pass
    (g.C.Clock.told c.answer_held.new.clock) in
    let gave = c.in-Fed.ensures.fed in
    let held = fed_is c.loop-left.stream c.take_piece.new.stream gave.2.0 gave.2.3
    c.loop-left.invariant.whole in
    let s = streaming-fed before now read first mid c.loop-left.stream.reader.held
    c.take_piece.new.stream.reader.held gave.2.0 c.loop-left.left
    (c.loop-left.left - c.in-Fed.count) c.loop-left.invariant.streaming gave.2.2 refl held
    (omega (arith, gave.1, gave.2.1)) in
    let after = line_of g.S.Source g.T.Sink c.take_piece.new.source c.answer_held.new.sink in
    let short = c.in-NoMemory-answer_held.ensures.no_memory refl in
    let t = streaming-on before read after first mid last c.take_piece.new.stream.reader.held
    short.0
    (c.loop-left.left - c.in-Fed.count) s short.1 refl in
    end-no_memory before after after first last
    (record {
      source = omega (arith, c.loop-left.invariant.reads, c.take_piece.ensures.faults);
      sink = omega (arith, c.loop-left.invariant.writes, c.answer_held.ensures.faults);
    })
    short.0 (c.loop-left.left - c.in-Fed.count) t
    (Gives-nil (g.S.Source.told c.take_piece.new.source)) refl

pub returns-in-WriteFault-clause-served : goal.returns-in-WriteFault-clause-served
returns-in-WriteFault-clause-served g c =
    let before = line_of g.S.Source g.T.Sink c.args.source.now c.args.sink.now in
    let now = line_of g.S.Source g.T.Sink c.loop-left.source c.loop-left.sink in
    let read = line_of g.S.Source g.T.Sink c.take_piece.new.source c.loop-left.sink in
    let first = caller_with c.args.store.now c.args.pass.now (g.C.Clock.told c.args.clock.now) in
    let mid = caller_with c.args.store.now c.loop-left.pass (g.C.Clock.told c.loop-left.clock) in
    let last = caller_with c.args.store.now c.answer_held.new.pass
    (g.C.Clock.told c.answer_held.new.clock) in
    let gave = c.in-Fed.ensures.fed in
    let held = fed_is c.loop-left.stream c.take_piece.new.stream gave.2.0 gave.2.3
    c.loop-left.invariant.whole in
    let s = streaming-fed before now read first mid c.loop-left.stream.reader.held
    c.take_piece.new.stream.reader.held gave.2.0 c.loop-left.left
    (c.loop-left.left - c.in-Fed.count) c.loop-left.invariant.streaming gave.2.2 refl held
    (omega (arith, gave.1, gave.2.1)) in
    let after = line_of g.S.Source g.T.Sink c.take_piece.new.source c.answer_held.new.sink in
    let part = c.in-WriteFault.ensures.in_part refl in
    end-write before read after first mid last
    (record {
      source = omega (arith, c.loop-left.invariant.reads, c.take_piece.ensures.faults);
      sink = omega (arith, c.loop-left.invariant.writes, c.answer_held.ensures.faults);
    })
    c.take_piece.new.stream.reader.held part.0 (c.loop-left.left - c.in-Fed.count) s part.1 refl
    (rose-since _ _ _ c.loop-left.invariant.writes (c.in-WriteFault.ensures.fault refl))

pub returns-clause-served : goal.returns-clause-served
returns-clause-served g c =
    let before = line_of g.S.Source g.T.Sink c.args.source.now c.args.sink.now in
    let now = line_of g.S.Source g.T.Sink c.loop-left.source c.loop-left.sink in
    let first = caller_with c.args.store.now c.args.pass.now (g.C.Clock.told c.args.clock.now) in
    let mid = caller_with c.args.store.now c.loop-left.pass (g.C.Clock.told c.loop-left.clock) in
    end-long before now now first mid
    (record { source = c.loop-left.invariant.reads; sink = c.loop-left.invariant.writes })
    c.loop-left.stream.reader.held c.loop-left.left c.loop-left.invariant.streaming
    (Gives-nil (g.S.Source.told c.loop-left.source)) (omega (arith, c.loop-left-test.false))
    c.loop-left.invariant.none refl
