use Rattle.std.proofs.Common.{List, ℕ, ◌++◌, subst, length, arith, refl, sym, ap, ◌∙◌, length-append}
use Rattle.asp_messages.specs.RequestSpelling.{SpellsRequest}
use Rattle.asp_messages.specs.Stream.{HasNoMessage}
use Rattle.asp_messages.proofs.RequestLemmas.{spelling_some}
use Rattle.message_framing.specs.ReaderState.{ReaderState}
use Rattle.stream_server.specs.Callers.{caller_with}
use Rattle.stream_server.proofs.StreamLemmas.{fit_of_spelling, held-none, held-step, held-part}
use Rattle.stream_server.proofs.one_stream.answer_held.Goals as goal

pub loop-message-init : goal.loop-message-init
loop-message-init g c = record {
  pass = c.requires.pass;
  caller = refl;
  held = held-none (g.T.Sink.taken c.args.sink.now) c.args.stream.now.reader.held
      (caller_with c.args.store.now c.args.pass.now (g.C.Clock.told c.args.clock.now));
  whole = c.requires.whole;
  faults = omega arith;
}

pub answer-requires-clause-message : goal.answer-requires-clause-message
answer-requires-clause-message g c =
    let took = c.in-Message.ensures.message in
    fit_of_spelling took.front c.in-Message.message took.spells

pub loop-message-smaller : goal.loop-message-smaller
loop-message-smaller g c =
    let took = c.in-Message.ensures.message in
    let held = ap (λ (r : ReaderState). length r.held) c.answer.ensures.reader in
    omega (
      arith,
      held,
      spelling_some took.front c.in-Message.message took.spells,
      ap length took.held,
      length-append took.front c.next.new.self.reader.held,
    )

pub loop-message-preserved : goal.loop-message-preserved
loop-message-preserved g c =
    let took = c.in-Message.ensures.message in
    let first = caller_with c.args.store.now c.args.pass.now (g.C.Clock.told c.args.clock.now) in
    let mid = caller_with c.args.store.now c.loop-message.pass
    (g.C.Clock.told c.loop-message.clock) in
    let now = caller_with c.args.store.now c.answer.new.pass (g.C.Clock.told c.answer.new.clock) in
    let same = ap (λ (r : ReaderState). r.held) c.answer.ensures.reader in
    record {
      pass = c.answer.ensures.pass;
      caller = c.answer.ensures.caller ∙ c.loop-message.invariant.caller;
      held = held-step c.args.stream.now.reader.held c.loop-message.stream.reader.held took.front
          c.answer.new.stream.reader.held
          c.in-Message.message first mid now (took.held ∙ ap (λ (l : List ℕ). took.front
          ++ l) (sym same)) took.spells
          (g.T.Sink.taken c.args.sink.now) (g.T.Sink.taken c.loop-message.sink)
          (g.T.Sink.taken c.answer.new.sink)
          c.loop-message.invariant.held c.in-Ok.ensures.answered;
      whole = ap (λ (r : ReaderState). r.is_broken) c.answer.ensures.reader ∙ took.whole
          ∙ c.loop-message.invariant.whole;
      faults = omega (arith, c.answer.ensures.cause.later, c.loop-message.invariant.faults);
    }

pub returns-in-Err-clause-in_part : goal.returns-in-Err-clause-in_part
returns-in-Err-clause-in_part g c = λ _.
    let took = c.in-Message.ensures.message in
    let first = caller_with c.args.store.now c.args.pass.now (g.C.Clock.told c.args.clock.now) in
    let mid = caller_with c.args.store.now c.loop-message.pass
    (g.C.Clock.told c.loop-message.clock) in
    let after = c.answer.new.clock in
    let now = caller_with c.args.store.now c.answer.new.pass (g.C.Clock.told after) in (
      c.next.new.self.reader.held,
      held-part c.args.stream.now.reader.held c.loop-message.stream.reader.held took.front
          c.next.new.self.reader.held
          c.in-Message.message first mid now took.held took.spells
          (g.T.Sink.taken c.args.sink.now) (g.T.Sink.taken c.loop-message.sink)
          (g.T.Sink.taken c.answer.new.sink)
          c.loop-message.invariant.held c.in-Err.ensures.in_part,
    )

pub returns-in-More-clause-waits : goal.returns-in-More-clause-waits
returns-in-More-clause-waits g c = λ _.
    let same = c.in-More.ensures.more refl in (
      ap (λ (r : ReaderState). r.is_broken) same ∙ c.loop-message.invariant.whole,
      ap (λ (r : ReaderState). r.may_feed) same,
      subst (HasNoMessage SpellsRequest) (sym (ap (λ (r : ReaderState). r.held) same))
          (c.in-More.ensures.none_whole refl),
    )
