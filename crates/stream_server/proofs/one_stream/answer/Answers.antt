use Rattle.asp_base.specs.Outside.{Takes, TakesFront}
use Rattle.stream_server.specs.Callers.{caller_with}
use Rattle.stream_server.specs.Owing.{reply_owed}
use Rattle.stream_server.proofs.AnswerLemmas.{answered}
use Rattle.stream_server.proofs.StreamLemmas.{one-ok, one-err}
use Rattle.asp_messages.specs.ReplyText.{head_text, body_of}
use Rattle.std.proofs.Common.{◌∙◌, ap, refl}
use Rattle.stream_server.proofs.one_stream.answer.Goals as goal

pub returns-clause-answered : goal.returns-clause-answered
returns-clause-answered g c =
    let old = caller_with c.args.store.now c.args.pass.now (g.C.Clock.told c.args.clock.now) in
    let new = caller_with c.args.store.now c.owed_for-owed.new.pass
    (g.C.Clock.told c.now-t.new.self) in
    let owed = c.owed_for-owed.ensures in
    let reply = reply_owed c.owed_for-owed.result in
    one-ok c.write_text-written.result (Takes (g.T.Sink.taken c.args.sink.now)
    (g.T.Sink.taken c.write_text-written.new.sink))
    c.args.message c.now-t.result reply old new
    c.as_slice.result.now c.reply_body.result.now c.answer-head.result
    (c.answer-head.ensures.head ∙ ap head_text c.reply-reply.ensures)
    c.as_slice.ensures (c.reply_body.ensures ∙ ap body_of c.reply-reply.ensures)
    (answered c.args.message c.now-t.result reply old new owed.caller refl refl
    c.now-t.ensures.gives owed.unfit owed.leaves)
    c.write_text-written.ensures.taken

pub returns-clause-in_part : goal.returns-clause-in_part
returns-clause-in_part g c =
    let old = caller_with c.args.store.now c.args.pass.now (g.C.Clock.told c.args.clock.now) in
    let new = caller_with c.args.store.now c.owed_for-owed.new.pass
    (g.C.Clock.told c.now-t.new.self) in
    let owed = c.owed_for-owed.ensures in
    let reply = reply_owed c.owed_for-owed.result in
    one-err c.write_text-written.result (TakesFront (g.T.Sink.taken c.args.sink.now)
    (g.T.Sink.taken c.write_text-written.new.sink))
    c.args.message c.now-t.result reply old new
    c.as_slice.result.now c.reply_body.result.now c.answer-head.result
    (c.answer-head.ensures.head ∙ ap head_text c.reply-reply.ensures)
    c.as_slice.ensures (c.reply_body.ensures ∙ ap body_of c.reply-reply.ensures)
    (answered c.args.message c.now-t.result reply old new owed.caller refl refl
    c.now-t.ensures.gives owed.unfit owed.leaves)
    c.write_text-written.ensures.in_part
