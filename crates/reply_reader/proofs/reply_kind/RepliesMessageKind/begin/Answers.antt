use Rattle.std.proofs.Common.{◌≡◌, [], take, map, refl, sym, ap, ◌∙◌}
use Rattle.httparse.specs.Spans.{header_bytes}
use Rattle.asp_messages.specs.ReplySpelling.{answer_spelled, strange_unless}
use Rattle.reply_reader.specs.Replies.{answer_told}
use Rattle.reply_reader.specs.ReplyLaws.{begins, parsed-announced}
use Rattle.reply_reader.proofs.reply_kind.RepliesMessageKind.begin.Goals.{in-Some, in-None}
use Rattle.reply_reader.proofs.reply_kind.RepliesMessageKind.begin.Goals as goal

pub returns-in_err-spans-clause-none : goal.returns-in_err-spans-clause-none
returns-in_err-spans-clause-none c = λ _. c.in_err-spans.ensures.none refl

pub returns-clause-head : goal.returns-clause-head
returns-clause-head c = parsed-announced c.args.text.now c.parse.new.headers c.in_ok-spans.spans
    c.in_ok-spans.body_len c.in_ok-spans.ensures.head

pub returns-clause-means : goal.returns-clause-means
returns-clause-means c =
    let text = c.args.text.now in
    let spans = c.in_ok-spans.spans in
    let fields = map (header_bytes text) (take spans.headers c.parse.new.headers) in
    let says : answer_told c.match-reply.message ≡ answer_spelled spans.code fields [] =
    elim c.match-reply.branch as
    (λ _. answer_told c.match-reply.message ≡ answer_spelled spans.code fields []) [
      | in-Some w ↦ ap answer_told w.message-is
          ∙ ap (strange_unless spans.code) (sym w.in-Some.is ∙ c.reply.ensures)
      | in-None w ↦ ap answer_told w.message-is
          ∙ ap (strange_unless spans.code) (sym w.in-None.is ∙ c.reply.ensures)
    ] in
    begins text c.parse.new.headers spans c.in_ok-spans.body_len c.match-reply.message
    c.in_ok-spans.ensures.head says
