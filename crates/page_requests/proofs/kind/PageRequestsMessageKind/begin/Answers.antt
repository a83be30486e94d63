use Rattle.std.proofs.Common.{[], take, map, refl, ap, ◌∙◌}
use Rattle.httparse.specs.Spans.{header_bytes, span_bytes}
use Rattle.request_reader.specs.RequestHeads.{parsed-announced}
use Rattle.page_requests.specs.PageLaws.{page-begins, page-none-means}
use Rattle.page_requests.specs.Requests.{page_request}
use Rattle.page_requests.proofs.kind.PageRequestsMessageKind.begin.Goals as goal

pub returns-in_err-spans-clause-none : goal.returns-in_err-spans-clause-none
returns-in_err-spans-clause-none c =
    λ _. page-none-means c.args.text.now (c.in_err-spans.ensures.none refl)

pub returns-clause-head : goal.returns-clause-head
returns-clause-head c = parsed-announced c.args.text.now c.parse_head.new.headers c.in_ok-spans.spans
    c.in_ok-spans.body_len c.in_ok-spans.ensures.head

pub returns-clause-means : goal.returns-clause-means
returns-clause-means c =
    let text = c.args.text.now in
    let spans = c.in_ok-spans.spans in
    let fields = map (header_bytes text) (take spans.headers c.parse_head.new.headers) in
    page-begins text c.parse_head.new.headers spans c.in_ok-spans.body_len c.request.result
    c.in_ok-spans.ensures.head
    (c.request.ensures ∙ ap (λ verb. page_request verb c.of-2.result.now fields []) c.of.ensures
    ∙ ap (λ target. page_request (span_bytes text spans.method) target fields []) c.of-2.ensures)
