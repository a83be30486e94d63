-- The laws of page requests as a kind of messages. They are those of any message that begins with a
-- request head.
use Rattle.std.proofs.Common.{◌≡◌, ℕ, ◌≤◌, List, [], ◌++◌, length, take, map, Some, refl, sym, ap, ◌∙◌}
use Rattle.httparse.specs.declared.spans.HeaderSpan.{HeaderSpan}
use Rattle.httparse.specs.declared.spans.RequestSpans.{RequestSpans}
use Rattle.httparse.specs.Spans.{header_bytes, span_bytes}
use Rattle.asp_messages.specs.Fields.{body_length}
use Rattle.asp_messages.specs.Head.{most_head}
use Rattle.message_framing.specs.HeadEnd.{EndsHead}
use Rattle.message_framing.specs.Framed.{Framed}
use Rattle.request_reader.specs.RequestHeads.{IsRequestAnnounced, IsRequestParsed, head-ends, parsed-head, announces-one}
use Rattle.page_requests.specs.declared.request.PageRequest.{PageRequest}
use Rattle.page_requests.specs.Requests.{MeansPage, SpellsPage, page_request, filled_page}

pub page_spells : (text body : List ℕ) (m : PageRequest) → MeansPage text body m
    → SpellsPage (text ++ body) m
page_spells text body m means =
    record { text = text; body = body; bytes_are = refl; means = means }

pub page_spelled : (bytes : List ℕ) (m : PageRequest) → SpellsPage bytes m
    → Framed MeansPage bytes m
page_spelled bytes m spells = spells

pub page_ends : (text body : List ℕ) (m : PageRequest) → MeansPage text body m
    → EndsHead text × (length text ≤ most_head)
page_ends text body m means =
    (head-ends text means.head means.is_head, means.is_head.short)

pub page_fits : (text body : List ℕ) (len : ℕ) (m : PageRequest) → IsRequestAnnounced text len
    → MeansPage text body m → length body ≡ len
page_fits text body len m is means = announces-one text len (length body) is (record {
  head = means.head;
  is_head = means.is_head;
  announced = means.announced;
})

-- a head that announces no such body means no request
pub page-none-means : (text : List ℕ) → ((len : ℕ) → IsRequestAnnounced text len → ⊥)
    → (body : List ℕ) (m : PageRequest) → MeansPage text body m → ⊥
page-none-means text none body m means = none (length body) (record {
  head = means.head;
  is_head = means.is_head;
  announced = means.announced;
})

-- the request of a head's parts, with its body still to come
pub page-begins : (text : List ℕ) (headers : List HeaderSpan) (spans : RequestSpans) (len : ℕ)
    (m : PageRequest) → IsRequestParsed text headers spans len
    → m ≡ page_request (span_bytes text spans.method) (span_bytes text spans.path)
    (map (header_bytes text) (take spans.headers headers)) []
    → (body : List ℕ) → length body ≡ len → MeansPage text body (filled_page m body)
page-begins text headers spans len m is says body same_len =
    let head = is.of.0 in
    let at = is.of.1 in
    let fields = map (header_bytes text) (take spans.headers headers) in
    record {
      head = head;
      is_head = parsed-head text headers spans len is;
      announced = ap body_length (sym at.fields) ∙ is.announced ∙ ap Some (sym same_len);
      request_is =
          ap (λ k. filled_page k body) says
          ∙ ap (λ verb. page_request verb (span_bytes text spans.path) fields body) at.method
          ∙ ap (λ target. page_request head.method target fields body) at.path
          ∙ ap (λ fs. page_request head.method head.target fs body) at.fields;
    }
