-- The head of a request by itself, whatever the request means: its parts, the length of the body that
-- it announces, and the laws that any kind of request has from it.
use Rattle.std.proofs.Common.{◌≡◌, ℕ, ◌+◌, ◌<◌, ◌≤◌, List, [], ◌∷◌, ◌++◌, length, take, map, inl, inr, Option, Some, refl, sym, ap, ◌∙◌, subst, arith, append-nil, length-take}
use Rattle.std.proofs.lemmas.List.{length-map as map-length, drop_all}
use Rattle.httparse.specs.Ascii.{space}
use Rattle.httparse.specs.Grammar.{RequestHead, print_request, print_version, print_blank, print_end, IsRequestHead as IsGrammarHead, is_uri_byte}
use Rattle.httparse.proofs.GrammarLemmas.{request_unique}
use Rattle.httparse.specs.declared.spans.HeaderSpan.{HeaderSpan}
use Rattle.httparse.specs.declared.spans.RequestSpans.{RequestSpans}
use Rattle.httparse.specs.Spans.{header_bytes, IsRequestWithin, IsRequestOf}
use Rattle.asp_messages.proofs.FramingLemmas.{body_length-le}
use Rattle.asp_messages.specs.Fields.{request_fields, body_length, most_body}
use Rattle.asp_messages.specs.Head.{IsRequestHead, most_head}
use Rattle.asp_messages.specs.Stream.{IsWaiting}
use Rattle.message_framing.specs.declared.head.Phase.{Phase}
use Rattle.message_framing.specs.declared.head.Phase.TheVariants.{Blank, Line, Feed}
use Rattle.message_framing.specs.HeadEnd.{phase_after, EndsHead}
use Rattle.message_framing.proofs.EndLemmas.{none-seen}
use Rattle.message_framing.proofs.SectionLemmas.{then, in-line, in-line-one, end-line, token-line, blank-line, blank-lines, section-ends}

-- The text is a head that announces a body of so many bytes.
pub record IsRequestAnnounced (text : List ℕ) (len : ℕ) : Type 0 where
  pub head : RequestHead
  pub is_head : IsRequestHead text head
  pub announced : body_length (request_fields head) ≡ Some len

-- The text is a head, its parts lie at these spans, and its body has the length that it announces.
pub record IsRequestParsed (text : List ℕ) (headers : List HeaderSpan) (spans : RequestSpans)
    (len : ℕ)
    : Type 0 where
  pub within : IsRequestWithin text headers spans
  pub of : IsRequestOf text headers spans
  pub whole : spans.len ≡ length text
  pub short : length text ≤ most_head
  pub room : length headers ≤ 64
  pub announced : body_length (map (header_bytes text) (take spans.headers headers)) ≡ Some len

-- ---- where a head ends

-- the version on a start line
version-line : (minor : ℕ) → phase_after Line (print_version minor) ≡ Some Line
version-line minor = in-line-one (48 + minor) (omega arith)

-- a request head ends at its first empty line
pub request-ends : (h : RequestHead) → IsGrammarHead h → EndsHead (print_request h)
unfolding print_request
request-ends h is =
    let before = print_blank h.blank ++ h.method ++ space ∷ h.target ++ space
    ∷ print_version h.minor ++ print_end h.line_end in
    let blank = blank-lines h.blank in
    let method = then Blank Blank Line (print_blank h.blank) h.method blank
    (token-line Blank h.method blank-line is.method) in
    let target = then Blank Line Line (print_blank h.blank ++ h.method) (space ∷ h.target) method
    (in-line is_uri_byte h.target refl is.target.1) in
    let version = then Blank Line Line (print_blank h.blank ++ h.method ++ space ∷ h.target)
    (space ∷ print_version h.minor) target (version-line h.minor) in
    let start = then Blank Line Feed (print_blank h.blank ++ h.method ++ space ∷ h.target ++ space
    ∷ print_version h.minor) (print_end h.line_end) version (end-line h.line_end) in
    section-ends before h.fields h.last start is.fields

-- a head's text ends it
pub head-ends : (text : List ℕ) (h : RequestHead) → IsRequestHead text h → EndsHead text
head-ends text h is = subst EndsHead (sym (is.reads.1 ∙ append-nil (print_request h)))
    (request-ends h is.reads.0)

-- ---- the laws of a head

-- a head announces one body
pub announces-one : (text : List ℕ) (len other : ℕ) → IsRequestAnnounced text len
    → IsRequestAnnounced text other → other ≡ len
announces-one text len other is also =
    let one_head : is.head ≡ also.head =
    (request_unique text is.head also.head _ [] is.is_head.reads also.is_head.reads).0 in
    let same : ◌≡◌ {A = Option ℕ} (Some other) (Some len) =
    sym also.announced ∙ ap (λ h. body_length (request_fields h)) (sym one_head)
    ∙ is.announced in
    cc

pub short : (text : List ℕ) (len : ℕ) → IsRequestAnnounced text len → len ≤ most_body
short text len is = body_length-le _ _ is.announced

-- the text of the spans is a head
pub parsed-head : (text : List ℕ) (headers : List HeaderSpan) (spans : RequestSpans) (len : ℕ)
    → (is : IsRequestParsed text headers spans len) → IsRequestHead text is.of.0
parsed-head text headers spans len is =
    let same = simp map-length at (ap length is.of.1.fields) in
    record {
      reads = (
        is.of.1.reads.0,
        is.of.1.reads.1
            ∙ ap (λ t. print_request is.of.0 ++ t)
            (drop_all spans.len text (omega (arith, is.whole))),
      );
      short = is.short;
      few = omega (arith, same, length-take spans.headers headers, is.room);
    }

-- what the head announces
pub parsed-announced : (text : List ℕ) (headers : List HeaderSpan) (spans : RequestSpans) (len : ℕ)
    → IsRequestParsed text headers spans len → IsRequestAnnounced text len
parsed-announced text headers spans len is = record {
  head = is.of.0;
  is_head = parsed-head text headers spans len is;
  announced = ap body_length (sym is.of.1.fields) ∙ is.announced;
}

pub waits_for_head : (bytes : List ℕ) (phase : Phase) → phase_after Blank bytes ≡ Some phase
    → length bytes < most_head → IsWaiting IsRequestHead request_fields bytes
waits_for_head bytes phase so room = inl (
  (λ front back head is h. none-seen bytes front back phase
      so (head-ends front head h) is),
  room,
)

pub waits_for_body : (text back : List ℕ) (len : ℕ) → IsRequestAnnounced text len
    → length back < len
    → IsWaiting IsRequestHead request_fields (text ++ back)
waits_for_body text back len is few = inr (record {
  head = is.head;
  front = text;
  back = back;
  len = len;
  bytes_are = refl;
  is_head = is.is_head;
  announced = is.announced;
  short = few;
})
