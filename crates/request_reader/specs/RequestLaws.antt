-- The laws of requests as a kind of messages.
use Rattle.std.proofs.Common.{◌≡◌, ℕ, ◌≤◌, Bool, true, false, cond, List, [], ◌++◌, length, take, map, Option, Some, None, refl, sym, ap, ◌∙◌}
use Rattle.std.specs.Prelude.{codes}
use Rattle.std.specs.Str.{bytes_eq}
use Rattle.percent_encoding.specs.Percent.{percent_decode}
use Rattle.httparse.specs.declared.spans.HeaderSpan.{HeaderSpan}
use Rattle.httparse.specs.declared.spans.RequestSpans.{RequestSpans}
use Rattle.httparse.specs.Spans.{header_bytes, span_bytes}
use Rattle.asp_base.specs.Text.{is_same_name}
use Rattle.asp_messages.specs.declared.request.Ask.{Ask}
use Rattle.asp_messages.specs.declared.request.Message.{Message}
use Rattle.asp_messages.specs.declared.request.Message.TheVariants.{Unfit}
use Rattle.asp_messages.specs.Fields.{Field, Occurrence, absent, one, twice, once, body_length, timeout_field, extra_flags_field, lock_cookie_field}
use Rattle.asp_messages.specs.Head.{most_head}
use Rattle.asp_messages.specs.RequestSpelling.{message_of, ask_of, get_ask, put_ask, delete_ask, release_ask, fit_of, is_key, SpellsRequest}
use Rattle.message_framing.specs.HeadEnd.{EndsHead}
use Rattle.message_framing.specs.Framed.{Framed, BeginsNothing}
use Rattle.request_reader.specs.RequestHeads.{IsRequestAnnounced, IsRequestParsed, head-ends, parsed-head, announces-one}
use Rattle.request_reader.specs.Requests.{MeansRequest, filled_message, filled_ask}

-- ---- the laws

pub ends : (text body : List ℕ) (m : Message) → MeansRequest text body m
    → EndsHead text × (length text ≤ most_head)
ends text body m means = (head-ends text means.head means.is_head, means.is_head.short)

pub fits : (text body : List ℕ) (len : ℕ) (m : Message) → IsRequestAnnounced text len
    → MeansRequest text body m → length body ≡ len
fits text body len m is means = announces-one text len (length body) is (record {
  head = means.head;
  is_head = means.is_head;
  announced = means.announced;
})

-- a head that announces no length means no message
pub none-means : (text : List ℕ) → ((len : ℕ) → IsRequestAnnounced text len → ⊥)
    → BeginsNothing MeansRequest text
none-means text none body m means = none (length body) (record {
  head = means.head;
  is_head = means.is_head;
  announced = means.announced;
})

-- ---- messages

pub spells : (text body : List ℕ) (m : Message) → MeansRequest text body m
    → SpellsRequest (text ++ body) m
spells text body m means = record {
  head = means.head;
  body = body;
  framed = record {
    front = text;
    bytes_are = refl;
    is_head = means.is_head;
    announced = means.announced;
  };
  message_is = means.message_is;
}

pub spelled : (bytes : List ℕ) (m : Message) → SpellsRequest bytes m → Framed MeansRequest bytes m
spelled bytes m s = record {
  text = s.framed.front;
  body = s.body;
  bytes_are = s.framed.bytes_are;
  means = record {
    head = s.head;
    is_head = s.framed.is_head;
    announced = s.framed.announced;
    message_is = s.message_is;
  };
}

-- ---- the body is filled in

filled_message-cond : (b : Bool) (x y : Message) (body : List ℕ)
    → filled_message (cond b x y) body ≡ cond b (filled_message x body) (filled_message y body)
filled_message-cond true x y body = refl
filled_message-cond false x y body = refl

filled_option : Option Ask → List ℕ → Option Ask
filled_option None body = None
filled_option (Some ask) body = Some (filled_ask ask body)

filled_message-fit : (key : List ℕ) (o : Option Ask) (body : List ℕ)
    → filled_message (fit_of key o) body ≡ fit_of key (filled_option o body)
unfolding filled_option
filled_message-fit key None body = refl
filled_message-fit key (Some ask) body = refl

option-cond : (b : Bool) (x y x' y' : Option Ask) (body : List ℕ) → filled_option x body ≡ x'
    → filled_option y body ≡ y' → filled_option (cond b x y) body ≡ cond b x' y'
option-cond true x y x' y' body e f = e
option-cond false x y x' y' body e f = f

release-filled : (cookie : Option ℕ) (body : List ℕ)
    → filled_option (release_ask cookie) body ≡ release_ask cookie
unfolding filled_option
release-filled None body = refl
release-filled (Some cookie) body = refl

get-filled : (s : Occurrence) (cookie : Option ℕ) (body : List ℕ)
    → filled_option (get_ask s cookie) body ≡ get_ask s cookie
unfolding filled_option
get-filled absent cookie body = refl
get-filled (one word) cookie body =
    option-cond (is_same_name word (codes "acquire")) _ _ _ _ body refl
    (option-cond (is_same_name word (codes "release")) _ _ _ _ body (release-filled cookie body)
    refl)
get-filled twice cookie body = refl

put-filled : (minutes flag cookie : Option ℕ) (body : List ℕ)
    → filled_option (put_ask [] minutes flag cookie) body ≡ put_ask body minutes flag cookie
unfolding filled_option
put-filled (Some m) (Some f) (Some k) body = refl
put-filled (Some m) (Some f) None body = refl
put-filled (Some m) None k body = refl
put-filled None f k body = refl

delete-filled : (cookie : Option ℕ) (body : List ℕ)
    → filled_option (delete_ask cookie) body ≡ delete_ask cookie
unfolding filled_option
delete-filled None body = refl
delete-filled (Some cookie) body = refl

ask-filled : (verb : List ℕ) (fields : List Field) (body : List ℕ)
    → filled_option (ask_of verb fields []) body ≡ ask_of verb fields body
unfolding ask_of filled_option
ask-filled verb fields body =
    option-cond (bytes_eq verb (codes "GET")) _ _ _ _ body
    (get-filled (once fields (codes "Exclusive")) _ body)
    (option-cond (bytes_eq verb (codes "PUT")) _ _ _ _ body
    (put-filled (timeout_field fields) (extra_flags_field fields) (lock_cookie_field fields)
    body)
    (option-cond (bytes_eq verb (codes "DELETE")) _ _ _ _ body
    (delete-filled (lock_cookie_field fields) body)
    (option-cond (bytes_eq verb (codes "HEAD")) _ _ _ _ body refl refl)))

pub message-filled : (verb target : List ℕ) (fields : List Field) (body : List ℕ)
    → filled_message (message_of verb target fields []) body ≡ message_of verb target fields body
unfolding message_of
message-filled verb target fields body =
    filled_message-cond (is_key (percent_decode target))
    (fit_of (percent_decode target) (ask_of verb fields [])) Unfit body
    ∙ ap (λ m. cond (is_key (percent_decode target)) m Unfit)
    (filled_message-fit (percent_decode target) (ask_of verb fields []) body
    ∙ ap (fit_of (percent_decode target)) (ask-filled verb fields body))

-- the message of a head's parts, with its body still to come
pub begins : (text : List ℕ) (headers : List HeaderSpan) (spans : RequestSpans) (len : ℕ)
    (m : Message) → IsRequestParsed text headers spans len
    → m ≡ message_of (span_bytes text spans.method) (span_bytes text spans.path)
    (map (header_bytes text) (take spans.headers headers)) []
    → (body : List ℕ) → length body ≡ len → MeansRequest text body (filled_message m body)
begins text headers spans len m is says body same_len =
    let head = is.of.0 in
    let at = is.of.1 in
    let fields = map (header_bytes text) (take spans.headers headers) in
    record {
      head = head;
      is_head = parsed-head text headers spans len is;
      announced = ap body_length (sym at.fields) ∙ is.announced ∙ ap Some (sym same_len);
      message_is =
          ap (λ k. filled_message k body) says ∙ message-filled (span_bytes text spans.method)
          (span_bytes text spans.path) fields body
          ∙ ap (λ verb. message_of verb (span_bytes text spans.path) fields body) at.method
          ∙ ap (λ target. message_of head.method target fields body) at.path
          ∙ ap (λ fs. message_of head.method head.target fs body) at.fields;
    }
