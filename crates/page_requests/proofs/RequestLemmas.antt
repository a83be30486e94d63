-- Page requests as messages of a stream.
use Rattle.std.proofs.Common.{◌≡◌, ℕ, ◌<◌, ◌≤◌, List, [], ◌∷◌, ◌++◌, length, Option, Some, refl, sym, ap, ◌∙◌, subst, arith, length-append, append_assoc, append-nil}
use Rattle.std.specs.Prelude.{◌≢◌, All}
use Rattle.std.proofs.lemmas.List.Elements.{All-from_recursion}
use Rattle.httparse.specs.Grammar.{ReadsRequest}
use Rattle.httparse.proofs.GrammarLemmas.{request_unique, ReadsRequest-append}
use Rattle.percent_encoding.proofs.PercentLemmas.{IsByte}
use Rattle.asp_messages.specs.declared.request.Ask.TheVariants.{Read}
use Rattle.asp_messages.specs.declared.request.Message.{Message}
use Rattle.asp_messages.specs.declared.request.Message.TheVariants.{Fit}
use Rattle.asp_messages.specs.declared.request.Request.{Request}
use Rattle.asp_messages.specs.Fields.{most_body, request_fields, body_length}
use Rattle.asp_messages.specs.Ranges.{RequestFits}
use Rattle.asp_messages.specs.RequestSpelling.{SpellsRequest}
use Rattle.asp_messages.specs.RequestText.{request_text}
use Rattle.asp_messages.specs.Stream.{IsHopeless}
use Rattle.asp_messages.proofs.FramingLemmas.{body_length-le, split_alike}
use Rattle.asp_messages.proofs.SentRequestLemmas.{request_spelled}
use Rattle.asp_messages.proofs.StreamLemmas.{IsUnique}
use Rattle.page_requests.specs.declared.request.PageRequest.{PageRequest}
use Rattle.page_requests.specs.Requests.{MeansPage, SpellsPage, page_request}
use Rattle.page_requests.specs.PageLaws.{page_ends}

-- a head has a byte
pub page_some : (text body : List ℕ) (m : PageRequest) → MeansPage text body m → 0 < length text
page_some text body m means =
    let end = (page_ends text body m means).0 in
    let all = ap length end.bytes_are in
    let one = length-append end.front (end.last ∷ []) in
    omega (arith, all, one)

-- nor is a request empty
pub spelled_some : (bytes : List ℕ) (m : PageRequest) → SpellsPage bytes m → 0 < length bytes
spelled_some bytes m s =
    let some = page_some s.text s.body m s.means in
    let all = ap length s.bytes_are in
    let sum = length-append s.text s.body in
    omega (arith, some, all, sum)

-- a body is short
pub page_short : (text body : List ℕ) (m : PageRequest) → MeansPage text body m
    → length m.body ≤ most_body
page_short text body m means =
    let le = body_length-le _ _ means.announced in
    let same = ap (λ (r : PageRequest). length r.body) means.request_is in
    omega (arith, le, same)

-- ---- bytes begin with at most one request

reads_more : (bytes : List ℕ) (m : PageRequest) (s : SpellsPage bytes m) (more : List ℕ)
    → ReadsRequest (bytes ++ more) s.means.head (s.body ++ more)
reads_more bytes m s more =
    subst (λ b. ReadsRequest (b ++ more) s.means.head (s.body ++ more)) (sym s.bytes_are)
    (subst (λ b. ReadsRequest b s.means.head (s.body ++ more))
    (sym (append_assoc s.text s.body more))
    (ReadsRequest-append s.text s.means.head [] (s.body ++ more) s.means.is_head.reads))

some_same : (a b : ℕ) → ◌≡◌ {A = Option ℕ} (Some a) (Some b) → a ≡ b
some_same a b e = cc

pub SpellsPage-unique : IsUnique SpellsPage
SpellsPage-unique bytes front back front' back' m m' is s is' s' =
    let reads = reads_more front m s back in
    let reads' = reads_more front' m' s' back' in
    let same = request_unique bytes s.means.head s'.means.head (s.body ++ back) (s'.body ++ back')
    (subst (λ b. ReadsRequest b s.means.head (s.body ++ back)) (sym is) reads)
    (subst (λ b. ReadsRequest b s'.means.head (s'.body ++ back')) (sym is') reads') in
    let len = some_same _ _ (sym s.means.announced
    ∙ ap (λ h. body_length (request_fields h)) same.0 ∙ s'.means.announced) in
    let parts = split_alike s.body back s'.body back' len same.1 in (
      s.means.request_is
          ∙ ap (λ h. page_request h.method h.target (request_fields h) s.body) same.0
          ∙ ap (λ b. page_request s'.means.head.method s'.means.head.target
          (request_fields s'.means.head) b) parts.0
          ∙ sym s'.means.request_is,
      parts.1,
    )

-- ---- there is one

pub page_spelled : (bytes : List ℕ) (m : Message) (s : SpellsRequest bytes m)
    → SpellsPage bytes (page_request s.head.method s.head.target (request_fields s.head) s.body)
page_spelled bytes m s = record {
  text = s.framed.front;
  body = s.body;
  bytes_are = s.framed.bytes_are;
  means = record {
    head = s.head;
    is_head = s.framed.is_head;
    announced = s.framed.announced;
    request_is = refl;
  };
}

-- a rest that is hopeless is not empty: a request could follow it
hopeless_after : (r : Request) → RequestFits r → All IsByte r.key → (rest : List ℕ)
    → IsHopeless SpellsPage rest → rest ≢ []
hopeless_after r fits bytes rest hopeless none =
    let s = request_spelled r fits bytes in
    hopeless (request_text r) (request_text r) [] _
    (ap (λ t. t ++ request_text r) none ∙ sym (append-nil _))
    (page_spelled (request_text r) (Fit r) s)

pub hopeless_some : (rest : List ℕ) → IsHopeless SpellsPage rest → rest ≢ []
hopeless_some rest hopeless =
    hopeless_after (record { key = 47 ∷ []; ask = Read })
    (record { key = (omega arith, omega arith); ask = tt })
    (All-from_recursion IsByte (47 ∷ []) (omega arith, tt)) rest hopeless
