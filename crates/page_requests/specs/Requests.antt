-- A page request, as a head and a body say it.
use Rattle.std.specs.Prelude.{◌≡◌, ℕ, ◌≤◌, List, length, codes, Some, if◌then◌else◌}
use Rattle.std.specs.Str.{bytes_eq}
use Rattle.httparse.specs.Grammar.{RequestHead}
use Rattle.asp_messages.specs.Fields.{Field, request_fields, body_length, most_body}
use Rattle.asp_messages.specs.Head.{IsRequestHead}
use Rattle.message_framing.specs.Framed.{Framed}
use Rattle.page_requests.specs.declared.request.PageRequest.{PageRequest}
use Rattle.page_requests.specs.declared.request.Verb.{Verb}
use Rattle.page_requests.specs.declared.request.Verb.TheVariants as verbs
use Rattle.page_requests.specs.Cookies.{cookie_id}

-- the verb of a method
abbrev pub verb_of : List ℕ → Verb
verb_of method =
    if bytes_eq method (codes "GET") then verbs.Get
    else (if bytes_eq method (codes "POST") then verbs.Post else verbs.Other)

-- the request of a head's parts and a body
abbrev pub page_request : List ℕ → List ℕ → List Field → List ℕ → PageRequest
page_request method target fields body = record {
  verb = verb_of method;
  target = target;
  cookie = cookie_id fields;
  body = body;
}

-- The text is a request head, of any verb and target, that announces this body, and they say the
-- request.
pub record MeansPage (text body : List ℕ) (request : PageRequest) : Type 0 where
  pub head : RequestHead
  pub is_head : IsRequestHead text head
  pub announced : body_length (request_fields head) ≡ Some (length body)
  pub request_is : request ≡ page_request head.method head.target (request_fields head) body

-- the bytes are a head and the body that it announces, and they say the request
abbrev pub SpellsPage : List ℕ → PageRequest → Type 0
SpellsPage = Framed MeansPage

-- the request with this body
abbrev pub filled_page : PageRequest → List ℕ → PageRequest
filled_page request body = record request { body = body }

-- a body has at most 4,194,304 bytes
abbrev pub BodyIsShort : PageRequest → Type 0
BodyIsShort request = length request.body ≤ most_body
