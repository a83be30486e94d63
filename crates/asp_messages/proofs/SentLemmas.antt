-- Heads that are written are heads of the grammar.
use Rattle.std.proofs.Common.{◌≡◌, ℕ, ◌+◌, ◌*◌, ◌<◌, ◌≤◌, ◌^◌, true, IsTrue, List, [], ◌∷◌, ◌++◌, map, length, Some, All, IsUtf8, refl, sym, ap, ◌∙◌, arith, append_assoc, append-nil, length-append}
use Rattle.std.specs.Prelude.{codes, decimal, ⊤}
use Rattle.std.specs.List.{flat_map, list_all}
use Rattle.std.specs.Char.{is_ascii_digit}
use Rattle.std.specs.Str.Parse.{digits_value}
use Rattle.std.proofs.lemmas.List.Elements.{All-nil, All-cons}
use Rattle.std.proofs.lemmas.List.{length-map}
use Rattle.std.proofs.lemmas.List.Sums.{AllPass-from_list_all}
use Rattle.httparse.specs.Grammar.{AllPass, IsToken, IsField, crlf, RequestHead, print_request, ResponseHead, print_response, is_token_byte, is_uri_byte, is_value_byte, trim_ows, print_field, Field as Line}
use Rattle.httparse.specs.Spans.{name_and_value}
use Rattle.httparse.proofs.GrammarLemmas.{cons-append}
use Rattle.asp_messages.specs.declared.request.Message.{Message}
use Rattle.asp_messages.specs.Fields.{Field, body_length}
use Rattle.asp_messages.specs.Head as heads
use Rattle.asp_messages.specs.ReplySpelling.{StreamAnswer, SpellsReply, answer_spelled}
use Rattle.asp_messages.specs.ReplyText.{http_line}
use Rattle.asp_messages.specs.RequestSpelling.{SpellsRequest, message_of}
use Rattle.asp_messages.proofs.DecimalLemmas.{decimal-short, decimal-trimmed, decimal-value}

-- ---- fields

-- the line of a field, as the grammar has it
abbrev pub sent : Field → Line
sent f = record { name = f.0; raw = 32 ∷ f.1; end = crlf }

-- the bytes of the line
abbrev pub field_line : Field → List ℕ
field_line f = http_line (f.0 ++ codes ": " ++ f.1)

abbrev pub field_lines : List Field → List ℕ
field_lines fields = flat_map field_line fields

-- a field that is read as it is written
pub record IsSent (f : Field) : Type 0 where
  pub name : IsToken f.0
  pub value : AllPass is_value_byte f.1
  pub trimmed : trim_ows (32 ∷ f.1) ≡ f.1
  pub short : length f.0 + length f.1 ≤ 40

abbrev pub AreSent : List Field → Type 0
AreSent [] = ⊤
AreSent (f ∷ fs) = IsSent f × AreSent fs

print_sent : (f : Field) → print_field (sent f) ≡ field_line f
print_sent f = simp append_assoc

print_lines : (fs : List Field) → flat_map print_field (map sent fs) ≡ field_lines fs
print_lines [] = refl
print_lines (f ∷ fs) = ap (λ t. t ++ flat_map print_field (map sent fs)) (print_sent f)
    ∙ ap (λ t. field_line f ++ t) (print_lines fs)

read_back : (fs : List Field) → AreSent fs → map name_and_value (map sent fs) ≡ fs
read_back [] h = refl
read_back (f ∷ fs) (one, others) = rw (one.trimmed, read_back fs others) refl

are_fields : (fs : List Field) → AreSent fs → All IsField (map sent fs)
are_fields [] h = All-nil IsField
are_fields (f ∷ fs) (one, others) =
    All-cons IsField (sent f) (map sent fs) (record {
      name = one.name;
      raw =
          All-cons (λ b. IsTrue (is_value_byte b)) 32 f.1 refl one.value;
    }) (are_fields fs others)

lines-short : (fs : List Field) → AreSent fs → length (field_lines fs) ≤ 44 * length fs
lines-short [] h = omega arith
lines-short (f ∷ fs) (one, others) =
    let rest = lines-short fs others in
    omega (
      arith,
      one.short,
      rest,
      length-append (field_line f) (field_lines fs),
      length-append
          (f.0 ++ codes ": " ++ f.1) (codes "\r\n"),
      length-append (f.0 ++ codes ": ") f.1,
      length-append f.0 (codes ": "),
    )

-- a field whose parts are written out
pub sent_literal : (name value : List ℕ) → list_all is_token_byte name ≡ true → 0 < length name
    → list_all is_value_byte value ≡ true
    → trim_ows (32 ∷ value) ≡ value → length name + length value ≤ 40 → IsSent (name, value)
sent_literal name value token some pass trimmed short = record {
  name = (some, AllPass-from_list_all is_token_byte name token);
  value = AllPass-from_list_all is_value_byte value pass;
  trimmed = trimmed;
  short = short;
}

-- a field with a number
pub sent_number : (name : List ℕ) (n : ℕ) → list_all is_token_byte name ≡ true → 0 < length name
    → length name ≤ 20 → n < 2 ^ 64 → IsSent (name, decimal n)
sent_number name n token some short small = record {
  name = (some, AllPass-from_list_all is_token_byte name token);
  value = decimal-value n small;
  trimmed = decimal-trimmed n small;
  short = omega (arith, decimal-short n small);
}

-- ---- heads

abbrev sent_reply : List ℕ → List ℕ → List Field → ResponseHead
sent_reply digits phrase fields = record {
  blank = [];
  minor = 1;
  digits = digits;
  reason = Some phrase;
  line_end = crlf;
  fields = map sent fields;
  last = crlf;
}

abbrev pub reply_lines : List ℕ → List ℕ → List Field → List ℕ
reply_lines digits phrase fields = http_line (codes "HTTP/1.1 " ++ digits ++ codes " " ++ phrase)
    ++ field_lines fields ++ http_line []

reply_tail : (d p f : List ℕ) → d ++ (32 ∷ p) ++ (13 ∷ 10 ∷ []) ++ (f ++ (13 ∷ 10 ∷ [])) ≡ d
    ++ (32 ∷ []) ++ p ++ (13 ∷ 10 ∷ []) ++ f ++ (13 ∷ 10 ∷ [])
reply_tail d p f = simp (append_assoc, cons-append)

print_sent_reply : (digits phrase : List ℕ) (fields : List Field)
    → print_response (sent_reply digits phrase fields) ≡ reply_lines digits phrase fields
unfolding print_response
print_sent_reply digits phrase fields =
    ap (λ f. codes "HTTP/1.1 " ++ (digits ++ (32 ∷ phrase) ++ (13 ∷ 10 ∷ [])
    ++ (f ++ (13 ∷ 10 ∷ [])))) (print_lines fields)
    ∙ ap (λ t. codes "HTTP/1.1 " ++ t) (reply_tail digits phrase (field_lines fields))

reply_lines-short : (digits phrase : List ℕ) (fields : List Field) → length digits ≡ 3
    → length phrase ≤ 40 → AreSent fields → length fields ≤ 5
    → length (reply_lines digits phrase fields) ≤ heads.most_head
reply_lines-short digits phrase fields three short are few =
    let first = codes "HTTP/1.1 " in
    let lines = lines-short fields are in
    omega (
      arith,
      lines,
      length-append (http_line (first ++ digits ++ codes " " ++ phrase) ++ field_lines fields)
          (http_line []),
      length-append (http_line (first ++ digits ++ codes " " ++ phrase)) (field_lines fields),
      length-append (first ++ digits ++ codes " " ++ phrase) (codes "\r\n"),
      length-append (first ++ digits ++ codes " ") phrase,
      length-append (first ++ digits) (codes " "),
      length-append first digits,
    )

-- what is written of a reply spells it
pub reply_sent : (digits phrase : List ℕ) (fields : List Field) (body : List ℕ)
    (answer : StreamAnswer)
    → list_all is_ascii_digit digits ≡ true → length digits ≡ 3
    → list_all is_value_byte phrase ≡ true → length phrase ≤ 40
    → AreSent fields → length fields ≤ 5 → body_length fields ≡ Some (length body)
    → answer ≡ answer_spelled (digits_value 10 digits) fields body
    → SpellsReply (reply_lines digits phrase fields ++ body) answer
reply_sent digits phrase fields body answer all three text short are few announced is =
    let head = sent_reply digits phrase fields in
    let same = read_back fields are in record {
      head = head;
      body = body;
      framed = record {
        front = reply_lines digits phrase fields;
        bytes_are = refl;
        is_head = record {
          reads = (
            record {
              minor = omega arith;
              digits = (three, AllPass-from_list_all is_ascii_digit digits all);
              reason = AllPass-from_list_all is_value_byte phrase text;
              fields = are_fields fields are;
            },
            sym (append-nil (print_response head) ∙ print_sent_reply digits phrase fields),
          );
          short = reply_lines-short digits phrase fields three short are few;
          few = omega (arith, few, length-map fields sent);
        };
        announced = rw same announced;
      };
      answer_is = rw same is;
    }

abbrev sent_request : List ℕ → List ℕ → List Field → RequestHead
sent_request verb target fields = record {
  blank = [];
  method = verb;
  target = target;
  minor = 1;
  line_end = crlf;
  fields = map sent fields;
  last = crlf;
}

abbrev pub request_lines : List ℕ → List ℕ → List Field → List ℕ
request_lines verb target fields = http_line (verb ++ codes " " ++ target ++ codes " HTTP/1.1")
    ++ field_lines fields ++ http_line []

request_tail : (m t v f : List ℕ)
    → m ++ (32 ∷ t) ++ (32 ∷ v) ++ (13 ∷ 10 ∷ []) ++ (f ++ (13 ∷ 10 ∷ [])) ≡ m ++ (32 ∷ []) ++ t
    ++ (32 ∷ v) ++ (13 ∷ 10 ∷ []) ++ f ++ (13 ∷ 10 ∷ [])
request_tail m t v f = simp (append_assoc, cons-append)

print_sent_request : (verb target : List ℕ) (fields : List Field)
    → print_request (sent_request verb target fields) ≡ request_lines verb target fields
unfolding print_request
print_sent_request verb target fields =
    ap (λ f. verb ++ (32 ∷ target) ++ (32 ∷ codes "HTTP/1.1") ++ (13 ∷ 10 ∷ [])
    ++ (f ++ (13 ∷ 10 ∷ []))) (print_lines fields)
    ∙ request_tail verb target (codes "HTTP/1.1") (field_lines fields)

request_lines-short : (verb target : List ℕ) (fields : List Field) → length verb ≤ 40
    → length target ≤ 3072 → AreSent fields → length fields ≤ 5
    → length (request_lines verb target fields) ≤ heads.most_head
request_lines-short verb target fields brief short are few =
    let lines = lines-short fields are in
    omega (
      arith,
      lines,
      length-append
          (http_line (verb ++ codes " " ++ target ++ codes " HTTP/1.1") ++ field_lines fields)
          (http_line []),
      length-append (http_line (verb ++ codes " " ++ target ++ codes " HTTP/1.1"))
          (field_lines fields),
      length-append (verb ++ codes " " ++ target ++ codes " HTTP/1.1") (codes "\r\n"),
      length-append (verb ++ codes " " ++ target) (codes " HTTP/1.1"),
      length-append (verb ++ codes " ") target,
      length-append verb (codes " "),
    )

-- what is written of a request spells it
pub request_sent : (verb target : List ℕ) (fields : List Field) (body : List ℕ) (m : Message)
    → list_all is_token_byte verb ≡ true → 0 < length verb → length verb ≤ 40
    → 0 < length target → length target ≤ 3072 → AllPass is_uri_byte target → IsUtf8 target
    → AreSent fields → length fields ≤ 5 → body_length fields ≡ Some (length body)
    → m ≡ message_of verb target fields body
    → SpellsRequest (request_lines verb target fields ++ body) m
request_sent verb target fields body m token some brief some_target short uri text are few announced
    is =
    let head = sent_request verb target fields in
    let same = read_back fields are in record {
      head = head;
      body = body;
      framed = record {
        front = request_lines verb target fields;
        bytes_are = refl;
        is_head = record {
          reads = (
            record {
              method = (some, AllPass-from_list_all is_token_byte verb token);
              target = (some_target, uri);
              target_text = text;
              minor = omega arith;
              fields = are_fields fields are;
            },
            sym (append-nil (print_request head) ∙ print_sent_request verb target fields),
          );
          short = request_lines-short verb target fields brief short are few;
          few = omega (arith, few, length-map fields sent);
        };
        announced = rw same announced;
      };
      message_is = rw same is;
    }
