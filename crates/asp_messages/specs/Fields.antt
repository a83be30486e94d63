-- The fields of a head, as names and values. A value has no space or tab at either end (RFC 7230,
-- section 3.2).
use Rattle.std.specs.Prelude.{ℕ, ◌-◌, ◌^◌, List, [], ◌∷◌, map, codes, Option, Some, None, nat_le, ◌==◌, if◌then◌else◌}
use Rattle.httparse.specs.Grammar.{RequestHead, ResponseHead}
use Rattle.httparse.specs.Spans.{name_and_value}
use Rattle.asp_base.specs.Text.{is_same_name}
use Rattle.asp_base.specs.Numbers.{number_of}

-- a name and a value
abbrev pub Field : Type 0
Field = List ℕ × List ℕ

-- a request head's fields, in order
abbrev pub request_fields : RequestHead → List Field
request_fields head = map name_and_value head.fields

-- a response head's fields, in order
abbrev pub response_fields : ResponseHead → List Field
response_fields head = map name_and_value head.fields

-- the values of the fields of this name, in order
abbrev pub values : List Field → List ℕ → List (List ℕ)
values [] name = []
values (field ∷ fields) name =
    if is_same_name field.0 name then field.1 ∷ values fields name else values fields name

-- how often a field stands: never, once with a value, or more often
pub data Occurrence : Type 0 where
  absent : Occurrence
  one : List ℕ → Occurrence
  twice : Occurrence

abbrev pub occurrence : List (List ℕ) → Occurrence
occurrence [] = absent
occurrence (value ∷ []) = one value
occurrence (value ∷ other ∷ others) = twice

-- how often the field of this name stands
abbrev pub once : List Field → List ℕ → Occurrence
once fields name = occurrence (values fields name)

-- ---- numbers in fields

-- the number, where it is at least the least
abbrev pub at_least : ℕ → Option ℕ → Option ℕ
at_least least None = None
at_least least (Some n) = if nat_le least n then Some n else None

-- the number of a field that may be absent: the default then, and none where it stands twice, is no
-- number or is out of range
abbrev pub number_or : ℕ → ℕ → ℕ → Occurrence → Option ℕ
number_or default least most absent = Some default
number_or default least most (one value) = at_least least (number_of value most)
number_or default least most twice = None

-- the number of a field that is needed: none where it is absent, stands twice, is no number or is
-- too large
abbrev pub number_needed : ℕ → Occurrence → Option ℕ
number_needed most absent = None
number_needed most (one value) = number_of value most
number_needed most twice = None

-- the most bytes of a body
abbrev pub most_body : ℕ
most_body = 4194304

-- the longest timeout, in minutes
abbrev pub most_minutes : ℕ
most_minutes = 525600

-- the greatest cookie
abbrev pub most_cookie : ℕ
most_cookie = 2 ^ 63 - 1

-- how long the body is that a head announces: 0 bytes where it says nothing, and none where what it
-- says is no length (RFC 7230, section 3.3.2)
abbrev pub body_length : List Field → Option ℕ
body_length fields = number_or 0 0 most_body (once fields (codes "Content-Length"))

-- the minutes of `Timeout`
abbrev pub timeout_field : List Field → Option ℕ
timeout_field fields = number_or 20 1 most_minutes (once fields (codes "Timeout"))

-- the flag of `ExtraFlags`
abbrev pub extra_flags_field : List Field → Option ℕ
extra_flags_field fields = number_or 0 0 1 (once fields (codes "ExtraFlags"))

-- the cookie of `LockCookie`, 0 where it names none
abbrev pub lock_cookie_field : List Field → Option ℕ
lock_cookie_field fields = number_or 0 0 most_cookie (once fields (codes "LockCookie"))

-- cookie 0 names none
abbrev pub named : ℕ → Option ℕ
named cookie = if cookie == 0 then None else Some cookie
