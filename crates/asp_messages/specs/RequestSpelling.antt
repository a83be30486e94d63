-- The bytes that spell a request ([MS-ASP], section 2.2; the ranges and the defaults are this
-- project's own).
use Rattle.std.specs.Prelude.{◌≡◌, ℕ, List, length, codes, Option, Some, None, Bool, ◌&&◌, ◌==◌, nat_lt, nat_le, if◌then◌else◌}
use Rattle.std.specs.Str.{bytes_eq}
use Rattle.httparse.specs.Grammar.{RequestHead}
use Rattle.percent_encoding.specs.Percent.{percent_decode}
use Rattle.asp_base.specs.Text.{is_same_name}
use Rattle.asp_messages.specs.declared.request.Ask.{Ask}
use Rattle.asp_messages.specs.declared.request.Ask.TheVariants.{Read, Acquire, Release, Write, Remove, Reset}
use Rattle.asp_messages.specs.declared.request.Message.{Message}
use Rattle.asp_messages.specs.declared.request.Message.TheVariants.{Fit, Unfit}
use Rattle.asp_messages.specs.Fields.{Field, Occurrence, absent, one, twice, once, number_needed, most_cookie, timeout_field, extra_flags_field, lock_cookie_field, named, request_fields}
use Rattle.asp_messages.specs.Head.{IsRequestHead}
use Rattle.asp_messages.specs.Stream.{IsFramed}

-- ---- what a verb asks

-- a release needs its cookie
abbrev pub release_ask : Option ℕ → Option Ask
release_ask None = None
release_ask (Some cookie) = Some (Release cookie)

-- the word of `Exclusive`, in any case of its letters
abbrev pub exclusive_ask : List ℕ → Option ℕ → Option Ask
exclusive_ask word cookie =
    if is_same_name word (codes "acquire")
    then Some Acquire
    else (if is_same_name word (codes "release") then release_ask cookie else None)

-- `GET`: a plain read where `Exclusive` is absent, else what its word says; the cookie is that of
-- `LockCookie`
abbrev pub get_ask : Occurrence → Option ℕ → Option Ask
get_ask absent cookie = Some Read
get_ask (one word) cookie = exclusive_ask word cookie
get_ask twice cookie = None

-- `PUT`: a write of the body, where `Timeout`, `ExtraFlags` and `LockCookie` are in range
abbrev pub put_ask : List ℕ → Option ℕ → Option ℕ → Option ℕ → Option Ask
put_ask body (Some minutes) (Some flag) (Some cookie) =
    Some (Write body minutes (flag == 1) (named cookie))
put_ask body minutes flag cookie = None

-- `DELETE`: a removal, where `LockCookie` is in range
abbrev pub delete_ask : Option ℕ → Option Ask
delete_ask None = None
delete_ask (Some cookie) = Some (Remove (named cookie))

-- what a verb asks with these fields and this body
unfoldable pub ask_of : List ℕ → List Field → List ℕ → Option Ask
ask_of verb fields body =
    if bytes_eq verb (codes "GET")
    then get_ask (once fields (codes "Exclusive"))
    (number_needed most_cookie (once fields (codes "LockCookie")))
    else (if bytes_eq verb (codes "PUT")
    then put_ask body (timeout_field fields) (extra_flags_field fields) (lock_cookie_field fields)
    else (if bytes_eq verb (codes "DELETE")
    then delete_ask (lock_cookie_field fields)
    else (if bytes_eq verb (codes "HEAD") then Some Reset else None)))

-- ---- messages

-- a key has 1 to 1,024 bytes
abbrev pub is_key : List ℕ → Bool
is_key key = nat_lt 0 (length key) && nat_le (length key) 1024

abbrev pub fit_of : List ℕ → Option Ask → Message
fit_of key None = Unfit
fit_of key (Some ask) = Fit (record { key = key; ask = ask })

-- the message of a head's parts and a body: the percent-decoded target is the key
unfoldable pub message_of : List ℕ → List ℕ → List Field → List ℕ → Message
message_of verb target fields body =
    if is_key (percent_decode target)
    then fit_of (percent_decode target) (ask_of verb fields body)
    else Unfit

-- The bytes are a request head and the body that it announces, and m is their message.
pub record SpellsRequest (bytes : List ℕ) (m : Message) : Type 0 where
  pub head : RequestHead
  pub body : List ℕ
  pub framed : IsFramed IsRequestHead request_fields bytes head body
  pub message_is : m ≡ message_of head.method head.target (request_fields head) body
