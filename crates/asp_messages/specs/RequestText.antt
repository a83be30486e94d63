-- The canonical text of a request: the text that is written.
use Rattle.std.specs.Prelude.{ℕ, List, [], ◌∷◌, ◌++◌, length, codes, Bool, ◌||◌, ◌==◌, if◌then◌else◌}
use Rattle.std.specs.List.{flat_map, list_any}
use Rattle.std.specs.Char.{is_ascii_alphanumeric}
use Rattle.percent_encoding.specs.Percent.{percent_encode_byte}
use Rattle.asp_messages.specs.declared.request.Request.{Request}
use Rattle.asp_messages.specs.declared.request.Ask.{Ask}
use Rattle.asp_messages.specs.declared.request.Ask.TheVariants.{Read, Acquire, Release, Write, Remove, Reset}
use Rattle.asp_messages.specs.ReplyText.{http_line, number_line, cookie_line}

-- ---- the target

-- the bytes that stand as they are in a target: letters, digits and - . _ ~ ( )
abbrev pub is_plain_byte : ℕ → Bool
is_plain_byte b = is_ascii_alphanumeric b || list_any (λ c. c == b) (codes "-._~()")

-- a byte as it is, or `%` and its two upper-case hexadecimal digits (RFC 3986, section 2.1)
abbrev pub target_byte : ℕ → List ℕ
target_byte b = if is_plain_byte b then b ∷ [] else percent_encode_byte b

-- the target that names a key
abbrev pub target_text : List ℕ → List ℕ
target_text key = flat_map target_byte key

-- ---- the head

-- the verb of an ask
abbrev pub verb_text : Ask → List ℕ
verb_text Read = codes "GET"
verb_text Acquire = codes "GET"
verb_text (Release cookie) = codes "GET"
verb_text (Write body minutes fresh cookie) = codes "PUT"
verb_text (Remove cookie) = codes "DELETE"
verb_text Reset = codes "HEAD"

-- the line that makes an item uninitialized
abbrev pub fresh_line : Bool → List ℕ
fresh_line fresh = if fresh then http_line (codes "ExtraFlags: 1") else []

-- the fields behind the host
abbrev pub ask_fields : Ask → List ℕ
ask_fields Read = []
ask_fields Acquire = http_line (codes "Exclusive: acquire")
ask_fields (Release cookie) = http_line (codes "Exclusive: release")
    ++ number_line (codes "LockCookie") cookie
ask_fields (Write body minutes fresh cookie) =
    number_line (codes "Timeout") minutes ++ fresh_line fresh ++ cookie_line cookie
    ++ number_line (codes "Content-Length") (length body)
ask_fields (Remove cookie) = cookie_line cookie
ask_fields Reset = []

-- the request line and the host
abbrev pub start_lines : List ℕ → List ℕ → List ℕ
start_lines verb target = http_line (verb ++ codes " " ++ target ++ codes " HTTP/1.1")
    ++ http_line (codes "Host: state")

-- the content of an ask
abbrev pub content_of : Ask → List ℕ
content_of (Write body minutes fresh cookie) = body
content_of ask = []

-- the canonical text
unfoldable pub request_text : Request → List ℕ
request_text request =
    start_lines (verb_text request.ask) (target_text request.key) ++ ask_fields request.ask
    ++ http_line [] ++ content_of request.ask
