-- An answer, and its text.
use Rattle.std.specs.Prelude.{ℕ, List, [], ◌∷◌, ◌++◌, length, take, codes, Option, Some, None, if◌then◌else◌}
use Rattle.std.specs.Str.{bytes_eq}
use Rattle.asp_messages.specs.ReplyText.{http_line, ending}
use Rattle.session_id.specs.Identifiers.{text_of}
use Rattle.id_gateway.specs.declared.answer.Answer.{Answer}
use Rattle.id_gateway.specs.declared.answer.Status.{Status}
use Rattle.id_gateway.specs.declared.answer.Status.TheVariants as statuses

-- the status line
abbrev pub status_text : Status → List ℕ
status_text statuses.Ok = codes "HTTP/1.1 200 OK"
status_text statuses.Found = codes "HTTP/1.1 302 Found"
status_text statuses.NotFound = codes "HTTP/1.1 404 Not Found"
status_text statuses.NoIdentifier = codes "HTTP/1.1 500 No Identifier"
status_text statuses.Unavailable = codes "HTTP/1.1 503 Session Unavailable"

-- the target with the identifier in its path
abbrev pub location_of : List ℕ → List ℕ → List ℕ
location_of id target =
    (codes "/(S(" ++ text_of id ++ codes "))")
    ++ (if bytes_eq (take 1 target) (codes "/") then target else 47 ∷ target)

abbrev pub location_line : Option (List ℕ) → List ℕ
location_line None = []
location_line (Some location) = http_line (codes "Location: " ++ location)

abbrev pub set_cookie_line : Option (List ℕ) → List ℕ
set_cookie_line None = []
set_cookie_line (Some id) = codes "Set-Cookie: ASP.NET_SessionId=" ++ text_of id
    ++ codes "; path=/; HttpOnly\r\n"

-- the head: the status line, the fields, the length of the body, and an empty line
abbrev pub head_text : Answer → List ℕ
head_text answer = ((http_line (status_text answer.status) ++ location_line answer.location)
    ++ set_cookie_line answer.new_id) ++ ending (length answer.body)

abbrev pub answer_text : Answer → List ℕ
answer_text answer = head_text answer ++ answer.body
