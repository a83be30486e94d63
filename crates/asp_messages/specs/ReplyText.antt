-- The canonical text of a reply: the text that is written.
use Rattle.std.specs.Prelude.{ℕ, List, [], ◌++◌, length, codes, decimal, Option, Some, None, Bool, if◌then◌else◌}
use Rattle.asp_messages.specs.declared.reply.Reply.{Reply}
use Rattle.asp_messages.specs.declared.reply.Reply.TheVariants.{Found, Done, Locked, Missing, Bad, KeeperFault, NoMemory, CookiesOut, PlacesOut}

-- a line of a head, with its end
abbrev pub http_line : List ℕ → List ℕ
http_line text = text ++ codes "\r\n"

-- a field with a number
abbrev pub number_line : List ℕ → ℕ → List ℕ
number_line name n = http_line (name ++ codes ": " ++ decimal n)

-- the line of the cookie that was acquired
abbrev pub cookie_line : Option ℕ → List ℕ
cookie_line None = []
cookie_line (Some cookie) = number_line (codes "LockCookie") cookie

-- the line that tells the first reader of an uninitialized item
abbrev pub first_line : Bool → List ℕ
first_line first = if first then http_line (codes "ActionFlags: 1") else []

-- the line of the moment of the acquisition, where it is told
abbrev pub since_line : Option ℕ → List ℕ
since_line None = []
since_line (Some since) = number_line (codes "LockDate") since

-- the lines that end a head: the length of the body, and an empty line
abbrev pub ending : ℕ → List ℕ
ending n = number_line (codes "Content-Length") n ++ http_line []

-- the status line
abbrev pub status_line : Reply → List ℕ
status_line (Found body minutes cookie first) = http_line (codes "HTTP/1.1 200 OK")
status_line Done = http_line (codes "HTTP/1.1 200 OK")
status_line (Locked cookie age since) = http_line (codes "HTTP/1.1 423 Locked")
status_line Missing = http_line (codes "HTTP/1.1 404 Not Found")
status_line Bad = http_line (codes "HTTP/1.1 400 Bad Request")
status_line KeeperFault = http_line (codes "HTTP/1.1 500 Keeper Fault")
status_line NoMemory = http_line (codes "HTTP/1.1 503 No Memory")
status_line CookiesOut = http_line (codes "HTTP/1.1 507 Cookies Out")
status_line PlacesOut = http_line (codes "HTTP/1.1 508 Places Out")

-- the fields between the status line and the length of the body
abbrev pub reply_fields : Reply → List ℕ
reply_fields (Found body minutes cookie first) =
    number_line (codes "Timeout") minutes ++ cookie_line cookie ++ first_line first
reply_fields (Locked cookie age since) = number_line (codes "LockCookie") cookie
    ++ number_line (codes "LockAge") age ++ since_line since
reply_fields reply = []

-- the content of a reply
abbrev pub body_of : Reply → List ℕ
body_of (Found body minutes cookie first) = body
body_of reply = []

-- the canonical head
unfoldable pub head_text : Reply → List ℕ
head_text reply = status_line reply ++ reply_fields reply ++ ending (length (body_of reply))

-- the canonical text
abbrev pub reply_text : Reply → List ℕ
reply_text reply = head_text reply ++ body_of reply

-- the number in the status line
abbrev pub http_status : Reply → ℕ
http_status (Found body minutes cookie first) = 200
http_status Done = 200
http_status (Locked cookie age since) = 423
http_status Missing = 404
http_status Bad = 400
http_status KeeperFault = 500
http_status NoMemory = 503
http_status CookiesOut = 507
http_status PlacesOut = 508
