-- The plain spelling of asks and replies, which journals and scripts use: words with one space
-- between two, numbers in decimal without leading zeros. Cookie 0 stands for none.
use Rattle.std.specs.Prelude.{ℕ, List, ◌++◌, codes, decimal, Option, Some, None, Bool, if◌then◌else◌}
use Rattle.hex.specs.Hex.{encode_lower}
use Rattle.asp_messages.specs.declared.request.Ask.{Ask}
use Rattle.asp_messages.specs.declared.request.Ask.TheVariants.{Read, Acquire, Release, Write, Remove, Reset}
use Rattle.asp_messages.specs.declared.reply.Reply.{Reply}
use Rattle.asp_messages.specs.declared.reply.Reply.TheVariants.{Found, Done, Locked, Missing, Bad, KeeperFault, NoMemory, CookiesOut, PlacesOut}

-- ---- words

-- one more word, behind a space
infixl 5 ◌then◌
abbrev pub ◌then◌ : List ℕ → List ℕ → List ℕ
words then word = words ++ codes " " ++ word

-- the number of a cookie
abbrev pub cookie_word : Option ℕ → List ℕ
cookie_word None = decimal 0
cookie_word (Some cookie) = decimal cookie

-- 1 for yes, 0 for no
abbrev pub flag_word : Bool → List ℕ
flag_word flag = if flag then codes "1" else codes "0"

-- `x` and two lower-case hexadecimal digits for each byte
abbrev pub bytes_word : List ℕ → List ℕ
bytes_word bytes = codes "x" ++ encode_lower bytes

-- ---- spellings

-- the spelling of an ask
unfoldable pub ask_spelling : Ask → List ℕ
ask_spelling Read = codes "read"
ask_spelling Acquire = codes "acquire"
ask_spelling (Release cookie) = codes "release" then decimal cookie
ask_spelling (Write body minutes fresh cookie) =
    codes "write" then cookie_word cookie then decimal minutes then flag_word fresh then
    bytes_word body
ask_spelling (Remove cookie) = codes "remove" then cookie_word cookie
ask_spelling Reset = codes "reset"

-- the spelling of a reply
unfoldable pub reply_spelling : Reply → List ℕ
reply_spelling (Found body minutes cookie first) =
    codes "found" then cookie_word cookie then decimal minutes then flag_word first then
    bytes_word body
reply_spelling Done = codes "done"
reply_spelling (Locked cookie age since) = codes "locked" then decimal cookie then decimal age
reply_spelling Missing = codes "missing"
reply_spelling Bad = codes "bad"
reply_spelling KeeperFault = codes "keeper-fault"
reply_spelling NoMemory = codes "no-memory"
reply_spelling CookiesOut = codes "cookies-out"
reply_spelling PlacesOut = codes "places-out"

-- the moment of an acquisition, where it is told
abbrev pub since_word : Option ℕ → List ℕ
since_word None = codes "-"
since_word (Some since) = decimal since

-- the spelling of a reply with the moment of the acquisition behind the age of a lock
unfoldable pub dated_spelling : Reply → List ℕ
dated_spelling (Locked cookie age since) = codes "locked" then decimal cookie then decimal age then
    since_word since
dated_spelling reply = reply_spelling reply
