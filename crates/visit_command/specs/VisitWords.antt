-- The words of `visit PORT KEY NEED ENDING`. Those behind the ports are spelled as in a `page` line
-- of a page script.
use Rattle.std.specs.Prelude.{ℕ, ◌+◌, ◌-◌, ◌*◌, ◌/◌, ◌%◌, List, [], ◌∷◌, length, codes, slice_index, Option, Some, None, Bool, ◌&&◌, ◌||◌, ◌==◌, nat_le, if◌then◌else◌}
use Rattle.std.specs.List.{list_all}
use Rattle.std.specs.Str.{bytes_eq}
use Rattle.asp_base.specs.Numbers.{number_of}
use Rattle.asp_messages.specs.Fields.{most_body, most_minutes}
use Rattle.asp_messages.specs.Ranges.{KeyFits}
use Rattle.visit_core.specs.declared.act.Ending.{Ending}
use Rattle.visit_core.specs.declared.act.Ending.TheVariants.{Save, Keep, Abandon}
use Rattle.visit_core.specs.declared.visit_terms.Need.{Need}
use Rattle.visit_core.specs.declared.visit_terms.Need.TheVariants.{Exclusive, ReadOnly, Off}
use Rattle.visit_core.specs.Terms.{EndingFits}
use Rattle.visit_command.specs.declared.visit_words.PageWords.{PageWords}
use Rattle.visit_command.specs.ServerPorts.{IsPort, port_for, ports_of, positive}

-- ---- byte strings

-- a hexadecimal digit, of those with lower-case letters, and its value
abbrev pub is_digit : ℕ → Bool
is_digit c = nat_le 48 c && nat_le c 57 || nat_le 97 c && nat_le c 102

abbrev pub digit_value : ℕ → ℕ
digit_value c = if nat_le 97 c then c - 87 else c - 48

-- the bytes of which each two digits spell one
unfoldable pub bytes_of_digits : List ℕ → List ℕ
bytes_of_digits [] = []
bytes_of_digits (high ∷ []) = []
bytes_of_digits (high ∷ low ∷ rest) = (digit_value high * 16 + digit_value low) ∷ bytes_of_digits
    rest

-- digits of whole bytes, at most so many
abbrev pub are_digits : List ℕ → ℕ → Bool
are_digits digits most =
    (nat_le (length digits / 2) most && length digits % 2 == 0) && list_all is_digit digits

-- the bytes that a word spells, at most so many: `x`, and two digits for each of them
unfoldable pub byte_string : List ℕ → ℕ → Option (List ℕ)
byte_string [] most = None
byte_string (letter ∷ digits) most =
    if letter == 120 && are_digits digits most then Some (bytes_of_digits digits) else None

-- ---- the words

-- the list, where there is one, is not empty
abbrev pub some_bytes : Option (List ℕ) → Option (List ℕ)
some_bytes (Some (byte ∷ bytes)) = Some (byte ∷ bytes)
some_bytes (Some []) = None
some_bytes None = None

-- a key has 1 to 1,024 bytes
abbrev pub key_of : List ℕ → Option (List ℕ)
key_of word = some_bytes (byte_string word 1024)

-- what the page needs of its session
abbrev pub need_of : List ℕ → Option Need
need_of word =
    if bytes_eq word (codes "exclusive") then Some Exclusive
    else (if bytes_eq word (codes "readonly") then Some ReadOnly
    else (if bytes_eq word (codes "off") then Some Off
    else None))

-- a number without leading zeros, not 0
abbrev pub minutes_of : List ℕ → Option ℕ
minutes_of word =
    if slice_index word 0 == 48 then None else positive (number_of word most_minutes)

-- an ending that saves nothing
abbrev pub bare_ending : List ℕ → Option Ending
bare_ending word =
    if bytes_eq word (codes "keep") then Some Keep
    else (if bytes_eq word (codes "abandon") then Some Abandon
    else None)

-- the minutes and the content that are saved, where both are there
abbrev pub save_of : Option ℕ → Option (List ℕ) → Option Ending
save_of (Some minutes) (Some body) = Some (Save body minutes)
save_of minutes body = None

-- how the page ends: `keep`, `abandon` or `save MINUTES BODY`
unfoldable pub ending_of : List (List ℕ) → Option Ending
ending_of (word ∷ []) = bare_ending word
ending_of (name ∷ minutes ∷ body ∷ []) =
    if bytes_eq name (codes "save")
    then save_of (minutes_of minutes) (byte_string body most_body)
    else None
ending_of words = None

-- the port of the server that has the session, where the ports and the key are there
abbrev pub port_of_server : Option (List ℕ) → Option (List ℕ) → Option ℕ
port_of_server (Some ports) (Some key) = Some (port_for ports key)
port_of_server (Some ports) None = None
port_of_server None key = None

-- the page, where each of its parts is there
abbrev pub page_of :
    Option ℕ → Option (List ℕ) → Option Need → Option Ending → Option PageWords
page_of (Some port) (Some key) (Some need) (Some ending) =
    Some (record { port = port; key = key; need = need; ending = ending })
page_of port key need ending = None

-- what the words say
unfoldable pub visit_of : List (List ℕ) → Option PageWords
visit_of (name ∷ ports ∷ key ∷ need ∷ ending) =
    if bytes_eq name (codes "visit")
    then page_of (port_of_server (ports_of ports) (key_of key)) (key_of key) (need_of need)
    (ending_of ending)
    else None
visit_of words = None

-- the port of a page, where there is one
abbrev pub port_in : Option PageWords → Option ℕ
port_in (Some page) = Some page.port
port_in None = None

-- each length and number is in its range
pub record PageWordsFit (page : PageWords) : Type 0 where
  pub port : IsPort page.port
  pub key : KeyFits page.key
  pub ending : EndingFits page.ending
