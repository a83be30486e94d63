-- The sessions that live at a moment, a line each.
use Rattle.std.specs.Prelude.{◌≡◌, ℕ, ◌+◌, List, [], ◌∷◌, ◌++◌, codes, decimal, Option, Some, None, if◌then◌else◌}
use Rattle.std.specs.Cmp.Lexicographic.{slice_cmp}
use Rattle.std.specs.List.Sorted.{IsStrictlySortedBy}
use Rattle.std.specs.Map.{keys_of}
use Rattle.std.specs.Ordering.{nat_cmp}
use Rattle.asp_messages.specs.PlainSpelling.{◌then◌, bytes_word, flag_word}
use Rattle.session_machine.specs.declared.item.Hold.{Hold}
use Rattle.session_machine.specs.declared.item.Item.{Item}
use Rattle.session_machine.specs.Liveness.{is_live}
use Rattle.journal_text.specs.JudgingChecker.{item_among}

-- the cookie of a lock, 0 where there is none
abbrev pub cookie_of : Option Hold → ℕ
cookie_of None = 0
cookie_of (Some hold) = hold.cookie

-- the moment of its acquisition, 0 where there is none
abbrev pub since_of : Option Hold → ℕ
since_of None = 0
since_of (Some hold) = hold.since

-- `KEY COOKIE SINCE`
abbrev pub line_start : List ℕ → Option Hold → List ℕ
line_start key holder =
    bytes_word key then decimal (cookie_of holder) then decimal (since_of holder)

-- behind that ` MINUTES FRESH TOUCHED ENDS BODY`, with a line feed
abbrev pub line_behind : List ℕ → Item → List ℕ
line_behind start item =
    (start then decimal item.minutes then flag_word item.fresh then decimal item.touched then
    decimal item.ends then bytes_word item.body) ++ codes "\n"

-- `KEY COOKIE SINCE MINUTES FRESH TOUCHED ENDS BODY`, with a line feed
unfoldable pub item_line : List ℕ → Item → List ℕ
item_line key item = line_behind (line_start key item.holder) item

-- its line where it lives at the moment
abbrev pub line_at : ℕ → List ℕ → Item → List ℕ
line_at t key item = if is_live item t then item_line key item else []

-- the lines of those that live at the moment
abbrev pub live_lines : ℕ → List (List ℕ × Item) → List ℕ
live_lines t [] = []
live_lines t (e ∷ es) = line_at t e.0 e.1 ++ live_lines t es

-- how many live at the moment
abbrev pub live_count : ℕ → List (List ℕ × Item) → ℕ
live_count t [] = 0
live_count t (e ∷ es) = (if is_live e.1 t then 1 else 0) + live_count t es

-- `sessions N`, with a line feed
unfoldable pub count_line : ℕ → List ℕ
count_line n = (codes "sessions" then decimal n) ++ codes "\n"

-- the lines, and how many they are
abbrev pub sessions_text : ℕ → List (List ℕ × Item) → List ℕ
sessions_text t entries = live_lines t entries ++ count_line (live_count t entries)

-- The text lists what lives at the moment of the items that the keys have, in the order of the
-- keys.
pub record ListsSessions (t : ℕ) (at : List ℕ → Option Item) (text : List ℕ) : Type 0 where
  pub items : List (List ℕ × Item)
  pub ordered : IsStrictlySortedBy (slice_cmp nat_cmp) (keys_of items)
  pub each : (key : List ℕ) → item_among items key ≡ at key
  pub text_is : text ≡ sessions_text t items
