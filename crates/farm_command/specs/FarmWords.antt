-- The words of the command `farm`.
use Rattle.std.specs.Prelude.{ℕ, List, [], ◌∷◌, codes, Option, Some, None, nat_lt, if◌then◌else◌}
use Rattle.std.specs.Str.{bytes_eq}
use Rattle.asp_base.specs.Numbers.{number_of}

-- so many servers, where there are any
abbrev pub farm_with : Option ℕ → Option ℕ
farm_with (Some servers) = if nat_lt 0 servers then Some servers else None
farm_with None = None

-- `farm N`, with a number from 1 to 64
unfoldable pub farm_of : List (List ℕ) → Option ℕ
farm_of (name ∷ servers ∷ []) =
    if bytes_eq name (codes "farm") then farm_with (number_of servers 64) else None
farm_of words = None
