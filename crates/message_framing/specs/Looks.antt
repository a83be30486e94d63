-- What a look for the end of a head finds.
use Rattle.std.specs.Prelude.{◌≡◌, ℕ, ◌<◌, ◌≤◌, ◌+◌, min, List, length, take, Some}
use Rattle.asp_messages.specs.Head.{most_head}
use Rattle.message_framing.specs.declared.head.HeadSearch.{HeadSearch}
use Rattle.message_framing.specs.declared.head.HeadSearch.TheVariants.{Ended, Open}
use Rattle.message_framing.specs.declared.head.Phase.{Phase}
use Rattle.message_framing.specs.declared.head.Phase.TheVariants.{Blank}
use Rattle.message_framing.specs.HeadEnd.{phase_after, EndsHead}

-- The first n of the bytes were looked at, and a head doesn't end in them.
pub record IsOpen (bytes : List ℕ) (n : ℕ) (phase : Phase) : Type 0 where
  pub within : n ≤ length bytes
  pub short : n ≤ most_head
  pub seen_so : phase_after Blank (take n bytes) ≡ Some phase

-- A head ends with the first n of the bytes.
pub record IsEnded (bytes : List ℕ) (n : ℕ) : Type 0 where
  pub within : n ≤ length bytes
  pub short : n ≤ most_head
  pub ends : EndsHead (take n bytes)

-- from the first bytes on, by so many steps
abbrev pub LooksOn : List ℕ → ℕ → HeadSearch → ℕ → Type 0
LooksOn bytes from (Ended n) steps = IsEnded bytes n × (n ≡ from + steps)
LooksOn bytes from (Open n phase) steps = IsOpen bytes n phase × (n ≡ from + steps)
    × (n ≡ min (length bytes) most_head)

-- some bytes on from the first bytes, by so many steps, and no further than to this place
abbrev pub LooksOnce : List ℕ → ℕ → ℕ → HeadSearch → ℕ → Type 0
LooksOnce bytes from end (Ended n) steps = IsEnded bytes n × (n ≡ from + steps)
LooksOnce bytes from end (Open n phase) steps = IsOpen bytes n phase × (n ≡ from + steps)
    × (from < n) × (n ≤ end)
