-- Where a head ends: at its first empty line after its first byte that is neither carriage return
-- nor line feed. An empty line is a line feed right after a line feed, or after a line feed and a
-- carriage return (RFC 7230, section 3).
use Rattle.std.specs.Prelude.{◌≡◌, ℕ, List, [], ◌∷◌, ◌++◌, Option, Some, None, ◌==◌, ◌||◌, if◌then◌else◌}
use Rattle.message_framing.specs.declared.head.Phase.{Phase}
use Rattle.message_framing.specs.declared.head.Phase.TheVariants.{Blank, Line, Feed, Return}

-- one byte more: none where the head ends with it
abbrev pub after : Phase → ℕ → Option Phase
after Blank byte = if byte == 13 || byte == 10 then Some Blank else Some Line
after Line byte = if byte == 10 then Some Feed else Some Line
after Feed byte = if byte == 10 then None else (if byte == 13 then Some Return else Some Line)
after Return byte = if byte == 10 then None else Some Line

-- several bytes more: none where the head ends in them
abbrev pub phase_after : Phase → List ℕ → Option Phase
phase_after phase [] = Some phase
phase_after phase (byte ∷ bytes) =
    elim (after phase byte) [ None ↦ None | Some next ↦ phase_after next bytes ]

-- A head ends with the last of the bytes, and not before.
pub record EndsHead (bytes : List ℕ) : Type 0 where
  pub front : List ℕ
  pub phase : Phase
  pub last : ℕ
  pub bytes_are : bytes ≡ front ++ last ∷ []
  pub open_before : phase_after Blank front ≡ Some phase
  pub ends : after phase last ≡ None
