-- The ports of a farm's servers, in one word, and the port of the server that has a session.
use Rattle.std.specs.Prelude.{ℕ, ◌<◌, ◌≤◌, List, [], ◌∷◌, length, slice_index, Option, Some, None, All, ◌==◌, nat_le, nat_lt, if◌then◌else◌}
use Rattle.asp_base.specs.Numbers.{number_of}
use Rattle.placement.specs.Placement.{server_of_key}

-- the number, where there is one, is not 0
abbrev pub positive : Option ℕ → Option ℕ
positive (Some n) = if nat_lt 0 n then Some n else None
positive None = None

-- a port is from 1 to 65,535
abbrev pub port_of : List ℕ → Option ℕ
port_of word = positive (number_of word 65535)

-- the parts of a text with one byte more in front of it
abbrev pub with_byte : ℕ → List (List ℕ) → List (List ℕ)
with_byte byte [] = (byte ∷ []) ∷ []
with_byte byte (part ∷ parts) = (byte ∷ part) ∷ parts

-- the parts of a text, which is cut at each comma
unfoldable pub comma_parts : List ℕ → List (List ℕ)
comma_parts [] = [] ∷ []
comma_parts (byte ∷ text) =
    if byte == 44 then [] ∷ comma_parts text else with_byte byte (comma_parts text)

-- a port and others behind it, where all are there
abbrev pub port_and : Option ℕ → Option (List ℕ) → Option (List ℕ)
port_and (Some port) (Some ports) = Some (port ∷ ports)
port_and (Some port) None = None
port_and None ports = None

-- the ports that parts spell, where each spells one
abbrev pub ports_in : List (List ℕ) → Option (List ℕ)
ports_in [] = Some []
ports_in (part ∷ parts) = port_and (port_of part) (ports_in parts)

-- 1 to 64 ports, with a comma between two
abbrev pub ports_of : List ℕ → Option (List ℕ)
ports_of word =
    if nat_le (length (comma_parts word)) 64 then ports_in (comma_parts word) else None

-- the port of the server that has the session of this key
abbrev pub port_for : List ℕ → List ℕ → ℕ
port_for ports key = slice_index ports (server_of_key key (length ports))

-- a port's number
abbrev pub IsPort : ℕ → Type 0
IsPort port = (0 < port) × (port ≤ 65535)

-- the ports of 1 to 64 servers
pub record PortsFit (ports : List ℕ) : Type 0 where
  pub some : 0 < length ports
  pub few : length ports ≤ 64
  pub each : All IsPort ports
