-- The limits that several crates keep to, in bytes.
use Rattle.std.specs.Prelude.{ℕ, ◌^◌}

-- the most that one read asks for, and that a reader is fed at once
abbrev pub most_piece : ℕ
most_piece = 16384

-- the most that are read of one input
abbrev pub most_input : ℕ
most_input = 2 ^ 40
