-- The digits that hexadecimal has and a byte string has not.
use Rattle.std.specs.Prelude.{ℕ, Bool, ◌&&◌, nat_le}

-- `A` to `F`
abbrev pub is_upper : ℕ → Bool
is_upper c = nat_le 65 c && nat_le c 70
