-- Cookies drawn by counting.
use Rattle.std.specs.Prelude.{ℕ, ◌+◌, min, nat_le, Option, Some, None, if◌then◌else◌}

-- a counter's next cookie, and its last one
pub record Counter : Type 0 where
  pub next : ℕ
  pub last : ℕ

-- no cookie at all: the next is past the last
abbrev pub no_cookies : Counter
no_cookies = record { next = 1; last = 0 }

-- what the draw after j draws gives: the first cookie plus j, and nothing past the last
abbrev pub nth_cookie : ℕ → ℕ → ℕ → Option ℕ
nth_cookie first_cookie last j =
    if nat_le (first_cookie + j) last then Some (first_cookie + j) else None

-- the next cookie after j draws
abbrev pub counter_after : ℕ → ℕ → ℕ → ℕ
counter_after first_cookie last j = min (first_cookie + j) (last + 1)
