-- A door over a listener, as its callers see it.
use Rattle.std.specs.Prelude.{ℕ, Bool, true, false, Option, Some, None}

-- A door over a listener: how many connections it still hands out, how often it failed, how long a
-- write waits for a peer that takes nothing, in nanoseconds, and whether a connection that it
-- handed out has not come back.
pub record Accepting : Type 0 where
  pub left : ℕ
  pub faults : ℕ
  pub patience : ℕ
  pub is_out : Bool

-- whether there is one
abbrev pub is_there : {X : Type 0} → Option X → Bool
is_there None = false
is_there (Some x) = true

-- a door that is new: so many connections, and so long
abbrev pub accepting : ℕ → ℕ → Accepting
accepting left patience =
    record { left = left; faults = 0; patience = patience; is_out = false }
