-- What a gathering sink has taken.
use Rattle.std.specs.Prelude.{ℕ, List, ◌++◌, Option, Some, None}

-- A gathering sink: the sink behind it, and the bytes that wait.
pub record Gathering (T : Type 0) : Type 0 where
  pub inner : T
  pub waiting : List ℕ

-- the bytes that were taken, where they are told: those that the sink behind took, and then those
-- that wait
abbrev pub taken_with : Option (List ℕ) → List ℕ → Option (List ℕ)
taken_with None waiting = None
taken_with (Some taken) waiting = Some (taken ++ waiting)
