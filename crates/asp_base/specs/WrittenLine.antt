-- A line that is written to a sink, and the exit status that says so.
use Rattle.std.specs.Prelude.{◌≡◌, ◌⊎◌, ℕ, List, Option}
use Rattle.asp_base.specs.Outside.{Takes, TakesFront}

-- the line was written on the good status, and a front of it on 5; there is no other
abbrev pub WritesLine : ℕ → ℕ → Option (List ℕ) → Option (List ℕ) → List ℕ → Type 0
WritesLine status good sink sink' line =
    ((status ≡ good) × Takes sink sink' line) ⊎ ((status ≡ 5) × TakesFront sink sink' line)
