-- What a source and a sink tell before a run and after it.
use Rattle.std.specs.Prelude.{ℕ, List, Option}

-- What the source and the sink told before, and what they tell after.
pub record Flow : Type 0 where
  pub source : Option (List ℕ × List ℕ)
  pub source' : Option (List ℕ × List ℕ)
  pub sink : Option (List ℕ)
  pub sink' : Option (List ℕ)

-- the flow from one to the other
abbrev pub flow : Option (List ℕ × List ℕ) → Option (List ℕ × List ℕ) → Option (List ℕ)
    → Option (List ℕ) → Flow
flow source source' sink sink' = record {
  source = source;
  source' = source';
  sink = sink;
  sink' =
      sink';
}
