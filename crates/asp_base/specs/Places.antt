-- Where a byte stands in a list of bytes.
use Rattle.std.specs.Prelude.{◌≡◌, ◌≢◌, ℕ, ◌<◌, ◌≤◌, List, slice_index}

-- the byte stands at no place from i on and before j
abbrev pub HasNone : ℕ → List ℕ → ℕ → ℕ → Type 0
HasNone byte bytes i j = (k : ℕ) → i ≤ k → k < j → slice_index bytes k ≢ byte

-- The first place of the byte from i on and before j.
pub record IsFirstPlace (byte : ℕ) (bytes : List ℕ) (i j place : ℕ) : Type 0 where
  pub from : i ≤ place
  pub before : place < j
  pub at : slice_index bytes place ≡ byte
  pub first : HasNone byte bytes i place
