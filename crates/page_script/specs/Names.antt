-- The names of pages.
use Rattle.std.specs.Prelude.{◌≡◌, ℕ, ◌-◌, ◌<◌, ◌≤◌, List, ◌++◌, length, take, replicate, All}

-- a lower-case letter, from `a` to `z`
abbrev pub IsLetter : ℕ → Type 0
IsLetter byte = (97 ≤ byte) × (byte ≤ 122)

-- 1 to 16 lower-case letters
pub record IsName (letters : List ℕ) : Type 0 where
  pub some : 0 < length letters
  pub short : length letters ≤ 16
  pub lower : All IsLetter letters

-- the bytes that hold a name: its letters, and zeros up to 16
abbrev pub padded : List ℕ → List ℕ
padded name = name ++ replicate (16 - length name) 0

-- the first bytes are a name, and the rest is zeros
pub record HoldsName (bytes : List ℕ) (len : ℕ) : Type 0 where
  pub name : IsName (take len bytes)
  pub len_is : length (take len bytes) ≡ len
  pub rest : padded (take len bytes) ≡ bytes
