-- The words of the plain spelling, as texts that spell values.
use Rattle.std.specs.Prelude.{◌≡◌, ◌≢◌, ℕ, ◌<◌, ◌≤◌, List, ◌∷◌, ◌++◌, length, decimal, Option, Some, None, Bool}
use Rattle.std.specs.List.{All}
use Rattle.asp_messages.specs.PlainSpelling.{flag_word, bytes_word}

-- ---- reading

-- the value that is spelled; none exactly where no value is
abbrev pub ReadsAs : {V : Type 0} → (V → Type 0) → Option V → Type 0
ReadsAs {V} Spells None = (v : V) → ¬ Spells v
ReadsAs Spells (Some v) = Spells v

-- the text is the number in decimal, without leading zeros, and the number is at most max
abbrev pub IsNumber : List ℕ → ℕ → ℕ → Type 0
IsNumber text max n = (text ≡ decimal n) × (n ≤ max)

-- each of them is a byte
abbrev pub AreBytes : List ℕ → Type 0
AreBytes bytes = All (λ b. b < 256) bytes

-- the text is `x` and two lower-case hexadecimal digits for each byte, of which there are at most
-- this many
pub record IsByteString (text : List ℕ) (most : ℕ) (bytes : List ℕ) : Type 0 where
  pub spelled : text ≡ bytes_word bytes
  pub short : length bytes ≤ most
  pub are_bytes : AreBytes bytes

-- the text is 1 for yes, 0 for no
abbrev pub IsFlag : List ℕ → Bool → Type 0
IsFlag text flag = text ≡ flag_word flag

-- ---- words

-- the byte stands nowhere in the text
abbrev pub HasNo : ℕ → List ℕ → Type 0
HasNo byte text = All (λ b. b ≢ byte) text

-- the text before the first such byte, and the text behind it
pub record SplitsAt (byte : ℕ) (text word rest : List ℕ) : Type 0 where
  pub joined : text ≡ word ++ byte ∷ rest
  pub first : HasNo byte word

-- no space, no line feed or other byte below the space, and no colon
abbrev pub IsWord : List ℕ → Type 0
IsWord text = All (λ b. (32 < b) × (b ≢ 58)) text
