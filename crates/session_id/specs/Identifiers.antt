-- The identifiers that ASP.NET generates: 120 bits, kept as 15 bytes and written as 24 characters.
use Rattle.std.specs.Prelude.{◌≡◌, ℕ, ◌+◌, ◌*◌, ◌/◌, ◌%◌, ◌^◌, ◌<◌, ◌==◌, ◌&&◌, nat_eq, nat_lt, Bool, true, List, [], ◌∷◌, length, map, slice_index, take, drop, codes, All}
use Rattle.std.specs.List.{list_all, position_or_len, range_with_len}

-- the characters that stand for the digits 0 to 31
abbrev pub alphabet : List ℕ
alphabet = codes "abcdefghijklmnopqrstuvwxyz012345"

-- the character of a digit
abbrev pub character_of : ℕ → ℕ
character_of digit = slice_index alphabet digit

-- the digit of a character: its place in the alphabet, or 32 where it has none
unfoldable pub digit_of : ℕ → ℕ
digit_of character = position_or_len (nat_eq character) alphabet

-- the number that digits write in a base, the lowest digit first
abbrev pub number : ℕ → List ℕ → ℕ
number base [] = 0
number base (digit ∷ digits) = digit + base * number base digits

-- the first digits of a number in a base, the lowest first
unfoldable pub digits : ℕ → ℕ → ℕ → List ℕ
digits base count n = map (λ k. n / base ^ k % base) (range_with_len 0 count)

-- the k-th piece, from 0, of a list that is cut into pieces of one size
abbrev pub group : ℕ → ℕ → List ℕ → List ℕ
group size k xs = take size (drop (size * k) xs)

-- 24 characters of the alphabet
unfoldable pub is_text : List ℕ → Bool
is_text text = length text == 24 && list_all (λ c. nat_lt (digit_of c) 32) text

-- 15 bytes
pub record IsId (bytes : List ℕ) : Type 0 where
  pub length : length bytes ≡ 15
  pub range : All (λ byte. byte < 256) bytes

-- the text of an identifier: both write one number, the text in base 32 and the bytes in base 256
pub record IsTextOf (bytes text : List ℕ) : Type 0 where
  pub of_id : IsId bytes
  pub in_alphabet : is_text text ≡ true
  pub same_number : number 32 (map digit_of text) ≡ number 256 bytes

-- that text: the characters of the 24 digits in base 32 of the number that the bytes write
unfoldable pub text_of : List ℕ → List ℕ
text_of bytes = map character_of (digits 32 24 (number 256 bytes))
