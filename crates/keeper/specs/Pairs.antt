-- A list of pairs of key and item, as a map.
use Rattle.std.specs.Prelude.{zero, suc, ◌≡◌, ◌≢◌, ℕ, ◌<◌, ◌≤◌, List, [], ◌∷◌, Option, Some, None, true, false, if◌then◌else◌, All, AllPairs, Contains}
use Rattle.std.specs.Str.{bytes_eq}
use Rattle.asp_messages.specs.Ranges.{KeyFits}
use Rattle.session_machine.specs.declared.item.Item.{Item}
use Rattle.session_machine.specs.Liveness.{ItemFits, expiry}
use Rattle.keeper.specs.Due.{ComesBefore}

-- the item of the key, where a pair has it
abbrev pub item_at : List (List ℕ × Item) → List ℕ → Option Item
item_at [] key = None
item_at (pair ∷ pairs) key = if bytes_eq key pair.0 then Some pair.1 else item_at pairs key

-- Each key and each item is in range, and no key stands twice.
pub record IsMap (pairs : List (List ℕ × Item)) : Type 0 where
  pub keys : All (λ pair. KeyFits pair.0) pairs
  pub items : All (λ pair. ItemFits pair.1) pairs
  pub once : AllPairs (λ pair other. pair.0 ≢ other.0) pairs

-- the n-th pair is the first of the key
abbrev pub IsPlaceOf : List (List ℕ × Item) → List ℕ → ℕ → Type 0
IsPlaceOf [] key n = ⊥
IsPlaceOf (pair ∷ pairs) key zero = bytes_eq key pair.0 ≡ true
IsPlaceOf (pair ∷ pairs) key (suc n) = (bytes_eq key pair.0 ≡ false) × IsPlaceOf pairs key n

-- The pair's item has expired, and no other that has comes before it.
pub record IsFirstPair (pairs : List (List ℕ × Item)) (t : ℕ) (pair : List ℕ × Item) : Type 0 where
  pub there : Contains pairs pair
  pub expired : expiry pair.1 ≤ t
  pub first : All (λ other. expiry other.1 ≤ t
      → ComesBefore (expiry pair.1) pair.0 (expiry other.1) other.0) pairs

-- this pair is to be removed next, or no item has expired
abbrev pub IsFirstOf : List (List ℕ × Item) → ℕ → Option (List ℕ × Item) → Type 0
IsFirstOf pairs t None = All (λ pair. t < expiry pair.1) pairs
IsFirstOf pairs t (Some pair) = IsFirstPair pairs t pair
