-- What the calls of a link do to what it tells: the bytes sent and the bytes still to be received,
-- and its pauses.
use Rattle.std.specs.Prelude.{◌≡◌, ℕ, ◌-◌, ◌≤◌, List, ◌++◌, length, take, Option, Some, None, Result, MatchResult, IfOk, ⊤}
use Rattle.asp_base.specs.Outside.{IsAtEnd}

-- these bytes are sent: the link tells nothing, or they go behind those sent
abbrev pub LinkSends : Option (List ℕ × List ℕ) → Option (List ℕ × List ℕ) → List ℕ → Type 0
LinkSends None None bytes = ⊤
LinkSends None (Some new) bytes = ⊥
LinkSends (Some old) None bytes = ⊥
LinkSends (Some old) (Some new) bytes = (new.0 ≡ old.0 ++ bytes) × (new.1 ≡ old.1)

-- a front of the piece is sent
abbrev pub SendsFront : Option (List ℕ × List ℕ) → Option (List ℕ × List ℕ) → List ℕ → Type 0
SendsFront old new piece = (n : ℕ) × (n ≤ length piece) × LinkSends old new (take n piece)

-- these bytes are received: the link tells nothing, or they come from the front of those still to
-- be received
abbrev pub Receives : Option (List ℕ × List ℕ) → Option (List ℕ × List ℕ) → List ℕ → Type 0
Receives None None bytes = ⊤
Receives None (Some new) bytes = ⊥
Receives (Some old) None bytes = ⊥
Receives (Some old) (Some new) bytes = (new.0 ≡ old.0) × (old.1 ≡ bytes ++ new.1)

-- `receive(buf)` put the next n bytes into the front of the buffer, none only at the end, and took
-- nothing at `Err`
pub record IsReceipt {E : Type 0} (old new : Option (List ℕ × List ℕ)) (result : Result ℕ E)
    (buf : List ℕ) : Type 0 where
  pub count : IfOk result (λ n. n ≤ length buf)
  pub bytes : MatchResult result (λ n. Receives old new (take n buf)) (λ _. new ≡ old)
  pub end : IfOk result (λ n. n ≡ 0 → IsAtEnd new)

-- over several calls these bytes are sent, and these received
abbrev pub Exchanges : Option (List ℕ × List ℕ) → Option (List ℕ × List ℕ) → List ℕ → List ℕ
    → Type 0
Exchanges None None sent received = ⊤
Exchanges None (Some new) sent received = ⊥
Exchanges (Some old) None sent received = ⊥
Exchanges (Some old) (Some new) sent received = (new.0 ≡ old.0 ++ sent)
    × (old.1 ≡ received ++ new.1)

-- over several calls it was told to pause until these moments: the link tells no pauses, or so many
-- of them as it has room for go behind those kept
abbrev pub KeepsPauses : Option (List ℕ × ℕ) → Option (List ℕ × ℕ) → List ℕ → Type 0
KeepsPauses None None moments = ⊤
KeepsPauses None (Some new) moments = ⊥
KeepsPauses (Some old) None moments = ⊥
KeepsPauses (Some old) (Some new) moments = (new.0 ≡ old.0 ++ take old.1 moments)
    × (new.1 ≡ old.1 - length moments)
