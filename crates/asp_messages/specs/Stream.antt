-- A stream of messages, each a head and the body that it announces. Requests and replies differ in
-- the grammar of their heads (`IsHead`), in where a head has its fields (`fields`), and in what
-- bytes say (`Spells`).
use Rattle.std.specs.Prelude.{◌⊎◌, ◌<◌, ◌≡◌, ℕ, List, [], ◌∷◌, ◌++◌, length, Some}
use Rattle.asp_messages.specs.Fields.{Field, body_length}
use Rattle.asp_messages.specs.Head.{most_head}

-- The bytes are a head and then as many bytes as it announces (RFC 7230, section 3.3.3).
pub record IsFramed {H : Type 0} (IsHead : List ℕ → H → Type 0) (fields : H → List Field)
    (bytes : List ℕ) (head : H) (body : List ℕ) : Type 0 where
  pub front : List ℕ
  pub bytes_are : bytes ≡ front ++ body
  pub is_head : IsHead front head
  pub announced : body_length (fields head) ≡ Some (length body)

-- ---- what bytes say

-- the bytes are spellings of these messages, in order, and then rest
abbrev pub Spelled : {M : Type 0} → (List ℕ → M → Type 0) → List ℕ → List M → List ℕ → Type 0
Spelled Spells bytes [] rest = bytes ≡ rest
Spelled Spells bytes (m ∷ ms) rest =
    (front : List ℕ) × (back : List ℕ) × (bytes ≡ front ++ back) × Spells front m
    × Spelled Spells back ms rest

-- no front of the bytes spells a message
abbrev pub HasNoMessage : {M : Type 0} → (List ℕ → M → Type 0) → List ℕ → Type 0
HasNoMessage {M} Spells bytes = (front back : List ℕ) (m : M) → bytes ≡ front ++ back
    → Spells front m → ⊥

-- The bytes are these messages and a rest that begins with no message.
pub record IsMessageStream {M : Type 0} (Spells : List ℕ → M → Type 0) (bytes : List ℕ)
    (ms : List M)
    (rest : List ℕ) : Type 0 where
  pub spelled : Spelled Spells bytes ms rest
  pub unfinished : HasNoMessage Spells rest

-- no bytes can follow that make a front of it a message
abbrev pub IsHopeless : {M : Type 0} → (List ℕ → M → Type 0) → List ℕ → Type 0
IsHopeless Spells rest = (more : List ℕ) → HasNoMessage Spells (rest ++ more)

-- ---- what is not whole yet

-- no front of the bytes is a head
abbrev pub HasNoHead : {H : Type 0} → (List ℕ → H → Type 0) → List ℕ → Type 0
HasNoHead {H} IsHead bytes = (front back : List ℕ) (head : H) → bytes ≡ front ++ back
    → IsHead front head → ⊥

-- The bytes begin with a head that announces a body, and the body is not whole.
pub record AwaitsBody {H : Type 0} (IsHead : List ℕ → H → Type 0) (fields : H → List Field)
    (bytes : List ℕ) : Type 0 where
  pub head : H
  pub front : List ℕ
  pub back : List ℕ
  pub len : ℕ
  pub bytes_are : bytes ≡ front ++ back
  pub is_head : IsHead front head
  pub announced : body_length (fields head) ≡ Some len
  pub short : length back < len

-- no head is whole and there is room for one, or a head is whole and its body is not
abbrev pub IsWaiting : {H : Type 0} → (List ℕ → H → Type 0) → (H → List Field) → List ℕ → Type 0
IsWaiting IsHead fields bytes = (HasNoHead IsHead bytes × (length bytes < most_head))
    ⊎ AwaitsBody IsHead fields bytes
