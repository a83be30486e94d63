-- Messages as a head's text and a body, over what they mean.
use Rattle.std.specs.Prelude.{◌≡◌, ℕ, ◌+◌, ◌*◌, ◌≤◌, List, [], ◌++◌, length, take, min, Bool, true, false, IsTrue, IsFalse, ⊤, ◌⊎◌}
use Rattle.asp_messages.specs.Head.{most_head}
use Rattle.asp_messages.specs.Stream.{HasNoMessage, IsHopeless}
use Rattle.message_framing.specs.declared.message_reader.Begun.{Begun}
use Rattle.message_framing.specs.declared.message_reader.Found.{Found}
use Rattle.message_framing.specs.declared.message_reader.Found.TheVariants as founds
use Rattle.message_framing.specs.declared.message_reader.State.{State}
use Rattle.message_framing.specs.declared.message_reader.State.TheVariants as states
use Rattle.message_framing.specs.ReaderState.{CountedReader, TakesMessage, waiting, broken, most_held}
use Rattle.message_framing.specs.Looks.{IsOpen, IsEnded}

-- The bytes are a head's text and a body, and together they mean a message.
pub record Framed {M : Type 0} (Means : List ℕ → List ℕ → M → Type 0) (bytes : List ℕ) (m : M)
    : Type 0 where
  pub text : List ℕ
  pub body : List ℕ
  pub bytes_are : bytes ≡ text ++ body
  pub means : Means text body m

module _ {M : Type 0} (Means : List ℕ → List ℕ → M → Type 0) where
  -- the head begins this message: with each body of the length that it announces it means that
  abbrev pub BeginsMessage : (M → List ℕ → M) → List ℕ → Begun M → Type 0
  BeginsMessage filled text begun = (body : List ℕ) → length body ≡ begun.body_len
      → Means text body (filled begun.message body)

  -- no message begins with the text
  abbrev pub BeginsNothing : List ℕ → Type 0
  BeginsNothing text = (body : List ℕ) (m : M) → Means text body m → ⊥

-- a fact of the message that was found
abbrev pub IfFound : {M : Type 0} → Found M → (M → Type 0) → Type 0
IfFound (founds.Message m) P = P m
IfFound founds.More P = ⊤
IfFound founds.Broken P = ⊤
IfFound founds.NoMemory P = ⊤

-- a fact where no message was found
abbrev pub UnlessFound : {M : Type 0} → Found M → Type 0 → Type 0
UnlessFound (founds.Message m) P = ⊤
UnlessFound founds.More P = P
UnlessFound founds.Broken P = P
UnlessFound founds.NoMemory P = P

-- ---- the state of a reader

-- how often the reader looked at a byte of the head
abbrev pub looks_of : {M : Type 0} → State M → ℕ
looks_of (states.Looking n phase) = n
looks_of (states.Ended n) = n
looks_of (states.Read n begun) = 2 * n
looks_of (states.Broken n) = n

-- whether no message can come
abbrev pub is_broken_state : {M : Type 0} → State M → Bool
is_broken_state (states.Looking n phase) = false
is_broken_state (states.Ended n) = false
is_broken_state (states.Read n begun) = false
is_broken_state (states.Broken n) = true

-- what callers see of a reader
abbrev pub reading_of : {M : Type 0} → State M → List ℕ → Bool → CountedReader
reading_of state held may_feed = record {
  bytes = record {
    held = held;
    is_broken = is_broken_state state;
    may_feed = may_feed;
  };
  looks = looks_of state;
}

-- A head ends with the first n of the bytes, and was read: it begins this message.
pub record IsRead {M : Type 0} (IsHead : List ℕ → ℕ → Type 0)
    (Means : List ℕ → List ℕ → M → Type 0) (filled : M → List ℕ → M)
    (bytes : List ℕ) (n : ℕ) (begun : Begun M) : Type 0 where
  pub ended : IsEnded bytes n
  pub is_head : IsHead (take n bytes) begun.body_len
  pub means : BeginsMessage Means filled (take n bytes) begun

-- the state of a reader and the bytes that it holds
abbrev pub SearchStands : {M : Type 0} → (List ℕ → ℕ → Type 0) → (List ℕ → List ℕ → M → Type 0)
    → (M → List ℕ → M) → State M → List ℕ → Type 0
SearchStands IsHead Means filled (states.Looking n phase) held = IsOpen held n phase
SearchStands IsHead Means filled (states.Ended n) held = IsEnded held n
SearchStands IsHead Means filled (states.Read n begun) held =
    IsRead IsHead Means filled held n begun
SearchStands IsHead Means filled (states.Broken n) held = held ≡ []

-- the look is over: the bytes that are held show no end of a head, or as many as a head may have
abbrev pub IsLooked : {M : Type 0} → State M → List ℕ → Type 0
IsLooked (states.Looking n phase) held = n ≡ min (length held) most_head
IsLooked (states.Ended n) held = ⊤
IsLooked (states.Read n begun) held = ⊤
IsLooked (states.Broken n) held = ⊤

-- no head waits to be read
abbrev pub IsPast : {M : Type 0} → State M → List ℕ → Type 0
IsPast (states.Looking n phase) held = n ≡ min (length held) most_head
IsPast (states.Ended n) held = ⊥
IsPast (states.Read n begun) held = ⊤
IsPast (states.Broken n) held = ⊤

-- A message was found at the front of the bytes held, and its head and body taken off.
pub record GivesMessage {M : Type 0} (Means : List ℕ → List ℕ → M → Type 0) (state : State M)
    (old new : List ℕ) (m : M) : Type 0 where
  pub text : List ℕ
  pub body : List ℕ
  pub means : Means text body m
  pub held : old ≡ (text ++ body) ++ new
  pub looks : looks_of state ≡ 2 * length text
  pub whole : is_broken_state state ≡ false

-- A head and the body that it announces were taken from the front of the bytes held. Each byte of
-- the head was looked at twice at most, in so many looks of this call and those before it.
pub record TakesFramed {M : Type 0} (Means : List ℕ → List ℕ → M → Type 0) (old new : CountedReader)
    (ticks : ℕ) (m : M) : Type 0 where
  pub text : List ℕ
  pub body : List ℕ
  pub means : Means text body m
  pub held : old.bytes.held ≡ (text ++ body) ++ new.bytes.held
  pub whole : new.bytes.is_broken ≡ old.bytes.is_broken
  pub counted : ticks + old.looks ≤ 2 * length text
  pub forgotten : new.looks ≡ 0

-- The looks are at most twice the bytes held, and twice those that a head may have. A broken reader
-- holds none: there the bytes are those that it held when it broke, and it never looks again.
pub record LooksWithin (old new : CountedReader) : Type 0 where
  pub held : IsFalse new.bytes.is_broken → new.looks ≤ 2 * min (length new.bytes.held) most_head
  pub broke : IsFalse old.bytes.is_broken → IsTrue new.bytes.is_broken
      → new.looks ≤ 2 * min (length old.bytes.held) most_head
  pub stays : IsTrue old.bytes.is_broken → new.looks ≡ old.looks

-- What a reader answers, and what it holds then: each field is a clause of `next_counted`, but for
-- `forgotten`, which is part of its `counted`.
pub record IsNext {M : Type 0} (Spells : List ℕ → M → Type 0) (Waits : List ℕ → Type 0)
    (old new : CountedReader) (found : Found M) : Type 0 where
  pub message : IfFound found (TakesMessage Spells old.bytes new.bytes)
  pub forgotten : IfFound found (λ _. new.looks ≡ 0)
  pub more : found ≡ founds.More → new.bytes ≡ waiting old.bytes
  pub none_whole : found ≡ founds.More → HasNoMessage Spells old.bytes.held
  pub waits : found ≡ founds.More → Waits old.bytes.held
  pub broken : found ≡ founds.Broken → new.bytes ≡ broken
  pub hopeless : found ≡ founds.Broken
      → IsTrue old.bytes.is_broken ⊎ IsHopeless Spells old.bytes.held
  pub stays : IsTrue old.bytes.is_broken → found ≡ founds.Broken
  pub no_memory : found ≡ founds.NoMemory → new.bytes ≡ old.bytes
  pub bound : length new.bytes.held ≤ most_held
  pub looks : LooksWithin old new
