-- The bytes that a reader holds, as its callers see it.
use Rattle.std.specs.Prelude.{◌≡◌, ℕ, ◌+◌, Bool, true, false, List, [], ◌++◌, if◌then◌else◌}
use Rattle.asp_base.specs.Limits.{most_piece}
use Rattle.asp_messages.specs.Fields.{most_body}
use Rattle.asp_messages.specs.Head.{most_head}

-- A reader: the bytes that it holds, whether it is broken, and whether it may be fed.
pub record ReaderState : Type 0 where
  pub held : List ℕ
  pub is_broken : Bool
  pub may_feed : Bool

-- A reader, and how often it looked at a byte of the message that it holds.
pub record CountedReader : Type 0 where
  pub bytes : ReaderState
  pub looks : ℕ

-- the most bytes that a reader holds: a head, a body and a piece
abbrev pub most_held : ℕ
most_held = most_head + most_body + most_piece

-- a reader that was fed nothing
abbrev pub empty_reader : ReaderState
empty_reader = record { held = []; is_broken = false; may_feed = true }

-- with one piece more; a broken reader keeps nothing
abbrev pub fed : ReaderState → List ℕ → ReaderState
fed old piece = record {
  held = if old.is_broken then [] else old.held ++ piece;
  is_broken = old.is_broken;
  may_feed = false;
}

-- that waits for more bytes
abbrev pub waiting : ReaderState → ReaderState
waiting old = record old { may_feed = true }

-- that is broken for good
abbrev pub broken : ReaderState
broken = record { held = []; is_broken = true; may_feed = true }

-- Bytes that spell a message were taken from the front of those held, and nothing else changed.
pub record TakesMessage {M : Type 0} (Spells : List ℕ → M → Type 0) (old new : ReaderState) (m : M)
    : Type 0 where
  pub front : List ℕ
  pub spells : Spells front m
  pub held : old.held ≡ front ++ new.held
  pub whole : new.is_broken ≡ old.is_broken
