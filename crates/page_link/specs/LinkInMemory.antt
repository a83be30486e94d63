-- The link in memory, as contracts see it.
use Rattle.std.specs.Prelude.{ℕ, ◌<◌, ◌⊎◌, List, length, min, Contains}

-- A link: the bytes sent, how many more it has room for, the bytes to be received and the most of
-- them in a receipt, how many sends and receipts were made, which of them fail, and how many did;
-- the moments of the pauses that it kept, and how many more it has room for.
pub record LinkInMemory : Type 0 where
  pub sent : List ℕ
  pub room : ℕ
  pub incoming : List ℕ
  pub piece : ℕ
  pub sends : ℕ
  pub receipts : ℕ
  pub send_fails : List ℕ
  pub receive_fails : List ℕ
  pub faults : ℕ
  pub pauses : List ℕ
  pub pause_room : ℕ

-- how many bytes a receipt gives that does not fail
abbrev pub receipt_count : LinkInMemory → List ℕ → ℕ
receipt_count link buf = min (min (length buf) link.piece) (length link.incoming)

-- the send is a listed one, or there is no room for the whole piece
abbrev pub FailsSend : LinkInMemory → List ℕ → Type 0
FailsSend link piece = Contains link.send_fails link.sends ⊎ (link.room < length piece)
