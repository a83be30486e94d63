-- The head of a message, by the grammar that `httparse` publishes (RFC 7230, section 3).
use Rattle.std.specs.Prelude.{ℕ, ◌≤◌, List, [], length}
use Rattle.httparse.specs.Grammar.{RequestHead, ReadsRequest, ResponseHead, ReadsResponse}

-- the most bytes of a head
abbrev pub most_head : ℕ
most_head = 8192

-- the most fields of a head
abbrev pub most_fields : ℕ
most_fields = 64

-- The bytes are a request head of the grammar, of at most 8,192 bytes and 64 fields.
pub record IsRequestHead (bytes : List ℕ) (head : RequestHead) : Type 0 where
  pub reads : ReadsRequest bytes head []
  pub short : length bytes ≤ most_head
  pub few : length head.fields ≤ most_fields

-- The bytes are a response head of the grammar, in the same limits.
pub record IsReplyHead (bytes : List ℕ) (head : ResponseHead) : Type 0 where
  pub reads : ReadsResponse bytes head []
  pub short : length bytes ≤ most_head
  pub few : length head.fields ≤ most_fields
