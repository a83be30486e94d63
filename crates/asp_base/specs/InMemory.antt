-- The source and the sink in memory, as contracts see them.
use Rattle.std.specs.Prelude.{◌≡◌, ℕ, ◌+◌, ◌-◌, ◌^◌, ◌<◌, ◌⊎◌, List, length, min, Contains}

-- A source: the bytes given and left, the most bytes of a read, how many reads were made, which of
-- them fail, and how many did.
pub record SourceInMemory : Type 0 where
  pub given : List ℕ
  pub left : List ℕ
  pub piece : ℕ
  pub calls : ℕ
  pub fails : List ℕ
  pub faults : ℕ

-- A sink: the bytes taken, how many more it has room for, the most bytes of a write, how many
-- writes were made, which of them fail, and how many did.
pub record SinkInMemory : Type 0 where
  pub taken : List ℕ
  pub room : ℕ
  pub piece : ℕ
  pub calls : ℕ
  pub fails : List ℕ
  pub faults : ℕ

-- A source that never fails: the bytes given and left, and the most bytes of a read.
pub record SureText : Type 0 where
  pub given : List ℕ
  pub left : List ℕ
  pub piece : ℕ

-- one more, up to the last value of a `u64`
abbrev pub counted_once_more : ℕ → ℕ
counted_once_more n = min (n + 1) (2 ^ 64 - 1)

-- how many bytes a read gives that does not fail
abbrev pub read_count : SourceInMemory → List ℕ → ℕ
read_count source buf = min (min (length buf) source.piece) (length source.left)

-- how many bytes a write takes that does not fail
abbrev pub write_count : SinkInMemory → List ℕ → ℕ
write_count sink piece = min (min (length piece) sink.piece) sink.room

-- the write is a listed one, or there is no room for any of its bytes
abbrev pub FailsWrite : SinkInMemory → List ℕ → Type 0
FailsWrite sink piece = Contains sink.fails sink.calls
    ⊎ ((write_count sink piece ≡ 0) × (0 < length piece))
