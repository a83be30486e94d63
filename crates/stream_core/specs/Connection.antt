-- A connection, as its callers see it.
use Rattle.std.specs.Prelude.{◌≡◌, [], IsFalse}
use Rattle.message_framing.specs.ReaderState.{ReaderState}

-- A connection: its reader, with the bytes that were not taken yet.
pub record Connection : Type 0 where
  pub reader : ReaderState

-- all bytes were whole messages that were taken: the reader is not broken and holds no byte
abbrev pub IsFinished : Connection → Type 0
IsFinished c = IsFalse c.reader.is_broken × (c.reader.held ≡ [])
