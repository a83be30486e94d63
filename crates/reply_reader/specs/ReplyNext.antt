-- What a reader of replies answers.
use Rattle.std.specs.Prelude.{◌≡◌, ℕ, ◌+◌, ◌≤◌, ◌*◌, length, ⊤}
use Rattle.asp_messages.specs.ReplySpelling.{StreamAnswer, reply, strange, SpellsReply}
use Rattle.message_framing.specs.ReaderState.{CountedReader, TakesMessage}
use Rattle.reply_reader.specs.declared.reply_reader.ReplyNext.{ReplyNext}
use Rattle.reply_reader.specs.declared.reply_reader.ReplyNext.TheVariants as nexts

-- a fact of the message that a reader gave
abbrev pub IfMessage : ReplyNext → (StreamAnswer → Type 0) → Type 0
IfMessage (nexts.Reply r) P = P (reply r)
IfMessage (nexts.Strange status) P = P (strange status)
IfMessage nexts.More P = ⊤
IfMessage nexts.Broken P = ⊤
IfMessage nexts.NoMemory P = ⊤

-- a fact where a reader gave no message
abbrev pub UnlessMessage : ReplyNext → Type 0 → Type 0
UnlessMessage (nexts.Reply r) P = ⊤
UnlessMessage (nexts.Strange status) P = ⊤
UnlessMessage nexts.More P = P
UnlessMessage nexts.Broken P = P
UnlessMessage nexts.NoMemory P = P

-- A message was taken from the front of the bytes held. Each byte of its head was looked at twice
-- at most, in so many looks of this call and those before it.
pub record TakesReplyCounted (old new : CountedReader) (ticks : ℕ)
    (answer : StreamAnswer) : Type 0 where
  pub taken : TakesMessage SpellsReply old.bytes new.bytes answer
  pub counted : ticks + old.looks ≤ 2 * length taken.spells.framed.front
  pub forgotten : new.looks ≡ 0
