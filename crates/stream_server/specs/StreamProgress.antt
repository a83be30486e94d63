-- Inside a stream: where it stands between two messages.
use Rattle.std.specs.Prelude.{◌≡◌, ℕ, ◌+◌, List, [], ◌∷◌, map, length, Option}
use Rattle.asp_base.specs.Outside.{Gives, Takes, TakesFront}
use Rattle.asp_base.specs.Limits.{most_input}
use Rattle.asp_messages.specs.declared.request.Message.{Message}
use Rattle.asp_messages.specs.declared.reply.Reply.{Reply}
use Rattle.asp_messages.specs.declared.reply.Reply.TheVariants as replies
use Rattle.asp_messages.specs.ReplyText.{reply_text}
use Rattle.asp_messages.specs.RequestSpelling.{SpellsRequest}
use Rattle.asp_messages.specs.Stream.{Spelled}
use Rattle.stream_core.specs.Whole.{written}
use Rattle.stream_server.specs.declared.door.StreamEnd.{StreamEnd}
use Rattle.stream_server.specs.declared.door.StreamEnd.TheVariants.{Broken, WriteFault}
use Rattle.stream_server.specs.Connections.{Wire}
use Rattle.stream_server.specs.Streams.{Caller, Exchange, Answers, FailsAtLast, replies_in}

-- One message was answered, and the sink took what is owed for it so.
pub record AnswersOne (Took : List ℕ → Type 0) (m : Message) (old new : Caller) : Type 0 where
  pub moment : ℕ
  pub reply : Reply
  pub took : Took (reply_text reply)
  pub answers : Answers old new (record { message = m; moment = moment; reply = reply } ∷ [])

-- The messages at the front of what was held were answered, and the sink took what is owed for
-- them so.
pub record AnswersHeld (Took : List ℕ → Type 0) (held rest : List ℕ)
    (old new : Caller) : Type 0 where
  pub exchanges : List Exchange
  pub spelled : Spelled SpellsRequest held (map (λ x. x.message) exchanges) rest
  pub took : Took (written (replies_in exchanges))
  pub answers : Answers old new exchanges

-- The messages at the front of what was held were answered, and the sink failed at the last of
-- them.
pub record AnswersInPart (sink sink' : Option (List ℕ)) (held rest : List ℕ)
    (old new : Caller) : Type 0 where
  pub exchanges : List Exchange
  pub spelled : Spelled SpellsRequest held (map (λ x. x.message) exchanges) rest
  pub took : FailsAtLast sink sink' exchanges
  pub answers : Answers old new exchanges

-- A stream up to now: so many bytes may still be taken, and these are held.
pub record Streaming (before now : Wire) (old new : Caller) (held : List ℕ)
    (left : ℕ) : Type 0 where
  pub bytes : List ℕ
  pub exchanges : List Exchange
  pub given : Gives before.source now.source bytes
  pub taken : Takes before.sink now.sink (written (replies_in exchanges))
  pub spelled : Spelled SpellsRequest bytes (map (λ x. x.message) exchanges) held
  pub answers : Answers old new exchanges
  pub left_is : length bytes + left ≡ most_input

-- the last `Bad` was written, or a front of it
abbrev pub EndsBadly : StreamEnd → Option (List ℕ) → Option (List ℕ) → Type 0
EndsBadly Broken sink sink' = Takes sink sink' (reply_text replies.Bad)
EndsBadly WriteFault sink sink' = TakesFront sink sink' (reply_text replies.Bad)
EndsBadly end sink sink' = ⊥
