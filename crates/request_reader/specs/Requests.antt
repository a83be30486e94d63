-- What the head of a request means.
use Rattle.std.specs.Prelude.{◌≡◌, ℕ, List, length, Some}
use Rattle.httparse.specs.Grammar.{RequestHead}
use Rattle.asp_messages.specs.declared.request.Ask.{Ask}
use Rattle.asp_messages.specs.declared.request.Ask.TheVariants.{Read, Acquire, Release, Write, Remove, Reset}
use Rattle.asp_messages.specs.declared.request.Message.{Message}
use Rattle.asp_messages.specs.declared.request.Message.TheVariants.{Fit, Unfit}
use Rattle.asp_messages.specs.Fields.{request_fields, body_length}
use Rattle.asp_messages.specs.Head.{IsRequestHead}
use Rattle.asp_messages.specs.RequestSpelling.{message_of}

-- The text is a request head that announces this body, and they say the message.
pub record MeansRequest (text body : List ℕ) (m : Message) : Type 0 where
  pub head : RequestHead
  pub is_head : IsRequestHead text head
  pub announced : body_length (request_fields head) ≡ Some (length body)
  pub message_is : m ≡ message_of head.method head.target (request_fields head) body

-- the ask with this body
abbrev pub filled_ask : Ask → List ℕ → Ask
filled_ask (Write old minutes fresh cookie) body = Write body minutes fresh cookie
filled_ask Read body = Read
filled_ask Acquire body = Acquire
filled_ask (Release cookie) body = Release cookie
filled_ask (Remove cookie) body = Remove cookie
filled_ask Reset body = Reset

-- the message with this body
abbrev pub filled_message : Message → List ℕ → Message
filled_message (Fit request) body =
    Fit (record { key = request.key; ask = filled_ask request.ask body })
filled_message Unfit body = Unfit
