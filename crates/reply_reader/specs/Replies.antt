-- What the head of a response means.
use Rattle.std.specs.Prelude.{◌≡◌, ℕ, ◌≤◌, List, [], ◌∷◌, length, take, map, Some}
use Rattle.httparse.specs.Grammar.{ResponseHead, status_code}
use Rattle.httparse.specs.declared.spans.HeaderSpan.{HeaderSpan}
use Rattle.httparse.specs.declared.spans.ResponseSpans.{ResponseSpans}
use Rattle.httparse.specs.Spans.{header_bytes, IsResponseWithin, IsResponseOf}
use Rattle.asp_messages.specs.declared.reply.Reply.{Reply}
use Rattle.asp_messages.specs.declared.reply.Reply.TheVariants as replies
use Rattle.asp_messages.specs.Fields.{response_fields, body_length}
use Rattle.asp_messages.specs.Head.{IsReplyHead, most_head}
use Rattle.asp_messages.specs.ReplySpelling.{StreamAnswer, reply, strange, answer_spelled, SpellsReply}
use Rattle.reply_reader.specs.declared.reply_kind.ReplyMessage.{ReplyMessage}
use Rattle.reply_reader.specs.declared.reply_kind.ReplyMessage.TheVariants as messages

-- The text is a head that announces a body of so many bytes.
pub record IsReplyAnnounced (text : List ℕ) (len : ℕ) : Type 0 where
  pub head : ResponseHead
  pub is_head : IsReplyHead text head
  pub announced : body_length (response_fields head) ≡ Some len

-- The text is a head, its parts lie at these spans, and its body has the length that it announces.
pub record IsReplyParsed (text : List ℕ) (headers : List HeaderSpan) (spans : ResponseSpans)
    (len : ℕ)
    : Type 0 where
  pub within : IsResponseWithin text headers spans
  pub of : IsResponseOf text headers spans
  pub whole : spans.len ≡ length text
  pub short : length text ≤ most_head
  pub room : length headers ≤ 64
  pub announced : body_length (map (header_bytes text) (take spans.headers headers)) ≡ Some len

-- the answer that a message is
abbrev pub answer_told : ReplyMessage → StreamAnswer
answer_told (messages.Reply r) = reply r
answer_told (messages.Strange status) = strange status

-- the bytes spell the answer that the message is
abbrev pub SpellsMessage : List ℕ → ReplyMessage → Type 0
SpellsMessage bytes m = SpellsReply bytes (answer_told m)

-- The text is a response head that announces this body, and they say the answer.
pub record MeansReply (text body : List ℕ) (m : ReplyMessage) : Type 0 where
  pub head : ResponseHead
  pub is_head : IsReplyHead text head
  pub announced : body_length (response_fields head) ≡ Some (length body)
  pub answer_is : answer_told m ≡ answer_spelled (status_code head) (response_fields head) body

-- a 200 without content: done, where there is no body
abbrev pub done_with : List ℕ → ReplyMessage
done_with [] = messages.Reply replies.Done
done_with (byte ∷ bytes) = messages.Strange 200

-- the reply with this body
abbrev pub filled_reply : Reply → List ℕ → ReplyMessage
filled_reply (replies.Found old minutes cookie first) body =
    messages.Reply (replies.Found body minutes cookie first)
filled_reply replies.Done body = done_with body
filled_reply (replies.Locked cookie age since) body =
    messages.Reply (replies.Locked cookie age since)
filled_reply replies.Missing body = messages.Reply replies.Missing
filled_reply replies.Bad body = messages.Reply replies.Bad
filled_reply replies.KeeperFault body = messages.Reply replies.KeeperFault
filled_reply replies.NoMemory body = messages.Reply replies.NoMemory
filled_reply replies.CookiesOut body = messages.Reply replies.CookiesOut
filled_reply replies.PlacesOut body = messages.Reply replies.PlacesOut

-- the message with this body
abbrev pub filled_reply_message : ReplyMessage → List ℕ → ReplyMessage
filled_reply_message (messages.Reply r) body = filled_reply r body
filled_reply_message (messages.Strange status) body = messages.Strange status
