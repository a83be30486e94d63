use Rattle.asp_messages.proofs.ReplyLemmas.{waiting_reply-short}
use Rattle.asp_messages.proofs.wire.waiting_reply_is_short.Goals as goal

pub returns : goal.returns
returns c = waiting_reply-short
