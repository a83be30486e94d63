use Rattle.asp_messages.specs.ReplySpelling.{SpellsReply}
use Rattle.asp_messages.proofs.ReplyLemmas.{SpellsReply-unique}
use Rattle.asp_messages.proofs.StreamLemmas.{IsMessageStream-unique}
use Rattle.asp_messages.proofs.wire.one_reply_stream.Goals as goal

pub returns : goal.returns
returns c = IsMessageStream-unique SpellsReply SpellsReply-unique
