use Rattle.std.proofs.Common.{◌++◌, refl}
use Rattle.asp_messages.specs.ReplyText.{reply_text}
use Rattle.asp_messages.proofs.SentReplyLemmas.{reply_spelled}
use Rattle.asp_messages.proofs.ReplyLemmas.{SpellsReply-unique}
use Rattle.asp_messages.proofs.wire.reply_round_trip.Goals as goal

pub returns-clause-spelled : goal.returns-clause-spelled
returns-clause-spelled c r fits = reply_spelled r fits

pub returns-clause-first : goal.returns-clause-first
returns-clause-first c r more front back a fits is spells =
    SpellsReply-unique (reply_text r ++ more) front back (reply_text r) more a _ is spells refl
    (reply_spelled r fits)
