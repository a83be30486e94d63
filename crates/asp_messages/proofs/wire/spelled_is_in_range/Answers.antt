use Rattle.asp_messages.proofs.ReplyLemmas.{spelled_reply-fits}
use Rattle.asp_messages.proofs.RequestLemmas.{spelled_fits}
use Rattle.asp_messages.proofs.wire.spelled_is_in_range.Goals as goal

pub returns-clause-requests : goal.returns-clause-requests
returns-clause-requests c = spelled_fits

pub returns-clause-replies : goal.returns-clause-replies
returns-clause-replies c = spelled_reply-fits
