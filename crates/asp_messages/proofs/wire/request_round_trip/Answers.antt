use Rattle.std.proofs.Common.{◌++◌, refl}
use Rattle.asp_messages.specs.RequestText.{request_text}
use Rattle.asp_messages.proofs.SentRequestLemmas.{request_spelled}
use Rattle.asp_messages.proofs.RequestLemmas.{SpellsRequest-unique}
use Rattle.asp_messages.proofs.wire.request_round_trip.Goals as goal

pub returns-clause-spelled : goal.returns-clause-spelled
returns-clause-spelled c r fits bytes = request_spelled r fits bytes

pub returns-clause-first : goal.returns-clause-first
returns-clause-first c r more front back m fits bytes is spells =
    SpellsRequest-unique (request_text r ++ more) front back (request_text r) more m _ is spells
    refl (request_spelled r fits bytes)
