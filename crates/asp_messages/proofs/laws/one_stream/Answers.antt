use Rattle.asp_messages.specs.RequestSpelling.{SpellsRequest}
use Rattle.asp_messages.proofs.RequestLemmas.{SpellsRequest-unique}
use Rattle.asp_messages.proofs.StreamLemmas.{IsMessageStream-unique}
use Rattle.asp_messages.proofs.laws.one_stream.Goals as goal

pub returns : goal.returns
returns c = IsMessageStream-unique SpellsRequest SpellsRequest-unique
