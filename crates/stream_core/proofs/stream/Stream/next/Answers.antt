use Rattle.std.proofs.Common.{subst, ap}
use Rattle.asp_messages.specs.RequestSpelling.{SpellsRequest}
use Rattle.asp_messages.specs.Stream.{HasNoMessage, IsHopeless}
use Rattle.std.specs.Prelude.{◌⊎◌, IsTrue}
use Rattle.message_framing.specs.ReaderState.{ReaderState}
use Rattle.stream_core.specs.Connection.{Connection}
use Rattle.stream_core.proofs.stream.Stream.next.Goals as goal

pub returns-clause-none_whole : goal.returns-clause-none_whole
returns-clause-none_whole c = λ is.
    subst (HasNoMessage SpellsRequest) (ap (λ (s : Connection). s.reader.held) c.self.view_is)
    (c.next.ensures.none_whole is)

pub returns-clause-hopeless : goal.returns-clause-hopeless
returns-clause-hopeless c = λ is.
    subst (λ (r : ReaderState). IsTrue r.is_broken ⊎ IsHopeless SpellsRequest r.held)
    (ap (λ (s : Connection). s.reader) c.self.view_is) (c.next.ensures.hopeless is)
