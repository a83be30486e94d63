use Rattle.asp_messages.specs.Fields.{request_fields}
use Rattle.asp_messages.specs.Head.{IsRequestHead}
use Rattle.asp_messages.proofs.FramingLemmas.{waiting-short}
use Rattle.asp_messages.proofs.laws.waiting_is_short.Goals as goal

pub returns : goal.returns
returns c = λ bytes. waiting-short IsRequestHead request_fields bytes (λ front head h. h.short)
