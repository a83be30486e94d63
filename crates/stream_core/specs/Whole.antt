-- What the bytes of a connection are, and what is written for them.
use Rattle.std.specs.Prelude.{◌≢◌, ◌⊎◌, ℕ, ◌<◌, List, [], length, Option, Some, None, ⊤}
use Rattle.std.specs.List.{flat_map}
use Rattle.asp_base.specs.Outside.{IsAtEnd}
use Rattle.asp_messages.specs.declared.reply.Reply.{Reply}
use Rattle.asp_messages.specs.declared.request.Message.{Message}
use Rattle.asp_messages.specs.declared.request.Message.TheVariants.{Fit, Unfit}
use Rattle.asp_messages.specs.declared.request.Request.{Request}
use Rattle.asp_messages.specs.ReplyText.{reply_text}
use Rattle.asp_messages.specs.RequestSpelling.{SpellsRequest}
use Rattle.asp_messages.specs.Stream.{Spelled, IsHopeless}

-- the rest is no whole messages: it is not empty, and no bytes can follow that make a message of
-- it, or the input ended inside it
abbrev pub IsBroken : Option (List ℕ × List ℕ) → List ℕ → Type 0
IsBroken source rest = (rest ≢ []) × (IsHopeless SpellsRequest rest ⊎ IsAtEnd source)

-- the input is whole messages of fewer than so many bytes
abbrev pub IsWholeInput : Option (List ℕ × List ℕ) → ℕ → Type 0
IsWholeInput None most = ⊥
IsWholeInput (Some told) most =
    (length told.1 < most) × ((ms : List Message) × Spelled SpellsRequest told.1 ms [])

-- a fact of the request of a message that is one
abbrev pub IfFit : Message → (Request → Type 0) → Type 0
IfFit (Fit r) Fact = Fact r
IfFit Unfit Fact = ⊤

-- the canonical texts of the replies, in order
abbrev pub written : List Reply → List ℕ
written replies = flat_map (λ r. reply_text r) replies
