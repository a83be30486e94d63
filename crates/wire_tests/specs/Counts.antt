-- How often a reader looks at the bytes of heads.
use Rattle.std.specs.Prelude.{ℕ, ◌+◌, ◌*◌, ◌≤◌, List, [], length}
use Rattle.asp_messages.specs.declared.request.Message.{Message}
use Rattle.asp_messages.specs.declared.request.Message.TheVariants.{Fit, Unfit}
use Rattle.asp_messages.specs.RequestText.{content_of}
use Rattle.message_framing.specs.ReaderState.{CountedReader}

-- the content that a message brings
abbrev pub content : Message → List ℕ
content (Fit request) = content_of request.ask
content Unfit = []

-- the looks, with those before, are at most twice the bytes that were taken but for those of
-- content, with the looks at those that are held
abbrev pub LooksTwice : CountedReader → CountedReader → ℕ → ℕ → Type 0
LooksTwice old new ticks content =
    ticks + old.looks + 2 * (content + length new.bytes.held)
    ≤ new.looks + 2 * length old.bytes.held
