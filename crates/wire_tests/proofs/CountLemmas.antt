-- What a reader looked at when it gave a message.
use Rattle.std.proofs.Common.{◌≡◌, ℕ, ◌+◌, ◌*◌, ◌≤◌, List, [], ◌++◌, length, refl, sym, ap, subst, ◌∙◌, arith}
use Rattle.std.proofs.lemmas.List.{length-append}
use Rattle.asp_messages.specs.declared.request.Ask.{Ask}
use Rattle.asp_messages.specs.declared.request.Ask.TheVariants.{Read, Acquire, Release, Write, Remove, Reset}
use Rattle.asp_messages.specs.declared.request.Message.{Message}
use Rattle.asp_messages.specs.declared.request.Message.TheVariants.{Fit, Unfit}
use Rattle.asp_messages.specs.Fields.{request_fields}
use Rattle.asp_messages.specs.RequestSpelling.{message_of}
use Rattle.asp_messages.specs.RequestText.{content_of}
use Rattle.message_framing.specs.Framed.{TakesFramed}
use Rattle.message_framing.specs.ReaderState.{CountedReader}
use Rattle.request_reader.specs.Requests.{MeansRequest, filled_message, filled_ask}
use Rattle.request_reader.specs.RequestLaws.{message-filled}
use Rattle.wire_tests.specs.Counts.{content, LooksTwice}

ask-content : (ask : Ask) (body : List ℕ) → length (content_of (filled_ask ask body)) ≤ length body
ask-content Read body = omega arith
ask-content Acquire body = omega arith
ask-content (Release cookie) body = omega arith
ask-content (Write old minutes fresh cookie) body = omega arith
ask-content (Remove cookie) body = omega arith
ask-content Reset body = omega arith

filled_message-content : (m : Message) (body : List ℕ)
    → length (content (filled_message m body)) ≤ length body
filled_message-content (Fit request) body = ask-content request.ask body
filled_message-content Unfit body = omega arith

-- the content of a message is no longer than the body behind its head
pub looks-twice : (old new : CountedReader) (ticks : ℕ) (m : Message)
    → TakesFramed MeansRequest old new ticks m → LooksTwice old new ticks (length (content m))
looks-twice old new ticks m took =
    let said = took.means in
    let short : length (content m) ≤ length took.body =
    subst (λ k. length (content k) ≤ length took.body)
    (message-filled said.head.method said.head.target (request_fields said.head) took.body
    ∙ sym said.message_is)
    (filled_message-content
    (message_of said.head.method said.head.target (request_fields said.head) [])
    took.body) in
    let held = ap length took.held ∙ length-append (took.text ++ took.body) new.bytes.held in
    let front = length-append took.text took.body in
    omega (arith, short, held, front, took.counted, took.forgotten)
