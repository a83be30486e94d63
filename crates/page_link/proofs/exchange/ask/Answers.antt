use Rattle.std.proofs.Common.{◌≡◌, List, ℕ, ◌++◌, ◌∙◌, ap}
use Rattle.asp_messages.specs.RequestText.{request_text}
use Rattle.page_link.proofs.LinkLemmas.{sent_front}
use Rattle.page_link.proofs.exchange.ask.Goals as goal

pub returns-in-Err-send-clause-none : goal.returns-in-Err-send-clause-none
returns-in-Err-send-clause-none g c =
    let text : c.as_slice.result.now ≡ request_text c.args.request.now =
    c.as_slice.ensures.value ∙ c.in_default.ensures.ok
    ∙ ap (λ (l : List ℕ). l ++ request_text c.args.request.now) c.clear.ensures.items in
    sent_front (g.L.Link.told c.args.link.now) (g.L.Link.told c.send.new.self) c.as_slice.result.now
    (request_text c.args.request.now) text c.in-Err-send.ensures.sends
