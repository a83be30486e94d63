use Rattle.std.proofs.Common.{◌≡◌, inr, sym, subst, take, drop, refl, take-append-drop}
use Rattle.asp_messages.specs.Stream.{IsHopeless}
use Rattle.message_framing.specs.Framed.{Framed}
use Rattle.message_framing.proofs.ReaderLemmas.{unread-hopeless}
use Rattle.message_framing.proofs.message_reader.read.Goals as goal

pub returns-in-None-clause-hopeless : goal.returns-in-None-clause-hopeless
returns-in-None-clause-hopeless g c = λ _.
    let held = c.args.held.now in
    let n = c.in-Ended.len in
    let kind = g.K.MessageKind in
    let laws = g.met.K.MessageKind in
    let stands = rw c.in-Ended.is at c.requires.stands in
    let text : c.front.result.now ≡ take n held = c.front.ensures.bytes in
    let none = c.in-None.ensures.none refl in
    rw c.in-Ended.is (inr (subst (IsHopeless (Framed kind.Means)) (take-append-drop n held)
    (unread-hopeless kind.IsHead kind.Means kind.filled laws.ends laws.fits (take n held)
    (drop n held) stands.ends (λ body m means. none body m
    (subst (λ t. kind.Means t body m) (sym text) means)))))
