use Rattle.std.proofs.Common.{◌≡◌, inr, sym, ap, subst, ◌∙◌, take, drop, arith, ◌≤◌, Some, take-append-drop, length-drop, length}
use Rattle.std.proofs.lemmas.List.{take_all}
use Rattle.message_framing.specs.declared.head.Phase.TheVariants.{Blank}
use Rattle.message_framing.specs.Framed.{GivesMessage}
use Rattle.message_framing.specs.HeadEnd.{phase_after}
use Rattle.message_framing.proofs.ReaderLemmas.{unseen-none, unseen-hopeless, short-none, begun-same, gives}
use Rattle.message_framing.proofs.message_reader.give.Goals as goal

pub returns-then-len-clause-none_whole : goal.returns-then-len-clause-none_whole
returns-then-len-clause-none_whole g c = λ _.
    let held = c.args.held.now in
    let n = c.in-Looking.len in
    let kind = g.K.MessageKind in
    let laws = g.met.K.MessageKind in
    let stands = rw c.in-Looking.is at c.requires.stands in
    let past = rw c.in-Looking.is at c.requires.past in
    let all : length held ≤ n = omega arith in
    let so : phase_after Blank held ≡ Some c.in-Looking.field-1 =
    ap (phase_after Blank) (sym (take_all n held all)) ∙ stands.seen_so in
    unseen-none kind.IsHead kind.Means kind.filled laws.ends laws.fits held c.in-Looking.field-1 so

pub returns-in-Looking-clause-hopeless : goal.returns-in-Looking-clause-hopeless
returns-in-Looking-clause-hopeless g c = λ _.
    let kind = g.K.MessageKind in
    let laws = g.met.K.MessageKind in
    let stands = rw c.in-Looking.is at c.requires.stands in
    rw c.in-Looking.is (inr (unseen-hopeless kind.IsHead kind.Means kind.filled laws.ends
    laws.fits c.args.held.now c.in-Looking.len c.in-Looking.field-1 stands c.if-len.false))

pub returns-then-len-wanted-clause-none_whole : goal.returns-then-len-wanted-clause-none_whole
returns-then-len-wanted-clause-none_whole g c = λ _.
    let kind = g.K.MessageKind in
    let laws = g.met.K.MessageKind in
    let stands = rw c.in-Read.is at c.requires.stands in
    short-none kind.IsHead kind.Means kind.filled laws.ends laws.fits c.args.held.now
    c.in-Read.len c.in-Read.begun stands (omega (arith, stands.ended.within))

pub returns-then-len-wanted-clause-waits : goal.returns-then-len-wanted-clause-waits
returns-then-len-wanted-clause-waits g c = λ _.
    let kind = g.K.MessageKind in
    let laws = g.met.K.MessageKind in
    let held = c.args.held.now in
    let n = c.in-Read.len in
    let stands = rw c.in-Read.is at c.requires.stands in
    subst kind.Waits (take-append-drop n held)
    (laws.waits_for_body (take n held) (drop n held) c.in-Read.begun.body_len stands.is_head
    (omega (arith, stands.ended.within, length-drop n held)))

pub returns-in-Read-replace-clause-message : goal.returns-in-Read-replace-clause-message
returns-in-Read-replace-clause-message g c =
    let kind = g.K.MessageKind in
    let held = c.args.held.now in
    let n = c.in-Read.len in
    let begun = c.in-Read.begun in
    let stands = rw c.in-Read.is at c.requires.stands in
    let same : c.in-Read-replace.begun ≡ begun =
    begun-same c.in-Read-replace.field-0 n c.in-Read-replace.begun begun
    (sym c.in-Read-replace.is ∙ c.replace.ensures.value) in (
      subst (λ state. GivesMessage kind.Means state held c.split.new.self c.fill.result)
          (sym c.in-Read.is)
          (gives kind.IsHead kind.Means kind.filled held c.in-Ok.body c.split.new.self n begun
          c.fill.result stands (omega (arith, stands.ended.within)) c.in-Ok.ensures.body
          c.in-Ok.ensures.left
          (c.fill.ensures ∙ ap (λ b. kind.filled b.message c.in-Ok.body) same)),
      c.replace.ensures.after,
    )
