use Rattle.std.proofs.Common.{refl, ap, Err}
use Rattle.page_link.proofs.HearingLemmas.{hears-broken, hears-none}
use Rattle.page_link.proofs.hearing.hear.Goals as goal

pub returns-in-Broken-clause-none : goal.returns-in-Broken-clause-none
returns-in-Broken-clause-none g c =
    let run = c.loop-reply.invariant.0 in
    hears-broken (g.L.Link.told c.args.link.now) (g.L.Link.told c.loop-reply.link)
    c.args.reader.now.bytes c.loop-reply.reader.bytes run.0 run.1 run.2
    (c.in-Broken.ensures.hopeless refl)

pub returns-in-Err-clause-none : goal.returns-in-Err-clause-none
returns-in-Err-clause-none g c =
    let run = c.loop-reply.invariant.0 in
    let gave = c.in-Err.ensures.none in
    hears-none (g.L.Link.told c.args.link.now) (g.L.Link.told c.loop-reply.link)
    (g.L.Link.told c.receive_piece.new.link) c.args.reader.now.bytes
    c.loop-reply.reader.bytes run.0 gave.0
    c.in-Err.broken run.1 run.2
    (c.in-More.ensures.none_whole refl) gave.1 (λ e. c.in-Err.ensures.end (ap Err e))
