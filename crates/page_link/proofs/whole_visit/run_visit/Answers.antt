use Rattle.std.proofs.Common.{◌≤◌, ℕ, Some, ap, arith}
use Rattle.message_framing.specs.ReaderState.{ReaderState}
use Rattle.asp_base.specs.Causes.{Rose}
use Rattle.page_link.specs.Visits.{Scene}
use Rattle.page_link.proofs.TurnLemmas.{may_turn, not_begun}
use Rattle.page_link.proofs.VisitLemmas.{complete}
use Rattle.page_link.proofs.whole_visit.run_visit.Goals as goal

rise : (a b c : ℕ) → a ≤ b → Rose b c → Rose a c
rise a b c later rose = omega (arith, later, rose)

pub loop-init : goal.loop-init
loop-init g c = (
  tt,
  tt,
  not_begun c.args.ending c.args.visit.now (g.L.Link.told c.args.link.now)
      (g.L.Link.pauses c.args.link.now)
      (g.C.Clock.told c.args.clock.now) c.new-client.result.reader.bytes.held c.requires.new
      (ap (λ (h : ReaderState). h.held) c.new-client.ensures),
  ap (λ (h : ReaderState). h.is_broken) c.new-client.ensures,
  omega arith,
)

pub take_turn-requires-clause-may_turn : goal.take_turn-requires-clause-may_turn
take_turn-requires-clause-may_turn g c =
    let before : Scene = record {
      visit = c.args.visit.now;
      link = g.L.Link.told c.args.link.now;
      pauses = g.L.Link.pauses c.args.link.now;
      clock = g.C.Clock.told c.args.clock.now;
    } in
    let now : Scene = record {
      visit = c.loop.visit;
      link = g.L.Link.told c.loop.link;
      pauses = g.L.Link.pauses c.loop.link;
      clock =
          g.C.Clock.told c.loop.clock;
    } in
    may_turn c.args.ending before now c.loop.ending c.loop.client.reader.bytes.held
    c.loop.invariant.2 c.requires.fits

pub returns-in-Some-take_turn-clause-complete : goal.returns-in-Some-take_turn-clause-complete
returns-in-Some-take_turn-clause-complete g c tells kept =
    let before : Scene = record {
      visit = c.args.visit.now;
      link = g.L.Link.told c.args.link.now;
      pauses = g.L.Link.pauses c.args.link.now;
      clock = g.C.Clock.told c.args.clock.now;
    } in
    let after : Scene = record {
      visit = c.take_turn.new.visit;
      link =
          g.L.Link.told c.take_turn.new.link;
      pauses = g.L.Link.pauses c.take_turn.new.link;
      clock = g.C.Clock.told c.take_turn.new.clock;
    } in
    complete c.args.ending before after c.in-Some-take_turn.end
    (c.in-Some-take_turn.ensures.end c.args.ending before c.loop.invariant.2) tells
    (λ over. kept (rise (g.L.Link.faults c.args.link.now) (g.L.Link.faults c.loop.link)
    (g.L.Link.faults c.take_turn.new.link) c.loop.invariant.4
    (c.in-Some-take_turn.ensures.lost (ap Some over))))
