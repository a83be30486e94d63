use Rattle.std.proofs.Common.{◌≡◌, ◌≤◌, false}
use Rattle.page_link.specs.Exchanges.{VisitIsUnderway}
use Rattle.page_link.proofs.whole_visit.run_visit.Given as goal

abbrev pub invariant-loop : goal.invariant-loop
invariant-loop g l =
    (goal.iterator-loop g).can_next l.iterator'
    × (goal.iterator-loop g).is_finite l.iterator'
    × VisitIsUnderway l.fn.ending (record {
      visit = l.fn.visit;
      link = g.L.Link.told l.fn.link;
      pauses = g.L.Link.pauses l.fn.link;
      clock =
          g.C.Clock.told l.fn.clock;
    })
    (record {
      visit = l.visit;
      link = g.L.Link.told l.link;
      pauses = g.L.Link.pauses l.link;
      clock = g.C.Clock.told l.clock;
    })
    l.ending l.client.reader.bytes.held
    × (l.client.reader.bytes.is_broken ≡ false)
    × (g.L.Link.faults l.fn.link ≤ g.L.Link.faults l.link)
