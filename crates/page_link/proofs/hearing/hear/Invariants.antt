use Rattle.std.proofs.Common.{◌≡◌, ◌≤◌, ℕ, List, length, ◌-◌}
use Rattle.message_framing.specs.ReaderState.{most_held}
use Rattle.page_link.specs.Links.{Receives}
use Rattle.page_link.specs.Exchanges.{IsFed}
use Rattle.page_link.proofs.hearing.hear.Given as goal

abbrev pub invariant-loop-reply : goal.invariant-loop-reply
invariant-loop-reply g l =
    ((received : List ℕ) × Receives (g.L.Link.told l.initial.link) (g.L.Link.told l.link) received
    × IsFed l.initial.reader.bytes l.reader.bytes received)
    × (g.L.Link.faults l.initial.link ≤ g.L.Link.faults l.link)
    × (g.L.Link.pauses l.link ≡ g.L.Link.pauses l.initial.link)

abbrev pub decreases-loop-reply : goal.decreases-loop-reply
decreases-loop-reply g l = most_held - length l.reader.bytes.held
