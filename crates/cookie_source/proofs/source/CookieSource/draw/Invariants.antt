use Rattle.std.proofs.Common.{◌≡◌, ◌≤◌}
use Rattle.cookie_source.specs.Source.{first_of, drawer_home, drawn_by, word_seen}
use Rattle.cookie_source.proofs.source.CookieSource.draw.Given as goal

abbrev pub invariant-loop : goal.invariant-loop
invariant-loop g l = record {
  home : drawer_home l.drawer ≡ drawer_home l.initial.drawer;
  drawn : drawn_by l.drawer ≡ drawn_by l.initial.drawer;
  seen : word_seen l.drawer ≡ l.found;
  from_first : first_of l.self ≤ l.found;
  never_falls : word_seen l.initial.drawer ≤ l.found;
  rises : l.counter ≤ l.found;
}
