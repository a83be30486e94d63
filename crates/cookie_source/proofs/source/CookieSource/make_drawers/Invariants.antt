use Rattle.std.proofs.Common.{◌≡◌, ◌+◌, length, All, []}
use Rattle.cookie_source.specs.Counter.{new_drawer}
use Rattle.cookie_source.specs.Source.{first_of, IsNewDrawer}
use Rattle.cookie_source.proofs.source.CookieSource.make_drawers.Given as goal

abbrev pub invariant-loop : goal.invariant-loop
invariant-loop l = record {
  home : l.seat.table_id ≡ l.self.table.shared.table_id;
  seat : l.seat.me ≡ (new_drawer (first_of l.self), []);
  count : length l.drawers.items + 1 ≡ l.counter;
  new : All (IsNewDrawer l.self) l.drawers.items;
}
