use Rattle.std.proofs.Common.{◌≡◌, ◌+◌, length}
use Rattle.journal_shelf.proofs.shelf.Shelf.new.Given as goal

abbrev pub invariant-sinks : goal.invariant-sinks
invariant-sinks g l =
    length l.orders.items + length l.sink-iterator.rest.items ≡ length l.fn.sinks.items
