use Rattle.std.proofs.Common.{◌≡◌, ◌+◌, ◌≤◌, ◌++◌, length}
use Rattle.asp_messages.specs.Appending.{Extends}
use Rattle.session_listing.specs.Listing.{live_count, live_lines}
use Rattle.session_listing.proofs.listing.push_sessions.Given as goal

abbrev pub invariant-loop-key : goal.invariant-loop-key
invariant-loop-key l = record {
  lines : l.out.items ++ live_lines l.t l.key-iterator
      ≡ l.fn.out.items ++ live_lines l.t l.items.entries;
  count : l.count + live_count l.t l.key-iterator ≡ live_count l.t l.items.entries;
  few : l.count + length l.key-iterator ≤ length l.items.entries;
  kept : Extends l.fn.out.items l.out.items;
}
