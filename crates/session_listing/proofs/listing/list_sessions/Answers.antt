use Rattle.std.proofs.Common.{refl}
use Rattle.session_listing.proofs.listing.list_sessions.Goals as goal

pub returns-clause-lists : goal.returns-clause-lists
returns-clause-lists c = λ at each. record {
  items = c.args.items.now.entries;
  ordered = c.push_sessions-written.ensures.ordered;
  each = each;
  text_is = refl;
}
