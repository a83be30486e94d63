use Rattle.std.proofs.Common.{subst}
use Rattle.std.specs.Prelude.{IfSome}
use Rattle.std.specs.Map.Iter.{deref_pair}
use Rattle.std.proofs.lemmas.Cmp.{nat_list_cmp_total}
use Rattle.std.proofs.lemmas.Map.Iter.{btree_map_turn}
use Rattle.session_machine.specs.Liveness.{ItemFits}
use Rattle.session_listing.proofs.listing.push_sessions.Goals as goal

pub push_live-requires : goal.push_live-requires
push_live-requires c =
    let given = c.into_iter-key-iterator.ensures.into_iter_gives in
    let turn = btree_map_turn deref_pair c.loop-key.yielded c.into_iter-key-iterator.result
    c.loop-key.key-iterator c.next.new.self c.next.result (c.in-Some.key, c.in-Some.item)
    c.loop-key.yielded_by c.in-Some.is c.next.ensures.steps nat_list_cmp_total c.args.items.now
    given.0 given.5 in
    subst (λ found. IfSome found ItemFits) turn.1 (c.requires c.in-Some.key.now)
