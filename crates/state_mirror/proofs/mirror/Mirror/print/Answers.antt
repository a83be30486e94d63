use Rattle.session_listing.specs.Listing.{ListsSessions, sessions_text}
use Rattle.state_mirror.specs.Mirroring.{item_applied}
use Rattle.state_mirror.proofs.MirrorLemmas.{items_of, with_fact}
use Rattle.state_mirror.proofs.mirror.Mirror.print.Goals as goal

pub returns-clause-ok : goal.returns-clause-ok
returns-clause-ok c = λ text list has.
    let inside = c.self.inside in
    let items = c.map.result.now.entries in
    with_fact c.list_sessions.result c.args.out.now.items c.list_sessions.new.out.items
    (sessions_text c.args.t items) (ListsSessions c.args.t (item_applied c.args.self.now list))
    c.list_sessions.ensures.ok
    (c.list_sessions.ensures.lists (item_applied c.args.self.now list)
    (items_of inside.reader inside.checker inside.may_feed c.args.self.now c.self.view_is items
    c.map.ensures.map text list has))
