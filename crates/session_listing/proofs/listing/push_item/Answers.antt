use Rattle.std.proofs.Common.{ap, ◌∙◌, ◌++◌}
use Rattle.asp_messages.proofs.AppendLemmas.{Extends-text, failed_behind}
use Rattle.session_listing.specs.Listing.{item_line, line_behind, line_start}
use Rattle.session_listing.proofs.ListingLemmas.{behind_more, on_ok_same}
use Rattle.session_listing.proofs.listing.push_item.Goals as goal

pub returns-clause-ok : goal.returns-clause-ok
unfolding item_line
returns-clause-ok c =
    let old = c.args.out.now.items in
    let start = line_start c.args.key.now c.args.item.now.holder in
    on_ok_same c.then_item.result _ _ (old ++ line_behind start c.args.item.now)
    c.then_item.ensures.ok
    (ap (λ text. line_behind text c.args.item.now) c.in_ok-push_start.ensures.ok
    ∙ behind_more old start c.args.item.now)

pub returns-clause-err : goal.returns-clause-err
returns-clause-err c =
    failed_behind c.then_item.result _ _ _
    (Extends-text _ _ (line_start c.args.key.now c.args.item.now.holder)
    c.in_ok-push_start.ensures.ok) c.then_item.ensures.err
