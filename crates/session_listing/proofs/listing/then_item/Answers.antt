use Rattle.asp_messages.proofs.AppendLemmas.{Extends-trans, failed_behind}
use Rattle.session_listing.proofs.ListingLemmas.{Extends-two}
use Rattle.session_listing.proofs.listing.then_item.Goals as goal

pub returns-clause-err : goal.returns-clause-err
returns-clause-err c =
    failed_behind c.end_line.result _ _ _
    (Extends-trans _ _ _ (Extends-two _ _ _ _ c.in_ok-then_life.ensures.ok)
    (Extends-two _ _ _ _ c.in_ok-then_moments.ensures.ok)) c.end_line.ensures.err
