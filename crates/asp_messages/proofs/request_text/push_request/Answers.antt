use Rattle.asp_messages.proofs.AppendLemmas.{Extends-text, Extends-trans, failed_behind}
use Rattle.asp_messages.proofs.request_text.push_request.Goals as goal

pub returns-clause-err : goal.returns-clause-err
returns-clause-err c =
    failed_behind c.push.result _ _ _
    (Extends-trans _ _ _ (Extends-text _ _ _ c.in_ok-push_start.ensures.ok)
    (Extends-trans _ _ _ (Extends-text _ _ _ c.in_ok-push_fields.ensures.ok)
    (Extends-text _ _ _ c.in_ok-push_line.ensures.ok)))
    c.push.ensures.err
