use Rattle.asp_messages.proofs.AppendLemmas.{Extends-text, Extends-then, Extends-trans, failed_behind}
use Rattle.asp_messages.proofs.plain_spelling.push_ask.Goals as goal

pub returns-in_ok-then_flag-in-Write-clause-err : goal.returns-in_ok-then_flag-in-Write-clause-err
returns-in_ok-then_flag-in-Write-clause-err c =
    failed_behind c.then_bytes.result _ _ _
    (Extends-trans _ _ _ (Extends-text _ _ _ c.in_ok-push-in-Write.ensures.ok)
    (Extends-trans _ _ _ (Extends-then _ _ _ c.in_ok-then_cookie-in-Write.ensures.ok)
    (Extends-trans _ _ _ (Extends-then _ _ _ c.in_ok-then_number-in-Write.ensures.ok)
    (Extends-then _ _ _ c.in_ok-then_flag-in-Write.ensures.ok))))
    c.then_bytes.ensures.err
