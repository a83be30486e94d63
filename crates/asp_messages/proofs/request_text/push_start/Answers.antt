use Rattle.std.proofs.Common.{◌≡◌, ℕ, List, ◌++◌, append_assoc}
use Rattle.std.specs.Prelude.{codes}
use Rattle.asp_messages.specs.ReplyText.{http_line}
use Rattle.asp_messages.specs.RequestText.{start_lines}
use Rattle.asp_messages.proofs.request_text.push_start.Goals as goal

start_is : (old verb target : List ℕ)
    → old ++ verb ++ codes " " ++ target ++ http_line (codes " HTTP/1.1")
    ++ http_line (codes "Host: state")
    ≡ old ++ start_lines verb target
start_is old verb target = simp append_assoc

pub returns-clause-ok : goal.returns-clause-ok
returns-clause-ok c =
    rw (
      ← start_is _ _ _,
      ← c.verb.ensures,
      ← c.in_ok-push.ensures.ok,
      ← c.in_ok-push-2.ensures.ok,
      ← c.in_ok-push_target.ensures.ok,
      ← c.in_ok-push_line.ensures.ok,
    )
    c.push_line-2.ensures.ok
