-- What a verdict says of the item that it was given.
use Rattle.std.specs.Prelude.{ℕ, List, [], Option, Some, None, if◌then◌else◌}
use Rattle.asp_messages.specs.declared.request.Ask.{Ask}
use Rattle.asp_messages.specs.declared.request.Ask.TheVariants.{Write}
use Rattle.asp_messages.specs.declared.reply.Reply.{Reply}
use Rattle.asp_messages.specs.declared.reply.Reply.TheVariants as replies
use Rattle.asp_messages.specs.Fields.{named}
use Rattle.session_machine.specs.declared.item.Item.{Item}
use Rattle.session_machine.specs.declared.decision.Kind.{Kind}
use Rattle.session_machine.specs.declared.decision.Kind.TheVariants as kinds
use Rattle.session_machine.specs.declared.decision.Change.{Change}
use Rattle.session_machine.specs.declared.decision.Change.TheVariants as changes
use Rattle.session_machine.specs.declared.decision.Verdict.{Verdict}
use Rattle.session_machine.specs.Machine.{Effect}

-- the reply of this kind, `Found` with the content of the item that was there; the machine never
-- answers `Bad`
abbrev pub reply_of : Kind → Option Item → Reply
reply_of (kinds.Found cookie first) (Some item) =
    replies.Found item.body item.minutes (named cookie) first
reply_of (kinds.Found cookie first) None = replies.Bad
reply_of kinds.Done old = replies.Done
reply_of (kinds.Locked cookie age since) old = replies.Locked cookie age since
reply_of kinds.Missing old = replies.Missing
reply_of kinds.CookiesOut old = replies.CookiesOut

-- the content that a write brings
abbrev pub body_asked : Ask → List ℕ
body_asked (Write body minutes fresh cookie) = body
body_asked ask = []

-- the content that is there
abbrev pub body_there : Option Item → List ℕ
body_there None = []
body_there (Some item) = item.body

-- the item after the change
abbrev pub changed : Change → Option Item → Ask → Option Item
changed changes.Nothing old ask = old
changed changes.Cut old ask = None
changed (changes.Store body_of_request minutes fresh holder touched ends) old ask =
    Some (record {
      body = if body_of_request then body_asked ask else body_there old;
      minutes = minutes;
      fresh = fresh;
      holder = holder;
      touched = touched;
      ends = ends;
    })

-- the reply and the item after it that a verdict stands for
abbrev pub effect_of : Verdict → Option Item → Ask → Effect
effect_of verdict old ask = (reply_of verdict.kind old, changed verdict.change old ask)
