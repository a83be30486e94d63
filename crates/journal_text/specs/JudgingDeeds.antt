-- One deed on the items: what it leaves of them, or why it may not be done.
use Rattle.std.specs.Prelude.{◌≡◌, ℕ, List, Option, Some, None, false, IfSome, ⊤}
use Rattle.std.specs.Str.{bytes_eq}
use Rattle.asp_messages.specs.declared.reply.Reply.{Reply}
use Rattle.asp_messages.specs.declared.reply.Reply.TheVariants.{Done, KeeperFault, NoMemory}
use Rattle.asp_messages.specs.declared.request.Request.{Request}
use Rattle.session_machine.specs.declared.entry.Deed.{Deed}
use Rattle.session_machine.specs.declared.entry.Deed.TheVariants.{Asked, Expired, Looked}
use Rattle.session_machine.specs.declared.item.Item.{Item}
use Rattle.session_machine.specs.declared.item.Profile.{Profile}
use Rattle.session_machine.specs.Liveness.{ItemFits}
use Rattle.session_machine.specs.Machine.{Circumstances, effect}
use Rattle.session_machine.specs.History.{IsDead, after_reply}
use Rattle.journal_text.specs.declared.judging.judgement.Why.{Why}
use Rattle.journal_text.specs.declared.judging.judgement.Why.TheVariants.{NotDue, WrongReply}
use Rattle.journal_text.specs.declared.judging.asking.Left.{Left}
use Rattle.journal_text.specs.declared.judging.asking.Left.TheVariants as left
use Rattle.journal_text.specs.JudgingChecker.{item_among}
use Rattle.journal_text.specs.JudgingEntries.{IsNotDead, IsRightReply, IsWrongReply}

-- each item is in range
abbrev pub ItemsFit : List (List ℕ × Item) → Type 0
ItemsFit pairs = (key : List ℕ) → IfSome (item_among pairs key) ItemFits

-- The key has this item, and every other key has what it had.
pub record ReplacesItem (old new : List (List ℕ × Item)) (key : List ℕ) (item : Option Item) : Type
    0 where
  pub same : item_among new key ≡ item
  pub others : (other : List ℕ) → bytes_eq other key ≡ false
      → item_among new other ≡ item_among old other

-- the reply of a request that changed nothing
abbrev pub IsRefusal : Reply → Type 0
IsRefusal NoMemory = ⊤
IsRefusal KeeperFault = ⊤
IsRefusal reply = ⊥

-- the machine's own reply to a request where the session has this item
abbrev pub own_reply : Profile → Option Item → ℕ → ℕ → Request → Reply
own_reply profile old t drawn request = (effect profile old t drawn request.ask).0

-- the reply is none that the request may be given
abbrev pub IsWrongThere : Profile → Option Item → Request → Circumstances → Reply → Why → Type 0
IsWrongThere profile old request at reply why =
    (why ≡ WrongReply (own_reply profile old at.moment at.drawn request) reply)
    × IsWrongReply at.rose (own_reply profile old at.moment at.drawn request) reply

-- what is left is the new item, or nothing, and the item that was there is still to be removed
abbrev pub IsLeft : Option Item → List ℕ → Item → Item → Left → Type 0
IsLeft after key old new (left.Wrong why) = ⊥
IsLeft after key old new left.Item = after ≡ Some new
IsLeft after key old new (left.Nothing gone) = (after ≡ None) × (gone ≡ key) × (new ≡ old)

-- what a request leaves of the item that is there, or why it may not have been answered so
abbrev pub LeavesOf : Profile → Item → Item → Request → Circumstances → Reply → Left → Type 0
LeavesOf profile old new request at reply (left.Wrong why) =
    IsWrongThere profile (Some old) request at reply why
LeavesOf profile old new request at reply left =
    IsRightReply at.rose (own_reply profile (Some old) at.moment at.drawn request) reply
    × IsLeft (after_reply profile (Some old) at.moment at.drawn request.ask reply)
    request.key old new left

-- the item is as it was where the request may not have been answered so
abbrev pub StaysWhereWrong : Item → Item → Left → Type 0
StaysWhereWrong old new (left.Wrong why) = new ≡ old
StaysWhereWrong old new left.Item = ⊤
StaysWhereWrong old new (left.Nothing gone) = ⊤

-- the deed may be done, and leaves the items so
abbrev pub IsDone : Profile → List (List ℕ × Item) → List (List ℕ × Item) → Deed → Circumstances
    → Reply → Type 0
IsDone profile old new (Asked request) at reply =
    IsRightReply at.rose (own_reply profile (item_among old request.key) at.moment at.drawn request)
    reply
    × ReplacesItem old new request.key
    (after_reply profile (item_among old request.key) at.moment at.drawn request.ask reply)
IsDone profile old new (Expired key) at reply =
    IsDead (item_among old key) at.moment × ReplacesItem old new key None
IsDone profile old new Looked at reply = IsRightReply at.rose Done reply × (new ≡ old)

-- the deed may not be done
abbrev pub IsBarred : Profile → List (List ℕ × Item) → Deed → Circumstances → Reply → Why → Type 0
IsBarred profile old (Asked request) at reply why =
    IsWrongThere profile (item_among old request.key) request at reply why
IsBarred profile old (Expired key) at reply why =
    (why ≡ NotDue) × IsNotDead (item_among old key) at.moment
IsBarred profile old Looked at reply why =
    (why ≡ WrongReply Done reply) × IsWrongReply at.rose Done reply
