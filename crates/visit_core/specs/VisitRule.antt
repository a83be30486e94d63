-- The rule of a visit: what it does next is fixed by its past, which is a list of events and no
-- state. (Polling, the forced release and the requests at a page's end are those of ASP.NET's
-- SessionStateModule; the limit on polls, the outcomes, and what follows the answers that its
-- documentation leaves open are this project's own.)
use Rattle.std.specs.Prelude.{◌≡◌, ◌≢◌, ℕ, ◌+◌, ◌<◌, max, List, [], ◌∷◌, ◌++◌, reverse, Option, Some, None, Bool, true, false, nat_le, nat_lt, if◌then◌else◌, ⊤}
use Rattle.asp_messages.specs.declared.request.Request.{Request}
use Rattle.asp_messages.specs.declared.request.Ask.{Ask}
use Rattle.asp_messages.specs.declared.request.Ask.TheVariants.{Read, Acquire, Release, Write, Remove, Reset}
use Rattle.asp_messages.specs.declared.reply.Reply.TheVariants.{Found, Done as done_reply, Locked, Missing}
use Rattle.asp_messages.specs.ReplyText.{http_status}
use Rattle.visit_core.specs.declared.visit_terms.Need.{Need}
use Rattle.visit_core.specs.declared.visit_terms.Need.TheVariants.{Exclusive, ReadOnly, Off}
use Rattle.visit_core.specs.declared.act.Ending.{Ending}
use Rattle.visit_core.specs.declared.act.Ending.TheVariants.{Save, Keep, Abandon}
use Rattle.visit_core.specs.declared.act.Heard.{Heard}
use Rattle.visit_core.specs.declared.act.Heard.TheVariants.{Reply, Strange}
use Rattle.visit_core.specs.declared.outcome.Outcome.TheVariants.{Done, LostLocked, LostMissing, GaveUp, LinkFault, Refused}
use Rattle.visit_core.specs.Acts.{Action, send, wait_until, run, over, IsToRun}
use Rattle.visit_core.specs.Terms.{VisitTerms, EndingFits, HeardFits}

-- an event in a visit's past: a request was answered at a moment, the page ended, or the link was
-- lost
pub data Event : Type 0 where
  heard : ℕ → Request → Heard → Event
  ended : Ending → Event
  lost : Event

-- ---- what a past holds, in any order

-- an ask for the session was answered that a lock is in the way
abbrev pub is_locked_ask : Ask → Heard → Bool
is_locked_ask Acquire (Reply (Locked cookie age since)) = true
is_locked_ask Read (Reply (Locked cookie age since)) = true
is_locked_ask ask answer = false

-- how many asks for the session were answered so
abbrev pub locked_answers : List Event → ℕ
locked_answers [] = 0
locked_answers (heard t request answer ∷ past) =
    if is_locked_ask request.ask answer then locked_answers past + 1 else locked_answers past
locked_answers (ended ending ∷ past) = locked_answers past
locked_answers (lost ∷ past) = locked_answers past

-- the page ended
abbrev pub has_ended : List Event → Bool
has_ended [] = false
has_ended (heard t request answer ∷ past) = has_ended past
has_ended (ended ending ∷ past) = true
has_ended (lost ∷ past) = has_ended past

-- the latest moment at which an answer was heard, 0 before the first
abbrev pub latest_answer : List Event → ℕ
latest_answer [] = 0
latest_answer (heard t request answer ∷ past) = max t (latest_answer past)
latest_answer (ended ending ∷ past) = latest_answer past
latest_answer (lost ∷ past) = latest_answer past

-- the cookie that an acquisition was answered with
abbrev pub cookie_found : Ask → Heard → Option ℕ
cookie_found Acquire (Reply (Found body minutes cookie first)) = cookie
cookie_found ask answer = None

-- the later cookie, where there is one
abbrev pub or_earlier : Option ℕ → Option ℕ → Option ℕ
or_earlier None earlier = earlier
or_earlier (Some cookie) earlier = Some cookie

-- the visit's own cookie
abbrev pub own_cookie : List Event → Option ℕ
own_cookie [] = None
own_cookie (heard t request answer ∷ past) = or_earlier (cookie_found request.ask answer)
    (own_cookie past)
own_cookie (ended ending ∷ past) = own_cookie past
own_cookie (lost ∷ past) = own_cookie past

-- ---- what follows an event

-- a request for the visit's session is sent
abbrev pub send_ask : VisitTerms → Ask → Action
send_ask terms ask = send (record { key = terms.key; ask = ask })

-- the session is asked for: under its lock, without it, or only that it live on
abbrev pub ask_for : Need → Ask
ask_for Exclusive = Acquire
ask_for ReadOnly = Read
ask_for Off = Reset

-- an answer that does not belong to its request ends the visit
abbrev pub refused : Heard → Action
refused (Reply reply) = over (Refused (http_status reply))
refused (Strange status) = over (Refused status)

-- At moment u an ask for the session, the last of so many, met a lock of this cookie and age: the
-- visit gives up where the polls are used up, releases a lock that is older than a page may run,
-- and else waits and asks again.
abbrev pub after_locked : VisitTerms → ℕ → ℕ → ℕ → ℕ → ℕ → Action
after_locked terms count u cookie age t =
    if nat_le terms.limits.polls count
    then over (GaveUp cookie age)
    else (if nat_lt terms.limits.execution_secs age
    then send_ask terms (Release cookie)
    else (if nat_lt t (u + terms.limits.poll_ms)
    then wait_until (u + terms.limits.poll_ms)
    else send_ask terms (ask_for terms.need)))

-- an answer before the page's end
abbrev pub after_answer : VisitTerms → ℕ → ℕ → Ask → Heard → ℕ → Action
after_answer terms count u Acquire (Reply (Found body minutes (Some cookie) first)) t =
    run (Some body) first
after_answer terms count u Acquire (Reply Missing) t = run None false
after_answer terms count u Acquire (Reply (Locked cookie age since)) t =
    after_locked terms count u cookie age t
after_answer terms count u Read (Reply (Found body minutes cookie first)) t = run (Some body) first
after_answer terms count u Read (Reply Missing) t = run None false
after_answer terms count u Read (Reply (Locked cookie age since)) t =
    after_locked terms count u cookie age t
after_answer terms count u Reset (Reply done_reply) t = over Done
after_answer terms count u Reset (Reply Missing) t = over Done
after_answer terms count u (Release own) (Reply done_reply) t = send_ask terms (ask_for terms.need)
after_answer terms count u (Release own) (Reply Missing) t = send_ask terms (ask_for terms.need)
after_answer terms count u (Release own) (Reply (Locked cookie age since)) t =
    send_ask terms (ask_for terms.need)
after_answer terms count u ask answer t = refused answer

-- what is asked at the page's end: only a page that may write asks, under its own cookie if it has
-- one
abbrev pub ending_ask : Need → Option ℕ → Ending → Option Ask
ending_ask Exclusive own (Save body minutes) = Some (Write body minutes false own)
ending_ask Exclusive (Some own) Keep = Some (Release own)
ending_ask Exclusive (Some own) Abandon = Some (Remove (Some own))
ending_ask need own ending = None

-- the page ended
abbrev pub at_end : VisitTerms → Option Ask → Action
at_end terms None = over Done
at_end terms (Some ask) = send_ask terms ask

-- the answer to the request of the page's end
abbrev pub after_end : Heard → Action
after_end (Reply done_reply) = over Done
after_end (Reply Missing) = over LostMissing
after_end (Reply (Locked cookie age since)) = over (LostLocked cookie age)
after_end answer = refused answer

-- a visit that is over stays so
abbrev pub after_loss : Action → Action
after_loss (over outcome) = over outcome
after_loss action = over LinkFault

-- what the visit does at t, by its past with the latest event first
abbrev pub act_after : VisitTerms → List Event → ℕ → Action
act_after terms [] t = send_ask terms (ask_for terms.need)
act_after terms (heard u request answer ∷ past) t =
    if has_ended past
    then after_end answer
    else after_answer terms (locked_answers (heard u request answer ∷ past)) u request.ask answer t
act_after terms (ended ending ∷ past) t = at_end terms
    (ending_ask terms.need (own_cookie past) ending)
act_after terms (lost ∷ past) t = after_loss (act_after terms past t)

-- what the visit does at t, by its past
abbrev pub act_of : VisitTerms → List Event → ℕ → Action
act_of terms past t = act_after terms (reverse past) t

-- ---- lawful pasts

-- The event may follow where the visit acts so: an answer is to the request that is sent at its
-- moment, and a page ends that runs.
abbrev pub MayHappenNext : (ℕ → Action) → Event → Type 0
MayHappenNext act (heard t request answer) = (act t ≡ send request) × HeardFits answer
MayHappenNext act (ended ending) = ((t : ℕ) → IsToRun (act t)) × EndingFits ending
MayHappenNext act lost = ⊤

-- each event of the past, the latest first, may follow those before it
abbrev pub EachFollows : VisitTerms → List Event → Type 0
EachFollows terms [] = ⊤
EachFollows terms (event ∷ past) = MayHappenNext (act_after terms past) event
    × EachFollows terms past

-- each event of the past follows from those before it
abbrev pub IsLawful : VisitTerms → List Event → Type 0
IsLawful terms past = EachFollows terms (reverse past)

-- ---- the forced release

-- The page needs its session's content, the last event is the answer to the visit's own ask that a
-- lock of this cookie, older than a page may run, is in the way, and polls are left.
pub record MeetsOldLock (terms : VisitTerms) (past : List Event) (cookie : ℕ) : Type 0 where
  pub content : terms.need ≢ Off
  pub earlier : List Event
  pub moment : ℕ
  pub age : ℕ
  pub since : Option ℕ
  pub last : past ≡ earlier ++ heard moment (record { key = terms.key; ask = ask_for terms.need })
      (Reply (Locked cookie age since)) ∷ []
  pub old : terms.limits.execution_secs < age
  pub polls_left : locked_answers past < terms.limits.polls
