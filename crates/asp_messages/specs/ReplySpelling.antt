-- The bytes that spell a reply ([MS-ASP], section 2.2; the ranges and the statuses 500, 503, 507
-- and 508 are this project's own).
use Rattle.std.specs.Prelude.{◌≡◌, ℕ, ◌^◌, List, [], ◌∷◌, codes, Option, Some, None, ◌==◌, if◌then◌else◌}
use Rattle.httparse.specs.Grammar.{ResponseHead, status_code}
use Rattle.asp_messages.specs.declared.reply.Reply.{Reply}
use Rattle.asp_messages.specs.declared.reply.Reply.TheVariants.{Found, Done, Locked, Missing, Bad, KeeperFault, NoMemory, CookiesOut, PlacesOut}
use Rattle.asp_messages.specs.Fields.{Field, Occurrence, absent, one, twice, once, at_least, number_or, number_needed, most_cookie, most_minutes, lock_cookie_field, named, response_fields}
use Rattle.asp_messages.specs.Head.{IsReplyHead}
use Rattle.asp_messages.specs.Stream.{IsFramed}

-- what a whole message of a reply stream says: a reply, or a status with a form that is no reply's
pub data StreamAnswer : Type 0 where
  reply : Reply → StreamAnswer
  strange : ℕ → StreamAnswer

-- ---- fields

-- the greatest age of a lock, in seconds
abbrev pub most_age : ℕ
most_age = 2 ^ 62

-- the minutes of a `Timeout` that is there
abbrev pub minutes_field : List Field → Option ℕ
minutes_field fields = at_least 1 (number_needed most_minutes (once fields (codes "Timeout")))

-- the flag of `ActionFlags`
abbrev pub action_flags_field : List Field → Option ℕ
action_flags_field fields = number_or 0 0 1 (once fields (codes "ActionFlags"))

-- the cookie of a lock that is in the way, 0 where there is none
abbrev pub holder_field : List Field → Option ℕ
holder_field fields = number_needed most_cookie (once fields (codes "LockCookie"))

-- the age of a lock that is in the way
abbrev pub age_field : List Field → Option ℕ
age_field fields = number_needed most_age (once fields (codes "LockAge"))

-- the latest moment that is told, in milliseconds
abbrev pub most_since : ℕ
most_since = 2 ^ 62

-- the moment of the acquisition, where `LockDate` stands once and is a moment
abbrev pub since_field : List Field → Option ℕ
since_field fields = number_needed most_since (once fields (codes "LockDate"))

-- ---- what a status says

-- 200 with `Timeout`: the content, where `Timeout`, `LockCookie` and `ActionFlags` are in range
abbrev pub found_reply : List ℕ → Option ℕ → Option ℕ → Option ℕ → Option Reply
found_reply body (Some minutes) (Some cookie) (Some flag) =
    Some (Found body minutes (named cookie) (flag == 1))
found_reply body minutes cookie flag = None

-- 200 without `Timeout`: done, where there is no body
abbrev pub done_reply : List ℕ → Option Reply
done_reply [] = Some Done
done_reply (byte ∷ bytes) = None

-- 200: the content where `Timeout` stands, else done
abbrev pub ok_reply : Occurrence → List ℕ → Option Reply → Option Reply
ok_reply absent body found = done_reply body
ok_reply (one value) body found = found
ok_reply twice body found = found

-- 423: a lock is in the way, where `LockCookie` and `LockAge` are there and in range; `LockDate` is
-- read past where it says no moment
abbrev pub locked_reply : Option ℕ → Option ℕ → Option ℕ → Option Reply
locked_reply (Some cookie) (Some age) since = Some (Locked cookie age since)
locked_reply cookie age since = None

-- the statuses that say all by themselves; the body is dropped
abbrev pub plain_reply : ℕ → Option Reply
plain_reply status =
    if status == 400 then Some Bad
    else (if status == 404 then Some Missing
    else (if status == 500 then Some KeeperFault
    else (if status == 503 then Some NoMemory
    else (if status == 507 then Some CookiesOut
    else (if status == 508 then Some PlacesOut else None)))))

-- what a status says with these fields and this body
unfoldable pub reply_from : ℕ → List Field → List ℕ → Option Reply
reply_from status fields body =
    if status == 200
    then ok_reply (once fields (codes "Timeout")) body
    (found_reply body (minutes_field fields) (lock_cookie_field fields)
    (action_flags_field fields))
    else (if status == 423
    then locked_reply (holder_field fields) (age_field fields) (since_field fields)
    else plain_reply status)

-- ---- messages

abbrev pub strange_unless : ℕ → Option Reply → StreamAnswer
strange_unless status None = strange status
strange_unless status (Some r) = reply r

-- the answer of a head's parts and a body
abbrev pub answer_spelled : ℕ → List Field → List ℕ → StreamAnswer
answer_spelled status fields body = strange_unless status (reply_from status fields body)

-- The bytes are a response head and the body that it announces, and they say this answer.
pub record SpellsReply (bytes : List ℕ) (answer : StreamAnswer) : Type 0 where
  pub head : ResponseHead
  pub body : List ℕ
  pub framed : IsFramed IsReplyHead response_fields bytes head body
  pub answer_is : answer ≡ answer_spelled (status_code head) (response_fields head) body
