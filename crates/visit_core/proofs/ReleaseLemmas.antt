-- When a visit releases a lock before its page's end.
use Rattle.std.proofs.Common.{Option, ◌≡◌, ◌≢◌, ◌<◌, ◌⊎◌, inl, inr, ℕ, ◌+◌, List, [], ◌∷◌, ◌++◌, Bool, true, false, refl, sym, ◌∙◌, ap, arith}
use Rattle.std.specs.Prelude.{nat_le, nat_lt, reverse, Some, None, ◌||◌, if◌then◌else◌}
use Rattle.std.proofs.lemmas.List.{reverse-append, reverse-reverse}
use Rattle.std.proofs.lemmas.Bool.Decides.{nat_tests}
use Rattle.asp_messages.specs.declared.request.Request.{Request}
use Rattle.asp_messages.specs.declared.request.Ask.{Ask}
use Rattle.asp_messages.specs.declared.request.Ask.TheVariants.{Read, Acquire, Release, Write, Remove, Reset}
use Rattle.asp_messages.specs.declared.reply.Reply.TheVariants.{Found, Done as done_reply, Locked, Missing}
use Rattle.visit_core.specs.declared.visit_terms.Limits.{Limits}
use Rattle.visit_core.specs.declared.visit_terms.Need.{Need}
use Rattle.visit_core.specs.declared.visit_terms.Need.TheVariants.{Exclusive, ReadOnly, Off}
use Rattle.visit_core.specs.declared.act.Heard.{Heard}
use Rattle.visit_core.specs.declared.act.Heard.TheVariants.{Reply, Strange}
use Rattle.visit_core.specs.declared.outcome.Outcome.TheVariants.{GaveUp}
use Rattle.visit_core.specs.Acts.{Action, send, wait_until, run, over}
use Rattle.visit_core.specs.Terms.{VisitTerms}
use Rattle.visit_core.specs.VisitRule.{Event, heard, ended, lost, send_ask, act_of, act_after, after_answer, after_locked, after_loss, refused, ask_for, EachFollows, IsLawful, is_locked_ask, locked_answers, has_ended, MeetsOldLock}

-- ---- counts in a past, in either order

has_ended-append : (xs ys : List Event) → has_ended (xs ++ ys) ≡ (has_ended xs || has_ended ys)
has_ended-append [] ys = refl
has_ended-append (heard t request answer ∷ xs) ys = has_ended-append xs ys
has_ended-append (ended ending ∷ xs) ys = refl
has_ended-append (lost ∷ xs) ys = has_ended-append xs ys

or-false : (a b : Bool) → (a || b) ≡ false → (a ≡ false) × (b ≡ false)
or-false true b e = absurd cc
or-false false b e = (refl, e)

false-or : (a b : Bool) → a ≡ false → b ≡ false → (a || b) ≡ false
false-or a b e f = rw (e, f) refl

locked_answers-append : (xs ys : List Event) →
    locked_answers (xs ++ ys) ≡ locked_answers xs + locked_answers ys
locked_answers-append [] ys = omega arith
locked_answers-append (heard t request answer ∷ xs) ys =
    elim (is_locked_ask request.ask answer) as
    (λ b. (if b then locked_answers (xs ++ ys) + 1 else locked_answers (xs ++ ys))
    ≡ (if b then locked_answers xs + 1 else locked_answers xs) + locked_answers ys) [
      | true ↦ omega (arith, locked_answers-append xs ys)
      | false ↦ locked_answers-append xs ys
    ]
locked_answers-append (ended ending ∷ xs) ys = locked_answers-append xs ys
locked_answers-append (lost ∷ xs) ys = locked_answers-append xs ys

reverse-cons : (event : Event) (past : List Event)
    → reverse (event ∷ past) ≡ reverse past ++ event ∷ []
reverse-cons event past = reverse-append (event ∷ []) past

not_ended-reverse : (past : List Event) → has_ended past ≡ false → has_ended (reverse past) ≡ false
not_ended-reverse [] e = refl
not_ended-reverse (heard t request answer ∷ past) e =
    rw (
      reverse-cons (heard t request answer) past,
      has_ended-append (reverse past)
          (heard t request answer ∷ []),
    ) (false-or _ _ (not_ended-reverse past e) refl)
not_ended-reverse (ended ending ∷ past) e = absurd cc
not_ended-reverse (lost ∷ past) e =
    rw (reverse-cons lost past, has_ended-append (reverse past) (lost ∷ []))
    (false-or _ _ (not_ended-reverse past e) refl)

locked_answers-reverse : (past : List Event) → locked_answers (reverse past) ≡ locked_answers past
locked_answers-reverse [] = refl
locked_answers-reverse (event ∷ past) =
    rw (reverse-cons event past, locked_answers-append (reverse past) (event ∷ []))
    (omega (arith, locked_answers-reverse past, locked_answers-append (event ∷ []) past))

-- ---- what is sent

need-no_release : (need : Need) (cookie : ℕ) → ask_for need ≢ Release cookie
need-no_release Exclusive cookie = λ e. cc
need-no_release ReadOnly cookie = λ e. cc
need-no_release Off cookie = λ e. cc

loss-no_send : (action : Action) (request : Request) → after_loss action ≢ send request
loss-no_send (send r) request = λ e. cc
loss-no_send (wait_until moment) request = λ e. cc
loss-no_send (run content first) request = λ e. cc
loss-no_send (over outcome) request = λ e. cc

refused-no_send : (answer : Heard) (request : Request) → refused answer ≢ send request
refused-no_send (Reply reply) request = λ e. cc
refused-no_send (Strange status) request = λ e. cc

send-inj : (a b : Request) → send a ≡ send b → b ≡ a
send-inj a b e = cc

asks-no_release : (terms : VisitTerms) (cookie : ℕ)
    → send_ask terms (ask_for terms.need) ≢ send_ask terms (Release cookie)
asks-no_release terms cookie e = need-no_release terms.need cookie
    (ap (λ (r : Request). r.ask) (sym (send-inj _ _ e)))

-- a request before the page's end asks for the session or releases a lock
abbrev Asked : VisitTerms → Request → Type 0
Asked terms request =
    (request ≡ record { key = terms.key; ask = ask_for terms.need })
    ⊎ ((cookie : ℕ) × (request.ask ≡ Release cookie))

-- what follows a lock that was met, by the three tests
abbrev branch : VisitTerms → Bool → Bool → Bool → ℕ → ℕ → ℕ → Action
branch terms used_up old early cookie age moment =
    if used_up
    then over (GaveUp cookie age)
    else (if old
    then send_ask terms (Release cookie)
    else (if early then wait_until moment else send_ask terms (ask_for terms.need)))

branch-asks : (terms : VisitTerms) (used_up old early : Bool) (cookie age moment : ℕ)
    (request : Request)
    → branch terms used_up old early cookie age moment ≡ send request → Asked terms request
branch-asks terms true old early cookie age moment request e = absurd cc
branch-asks terms false true early cookie age moment request e =
    inr (cookie, ap (λ (r : Request). r.ask) (send-inj _ _ e))
branch-asks terms false false true cookie age moment request e = absurd cc
branch-asks terms false false false cookie age moment request e = inl (send-inj _ _ e)

branch-release : (terms : VisitTerms) (used_up old early : Bool) (found age moment cookie : ℕ)
    → branch terms used_up old early found age moment ≡ send_ask terms (Release cookie)
    → (used_up ≡ false) × (old ≡ true) × (found ≡ cookie)
branch-release terms true old early found age moment cookie e = absurd cc
branch-release terms false true early found age moment cookie e =
    let asks : Release found ≡ Release cookie = sym (ap (λ (r : Request). r.ask) (send-inj _ _ e))
    in (refl, refl, cc)
branch-release terms false false true found age moment cookie e = absurd cc
branch-release terms false false false found age moment cookie e =
    absurd (need-no_release terms.need cookie (sym (ap (λ (r : Request). r.ask) (send-inj _ _ e))))

answer-asks : (terms : VisitTerms) (count u : ℕ) (ask : Ask) (answer : Heard) (t : ℕ)
    (request : Request)
    → after_answer terms count u ask answer t ≡ send request → Asked terms request
answer-asks terms count u Acquire (Reply (Found body minutes None first)) t request e = absurd cc
answer-asks terms count u Acquire (Reply (Found body minutes (Some cookie) first)) t request e =
    absurd cc
answer-asks terms count u Acquire (Reply (Locked cookie age since)) t request e =
    branch-asks terms _ _ _ cookie age _ request e
answer-asks terms count u Acquire answer t request e = absurd cc
answer-asks terms count u Read (Reply (Locked cookie age since)) t request e =
    branch-asks terms _ _ _ cookie age _ request e
answer-asks terms count u Read answer t request e = absurd cc
answer-asks terms count u Reset (Reply done_reply) t request e = absurd cc
answer-asks terms count u Reset (Reply Missing) t request e = absurd cc
answer-asks terms count u Reset answer t request e = absurd cc
answer-asks terms count u (Release cookie) (Reply done_reply) t request e = inl (send-inj _ _ e)
answer-asks terms count u (Release cookie) (Reply Missing) t request e = inl (send-inj _ _ e)
answer-asks terms count u (Release cookie) (Reply (Locked other age since)) t request e =
    inl (send-inj _ _ e)
answer-asks terms count u (Release cookie) answer t request e = absurd cc
answer-asks terms count u (Write body minutes fresh cookie) answer t request e =
    absurd (refused-no_send answer request e)
answer-asks terms count u (Remove cookie) answer t request e =
    absurd (refused-no_send answer request e)

act-asks : (terms : VisitTerms) (past : List Event) (t : ℕ) (request : Request) → has_ended past
    ≡ false
    → act_after terms past t ≡ send request → Asked terms request
act-asks terms [] t request not_ended e = inl (send-inj _ _ e)
act-asks terms (heard u sent answer ∷ past) t request not_ended e =
    answer-asks terms _ u sent.ask answer t request (rw not_ended at e)
act-asks terms (ended ending ∷ past) t request not_ended e = absurd cc
act-asks terms (lost ∷ past) t request not_ended e =
    absurd (loss-no_send (act_after terms past t) request e)

-- the last event, where a release follows; the past has its latest event first
pub record Met (terms : VisitTerms) (past : List Event) (cookie : ℕ) : Type 0 where
  pub content : terms.need ≢ Off
  pub earlier : List Event
  pub moment : ℕ
  pub age : ℕ
  pub since : Option ℕ
  pub last : past ≡ heard moment (record { key = terms.key; ask = ask_for terms.need })
      (Reply (Locked cookie age since)) ∷ earlier
  pub old : terms.limits.execution_secs < age
  pub polls_left : locked_answers past < terms.limits.polls

-- an own ask that met a lock asked for the session
own-ask : (terms : VisitTerms) (request : Request) → Asked terms request → (age cookie : ℕ)
    → (since : Option ℕ) → is_locked_ask request.ask (Reply (Locked cookie age since)) ≡ true
    → (request ≡ record { key = terms.key; ask = ask_for terms.need }) × (terms.need ≢ Off)
own-ask terms request (inl is) age cookie since locked = (
  is,
  λ e. let asks : request.ask ≡ Reset = ap (λ (r : Request). r.ask) is ∙ ap ask_for e in
      let never : false ≡ true = rw asks at locked in cc,
)
own-ask terms request (inr (other, is)) age cookie since locked = let never : false ≡ true =
    rw is at locked in absurd cc

not_le : (a b : ℕ) → nat_le a b ≡ false → b < a
not_le a b e = grind (arith, nat_tests)

is_lt : (a b : ℕ) → nat_lt a b ≡ true → a < b
is_lt a b e = grind (arith, nat_tests)

le-false : (a b : ℕ) → b < a → nat_le a b ≡ false
le-false a b h = grind (arith, nat_tests)

lt-true : (a b : ℕ) → a < b → nat_lt a b ≡ true
lt-true a b h = grind (arith, nat_tests)

locked-met : (terms : VisitTerms) (past : List Event) (u t : ℕ) (request : Request)
    (found age cookie : ℕ) (since : Option ℕ) → Asked terms request
    → is_locked_ask request.ask (Reply (Locked found age since)) ≡ true
    → after_locked terms (locked_answers past + 1) u found age t ≡ send_ask terms (Release cookie)
    → Met terms (heard u request (Reply (Locked found age since)) ∷ past) cookie
locked-met terms past u t request found age cookie since asked locked e =
    let own : (request ≡ record { key = terms.key; ask = ask_for terms.need })
    × (terms.need ≢ Off) =
    own-ask terms request asked age found since locked in
    let tests : (nat_le terms.limits.polls (locked_answers past + 1) ≡ false)
    × (nat_lt terms.limits.execution_secs age ≡ true) × (found ≡ cookie) =
    branch-release terms _ _ _ found age _ cookie e in
    record {
      content = own.1;
      earlier = past;
      moment = u;
      age = age;
      since = since;
      last =
          rw (own.0, tests.2) refl;
      old = is_lt _ _ tests.1;
      polls_left =
          rw locked (not_le _ _ tests.0);
    }

answer-met : (terms : VisitTerms) (past : List Event) (u t : ℕ) (request : Request) (ask : Ask)
    (answer : Heard) (cookie : ℕ) → request.ask ≡ ask → Asked terms request
    → after_answer terms (locked_answers (heard u request answer ∷ past)) u ask answer t
    ≡ send_ask terms (Release cookie) → Met terms (heard u request answer ∷ past) cookie
answer-met terms past u t request Acquire (Reply (Found body minutes None first)) cookie is asked
    e = absurd cc
answer-met terms past u t request Acquire (Reply (Found body minutes (Some own) first)) cookie is
    asked e = absurd cc
answer-met terms past u t request Acquire (Reply (Locked found age since)) cookie is asked e =
    let locked : is_locked_ask request.ask (Reply (Locked found age since)) ≡ true = rw is refl in
    locked-met terms past u t request found age cookie since asked locked (rw locked at e)
answer-met terms past u t request Acquire answer cookie is asked e = absurd cc
answer-met terms past u t request Read (Reply (Locked found age since)) cookie is asked e =
    let locked : is_locked_ask request.ask (Reply (Locked found age since)) ≡ true = rw is refl in
    locked-met terms past u t request found age cookie since asked locked (rw locked at e)
answer-met terms past u t request Read answer cookie is asked e = absurd cc
answer-met terms past u t request Reset (Reply done_reply) cookie is asked e = absurd cc
answer-met terms past u t request Reset (Reply Missing) cookie is asked e = absurd cc
answer-met terms past u t request Reset answer cookie is asked e = absurd cc
answer-met terms past u t request (Release own) (Reply done_reply) cookie is asked e =
    absurd (asks-no_release terms cookie e)
answer-met terms past u t request (Release own) (Reply Missing) cookie is asked e =
    absurd (asks-no_release terms cookie e)
answer-met terms past u t request (Release own) (Reply (Locked found age since)) cookie is asked e =
    absurd (asks-no_release terms cookie e)
answer-met terms past u t request (Release own) answer cookie is asked e = absurd cc
answer-met terms past u t request (Write body minutes fresh own) answer cookie is asked e =
    absurd (refused-no_send answer _ e)
answer-met terms past u t request (Remove own) answer cookie is asked e =
    absurd (refused-no_send answer _ e)

-- a release is sent after such an event
met-of : (terms : VisitTerms) (past : List Event) (t cookie : ℕ) → EachFollows terms past
    → has_ended past ≡ false → act_after terms past t ≡ send_ask terms (Release cookie)
    → Met terms past cookie
met-of terms [] t cookie follows not_ended e = absurd (asks-no_release terms cookie e)
met-of terms (heard u request answer ∷ past) t cookie follows not_ended e =
    answer-met terms past u t request request.ask answer cookie refl
    (act-asks terms past u request not_ended follows.0.0) (rw not_ended at e)
met-of terms (ended ending ∷ past) t cookie follows not_ended e = absurd cc
met-of terms (lost ∷ past) t cookie follows not_ended e =
    absurd (loss-no_send (act_after terms past t) _ e)

-- after such an event a release is sent
met-acts : (key : List ℕ) (need : Need) (limits : Limits) (earlier : List Event)
    (moment age t cookie : ℕ) (since : Option ℕ) → need ≢ Off → has_ended earlier ≡ false
    → limits.execution_secs < age
    →
    (let terms : VisitTerms = record { key = key; need = need; limits = limits } in
    let past : List Event = heard moment (record { key = key; ask = ask_for need })
    (Reply (Locked cookie age since)) ∷ earlier in
    locked_answers past < limits.polls → act_after terms past t ≡ send_ask terms (Release cookie))
met-acts key Exclusive limits earlier moment age t cookie since content not_ended old left =
    rw (not_ended, le-false _ _ left, lt-true _ _ old) refl
met-acts key ReadOnly limits earlier moment age t cookie since content not_ended old left =
    rw (not_ended, le-false _ _ left, lt-true _ _ old) refl
met-acts key Off limits earlier moment age t cookie since content not_ended old left =
    absurd (content refl)

release-of : (terms : VisitTerms) (past : List Event) (t cookie : ℕ) → has_ended past ≡ false
    → Met terms past cookie → act_after terms past t ≡ send_ask terms (Release cookie)
release-of terms past t cookie not_ended met =
    rw met.last (met-acts terms.key terms.need terms.limits met.earlier met.moment met.age t cookie
    met.since met.content (rw met.last at not_ended) met.old (rw met.last at met.polls_left))

pub releases : (terms : VisitTerms) (past : List Event) (t cookie : ℕ) → IsLawful terms past
    → has_ended past ≡ false → act_of terms past t ≡ send_ask terms (Release cookie)
    → MeetsOldLock terms past cookie
releases terms past t cookie lawful not_ended e =
    let met : Met terms (reverse past) cookie =
    met-of terms (reverse past) t cookie lawful (not_ended-reverse past not_ended) e in
    record {
      content = met.content;
      earlier = reverse met.earlier;
      moment = met.moment;
      age = met.age;
      since = met.since;
      last = sym (reverse-reverse past) ∙ ap reverse met.last
          ∙ reverse-cons _ met.earlier;
      old = met.old;
      polls_left =
          rw (locked_answers-reverse past) at met.polls_left;
    }

pub released : (terms : VisitTerms) (past : List Event) (t cookie : ℕ) → has_ended past ≡ false
    → MeetsOldLock terms past cookie → act_of terms past t ≡ send_ask terms (Release cookie)
released terms past t cookie not_ended met =
    release-of terms (reverse past) t cookie (not_ended-reverse past not_ended)
    (record {
      content = met.content;
      earlier = reverse met.earlier;
      moment = met.moment;
      age = met.age;
      since = met.since;
      last = ap reverse met.last ∙ reverse-append met.earlier (_ ∷ []);
      old =
          met.old;
      polls_left = rw (locked_answers-reverse past) met.polls_left;
    })
