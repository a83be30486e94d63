-- What an answer adds to a past, and what the visit makes of it.
use Rattle.std.proofs.Common.{◌≡◌, ℕ, ◌+◌, List, [], ◌∷◌, ◌++◌, true, false, refl, sym, ◌∙◌, arith, ap}
use Rattle.std.specs.Prelude.{nat_le, nat_lt, reverse, Option, Some, None}
use Rattle.std.proofs.lemmas.List.{reverse-append}
use Rattle.std.proofs.lemmas.Grind.{common_steps}
use Rattle.asp_messages.specs.declared.request.Request.{Request}
use Rattle.asp_messages.specs.declared.request.Ask.{Ask}
use Rattle.asp_messages.specs.declared.request.Ask.TheVariants.{Release}
use Rattle.asp_messages.specs.declared.reply.Reply.TheVariants.{Found, Done as done_reply, Locked, Missing}
use Rattle.visit_core.specs.declared.visit_terms.Need.{Need}
use Rattle.visit_core.specs.declared.visit_terms.Need.TheVariants.{Exclusive, ReadOnly, Off}
use Rattle.visit_core.specs.declared.visit_terms.Limits.{Limits}
use Rattle.visit_core.specs.declared.act.Heard.{Heard}
use Rattle.visit_core.specs.declared.act.Heard.TheVariants.{Reply}
use Rattle.visit_core.specs.declared.stage.Lock.{Lock}
use Rattle.visit_core.specs.declared.stage.Stage.{Stage}
use Rattle.visit_core.specs.declared.stage.Stage.TheVariants.{Asking, Forcing, Running, Ending, Over}
use Rattle.visit_core.specs.Acts.{send, run, over}
use Rattle.visit_core.specs.Terms.{VisitTerms, HeardFits}
use Rattle.visit_core.specs.VisitRule.{Event, send_ask, after_locked, heard, act_of, act_after, ask_for, EachFollows, locked_answers, has_ended, own_cookie}
use Rattle.visit_core.specs.Stages.{VisitState, HasPast, StageKnows, stage_act}
use Rattle.visit_core.specs.Tables.{meets_lock, meets_lock_if, end_answered, hears, hears_answer, hears_release}

-- one more event, behind the others
HasPast-push : (visit : VisitState) (terms : VisitTerms) (past : List Event) (event : Event)
    → visit.terms ≡ terms → EachFollows terms (event ∷ reverse past)
    → ((t : ℕ) → act_after terms (event ∷ reverse past) t
    ≡ stage_act visit.terms visit.ask visit.stage t)
    → StageKnows visit.terms visit.ask visit.locked visit.stage (event ∷ reverse past)
    → HasPast visit (past ++ event ∷ [])
HasPast-push visit terms past event is lawful acts knows =
    record {
      lawful = rw (is, reverse-append) lawful;
      acts =
          λ t. rw (is, reverse-append) (rw is at (acts t));
      knows = rw reverse-append knows;
    }

-- what the visit does after a lock was met
locked-acts : (visit : VisitState) (t : ℕ) (lock : Lock) (u : ℕ)
    → visit.ask ≡ ask_for visit.terms.need
    → after_locked visit.terms (visit.locked + 1) t lock.cookie lock.age u
    ≡ stage_act (meets_lock visit t lock).terms (meets_lock visit t lock).ask
    (meets_lock visit t lock).stage u
locked-acts visit t lock u e = grind (arith, common_steps)

locked-knows : (visit : VisitState) (t : ℕ) (lock : Lock) (past : List Event)
    → visit.ask ≡ ask_for visit.terms.need → locked_answers past ≡ visit.locked + 1
    → has_ended past ≡ false → own_cookie past ≡ None
    → StageKnows (meets_lock visit t lock).terms (meets_lock visit t lock).ask
    (meets_lock visit t lock).locked (meets_lock visit t lock).stage past
locked-knows visit t lock past e n not_ended none =
    elim (nat_le visit.terms.limits.polls (visit.locked + 1)) as
    (λ b. let v : VisitState = meets_lock_if b (nat_lt visit.terms.limits.execution_secs lock.age)
    visit t lock in StageKnows v.terms v.ask v.locked v.stage past) [
      | true ↦ tt
      | false ↦
          elim (nat_lt visit.terms.limits.execution_secs lock.age) as
          (λ b. let v : VisitState = meets_lock_if false b visit t lock in
          StageKnows v.terms v.ask v.locked v.stage past)
          [ true ↦ ((lock.cookie, refl), n, not_ended, none) | false ↦ (e, n, not_ended, none) ]
    ]

-- the answer to an ask for the session
asked-acts : (key : List ℕ) (need : Need) (limits : Limits) (locked from t : ℕ) (answer : Heard)
    (past : List Event) → has_ended past ≡ false → locked_answers past ≡ locked → (u : ℕ) →
    (let terms : VisitTerms = record { key = key; need = need; limits = limits } in
    let visit : VisitState = hears (record {
      terms = terms;
      ask = ask_for need;
      locked =
          locked;
      stage = Asking from;
    }) t (Asking from) answer in
    act_after terms (heard t (record { key = key; ask = ask_for need }) answer ∷ past) u
    ≡ stage_act visit.terms visit.ask visit.stage u)
asked-acts key Exclusive limits locked from t (Reply (Found body minutes None first)) past e n u =
    rw e refl
asked-acts key Exclusive limits locked from t (Reply (Found body minutes (Some cookie) first)) past
    e n u = rw e refl
asked-acts key Exclusive limits locked from t (Reply (Locked cookie age since)) past e n u =
    rw (e, n) (locked-acts _ t (record { cookie = cookie; age = age }) u refl)
asked-acts key Exclusive limits locked from t (Reply Missing) past e n u = rw e refl
asked-acts key Exclusive limits locked from t answer past e n u = rw e refl
asked-acts key ReadOnly limits locked from t (Reply (Locked cookie age since)) past e n u =
    rw (e, n) (locked-acts _ t (record { cookie = cookie; age = age }) u refl)
asked-acts key ReadOnly limits locked from t answer past e n u = rw e refl
asked-acts key Off limits locked from t (Reply done_reply) past e n u = rw e refl
asked-acts key Off limits locked from t (Reply Missing) past e n u = rw e refl
asked-acts key Off limits locked from t answer past e n u = rw e refl

asked-knows : (key : List ℕ) (need : Need) (limits : Limits) (locked from t : ℕ) (answer : Heard)
    (past : List Event) → has_ended past ≡ false → locked_answers past ≡ locked
    → own_cookie past ≡ None →
    (let terms : VisitTerms = record { key = key; need = need; limits = limits } in
    let visit : VisitState = hears (record {
      terms = terms;
      ask = ask_for need;
      locked =
          locked;
      stage = Asking from;
    }) t (Asking from) answer in
    StageKnows visit.terms visit.ask visit.locked visit.stage
    (heard t (record { key = key; ask = ask_for need }) answer ∷ past))
asked-knows key Exclusive limits locked from t (Reply (Found body minutes None first)) past e n
    none = tt
asked-knows key Exclusive limits locked from t (Reply (Found body minutes (Some cookie) first)) past
    e n none = refl
asked-knows key Exclusive limits locked from t (Reply (Locked cookie age since)) past e n none =
    locked-knows _ t _ _ refl (ap (λ m. m + 1) n) e none
asked-knows key Exclusive limits locked from t (Reply Missing) past e n none = none
asked-knows key Exclusive limits locked from t answer past e n none = tt
asked-knows key ReadOnly limits locked from t (Reply (Found body minutes cookie first)) past e n
    none = none
asked-knows key ReadOnly limits locked from t (Reply (Locked cookie age since)) past e n none =
    locked-knows _ t _ _ refl (ap (λ m. m + 1) n) e none
asked-knows key ReadOnly limits locked from t (Reply Missing) past e n none = none
asked-knows key ReadOnly limits locked from t answer past e n none = tt
asked-knows key Off limits locked from t (Reply done_reply) past e n none = tt
asked-knows key Off limits locked from t (Reply Missing) past e n none = tt
asked-knows key Off limits locked from t answer past e n none = tt

asking-now : (terms : VisitTerms) (ask : Ask) (t : ℕ)
    → stage_act terms ask (Asking 0) t ≡ send_ask terms ask
asking-now terms ask t = grind (arith, common_steps)

-- the answer to a forced release
forced-acts : (terms : VisitTerms) (locked cookie t : ℕ) (answer : Heard) (past : List Event)
    → has_ended past ≡ false → (u : ℕ) →
    (let ask : Ask = Release cookie in
    let visit : VisitState = hears_release (record {
      terms = terms;
      ask = ask;
      locked =
          locked;
      stage = Forcing;
    }) answer in
    act_after terms (heard t (record { key = terms.key; ask = ask }) answer ∷ past) u
    ≡ stage_act visit.terms visit.ask visit.stage u)
forced-acts terms locked cookie t (Reply done_reply) past e u = rw e (sym (asking-now terms _ u))
forced-acts terms locked cookie t (Reply Missing) past e u = rw e (sym (asking-now terms _ u))
forced-acts terms locked cookie t (Reply (Locked other age since)) past e u =
    rw e (sym (asking-now terms _ u))
forced-acts terms locked cookie t answer past e u = rw e refl

forced-knows : (terms : VisitTerms) (locked cookie t : ℕ) (answer : Heard) (past : List Event)
    → locked_answers past ≡ locked → has_ended past ≡ false → own_cookie past ≡ None →
    (let ask : Ask = Release cookie in
    let visit : VisitState = hears_release (record {
      terms = terms;
      ask = ask;
      locked =
          locked;
      stage = Forcing;
    }) answer in
    StageKnows visit.terms visit.ask visit.locked visit.stage
    (heard t (record { key = terms.key; ask = ask }) answer ∷ past))
forced-knows terms locked cookie t (Reply done_reply) past n e none = (refl, n, e, none)
forced-knows terms locked cookie t (Reply Missing) past n e none = (refl, n, e, none)
forced-knows terms locked cookie t (Reply (Locked other age since)) past n e none = (
  refl,
  n,
  e,
  none,
)
forced-knows terms locked cookie t answer past n e none = tt

-- the answer to the request of the page's end
end-acts : (terms : VisitTerms) (ask : Ask) (request : Request) (t : ℕ) (answer : Heard)
    (past : List Event) → has_ended past ≡ true → (u : ℕ)
    → act_after terms (heard t request answer ∷ past) u
    ≡ stage_act terms ask (end_answered answer) u
end-acts terms ask request t (Reply done_reply) past e u = rw e refl
end-acts terms ask request t (Reply Missing) past e u = rw e refl
end-acts terms ask request t (Reply (Locked other age since)) past e u = rw e refl
end-acts terms ask request t answer past e u = rw e refl

end-knows : (terms : VisitTerms) (ask : Ask) (locked : ℕ) (answer : Heard) (past : List Event)
    → StageKnows terms ask locked (end_answered answer) past
end-knows terms ask locked (Reply done_reply) past = tt
end-knows terms ask locked (Reply Missing) past = tt
end-knows terms ask locked (Reply (Locked other age since)) past = tt
end-knows terms ask locked answer past = tt

-- a visit keeps its terms
locked-terms : (visit : VisitState) (t : ℕ) (lock : Lock)
    → (meets_lock visit t lock).terms ≡ visit.terms
locked-terms visit t lock = grind (arith, common_steps)

asked-terms : (visit : VisitState) (t : ℕ) (answer : Heard) (lock : Option Lock)
    → (hears_answer visit t answer lock).terms ≡ visit.terms
asked-terms visit t answer None = refl
asked-terms visit t answer (Some lock) = locked-terms visit t lock

forced-terms : (visit : VisitState) (answer : Heard)
    → (hears_release visit answer).terms ≡ visit.terms
forced-terms visit (Reply done_reply) = refl
forced-terms visit (Reply Missing) = refl
forced-terms visit (Reply (Locked cookie age since)) = refl
forced-terms visit answer = refl

-- what a visit sends that asks for the session
asking-sends : (terms : VisitTerms) (ask : Ask) (from t : ℕ) (request : Request)
    → stage_act terms ask (Asking from) t ≡ send request
    → request ≡ record { key = terms.key; ask = ask }
asking-sends terms ask from t request e = grind (arith, common_steps)

send-inj : (a b : Request) → send a ≡ send b → b ≡ a
send-inj a b e = cc

-- an answer to the request that the visit sends
pub HasPast-heard : (terms : VisitTerms) (ask : Ask) (locked : ℕ) (stage : Stage) (t : ℕ)
    (answer : Heard) (past : List Event) (request : Request) → HeardFits answer →
    (let visit : VisitState = record { terms = terms; ask = ask; locked = locked; stage = stage } in
    HasPast visit past → act_of terms past t ≡ send request
    → HasPast (hears visit t stage answer) (past ++ heard t request answer ∷ []))
HasPast-heard terms ask locked (Asking from) t answer past request fits h sent =
    let k : StageKnows terms ask locked (Asking from) (reverse past) = h.knows in
    let is_request : request ≡ record { key = terms.key; ask = ask } =
    asking-sends terms ask from t request (sym (h.acts t) ∙ sent) in
    let same : request ≡ record { key = terms.key; ask = ask_for terms.need } =
    rw k.0 at is_request in
    rw (same, k.0) (HasPast-push _ terms past _ (asked-terms _ t answer _)
    ((rw same at sent, fits), h.lawful) (asked-acts terms.key terms.need terms.limits locked
    from t answer (reverse past) k.2 k.1)
    (asked-knows terms.key terms.need terms.limits locked from t answer (reverse past) k.2 k.1
    k.3))
HasPast-heard terms ask locked Forcing t answer past request fits h sent =
    let k : StageKnows terms ask locked Forcing (reverse past) = h.knows in
    let is_request : request ≡ record { key = terms.key; ask = ask } =
    send-inj _ _ (sym (h.acts t) ∙ sent) in
    let same : request ≡ record { key = terms.key; ask = Release k.0.0 } = rw k.0.1 at is_request in
    rw (same, k.0.1) (HasPast-push _ terms past _
    (forced-terms (record {
      terms = terms;
      ask = Release k.0.0;
      locked = locked;
      stage =
          Forcing;
    }) answer) ((rw same at sent, fits), h.lawful)
    (forced-acts terms locked k.0.0 t answer (reverse past) k.2)
    (forced-knows terms locked k.0.0 t answer (reverse past) k.1 k.2 k.3))
HasPast-heard terms ask locked (Running content first cookie) t answer past request fits h sent =
    let e : run content first ≡ send request = sym (h.acts t) ∙ sent in absurd cc
HasPast-heard terms ask locked Ending t answer past request fits h sent =
    HasPast-push _ terms past _ refl ((sent, fits), h.lawful)
    (end-acts terms ask request t answer (reverse past) h.knows)
    (end-knows terms ask locked answer _)
HasPast-heard terms ask locked (Over outcome) t answer past request fits h sent =
    let e : over outcome ≡ send request = sym (h.acts t) ∙ sent in absurd cc
