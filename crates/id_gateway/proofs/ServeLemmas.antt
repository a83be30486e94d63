-- One request, served.
use Rattle.std.proofs.Common.{◌≡◌, ℕ, List, [], ◌∷◌, ◌++◌, Option, Some, None, Result, Ok, Err, refl, sym, ap, ◌∙◌, subst, append-nil}
use Rattle.std.specs.Prelude.{IfSome, IfOk, OnErr}
use Rattle.std.specs.Result.{result_ok}
use Rattle.asp_base.specs.Causes.{HasCause}
use Rattle.asp_messages.specs.declared.reply.Reply.{Reply}
use Rattle.plain_desk.specs.DeskStands.{DeskState}
use Rattle.visit_core.specs.declared.act.Ending.{Ending}
use Rattle.visit_core.specs.declared.outcome.Outcome.{Outcome}
use Rattle.visit_core.specs.declared.visit_terms.Need.{Need}
use Rattle.visit_core.specs.VisitRule.{IsLawful}
use Rattle.page_requests.specs.declared.identities.Mode.{Mode}
use Rattle.page_requests.specs.declared.page.Page.{Page}
use Rattle.page_requests.specs.declared.request.PageRequest.{PageRequest}
use Rattle.page_requests.specs.declared.request.Verb.{Verb}
use Rattle.page_requests.specs.Identities.{IdentityOf, identity_of}
use Rattle.page_requests.specs.Pages.{ending_of, page_need, page_at}
use Rattle.page_visit.specs.Asked.{asked, replies_of}
use Rattle.page_visit.specs.Runs.{PageRun, page_run, page_terms}
use Rattle.page_visit.specs.Underway.{PageComesTo, PageIsCut, PageStart}
use Rattle.page_visit.proofs.AskedLemmas.{DeskDoes-nothing}
use Rattle.id_gateway.specs.declared.answer.Answer.{Answer}
use Rattle.id_gateway.specs.declared.answer.Status.TheVariants as statuses
use Rattle.id_gateway.specs.Draws.{Draw, GivesValue, RandomState, IsDraw}
use Rattle.id_gateway.specs.Gate.{IsLawfulVisit}
use Rattle.id_gateway.specs.Keeping.{CutsAt, ServesAt, page_seen}
use Rattle.id_gateway.specs.Serving.{Serving, without_page, session_key, outcome_answer, visited_events, serve, serve_at, plain_answer, serve_new, serve_value, serve_found, draws_for, visit_of, visit_terms}

-- what a page began with
abbrev pub page_start : Page → List ℕ → ℕ → List ℕ → DeskState → PageStart
page_start page id t body desk = record {
  terms = visit_terms page id;
  ending = ending_of page body;
  moment = t;
  desk = desk;
}

module _ (CanCount : ℕ → Type 0) (desk desk' : DeskState) where
  -- a page that came to its outcome
  pub comes-served : (page : Page) (new_id : Option (List ℕ)) (id : List ℕ) (t : ℕ) (body : List ℕ)
      (outcome : Outcome) (content : Option (List ℕ))
      → PageComesTo CanCount (page_start page id t body desk) desk' outcome content
      → ServesAt CanCount (serve_at (Some page) new_id id t body) desk desk'
      (outcome_answer page new_id content outcome)
  comes-served page new_id id t body outcome content came = record {
    visited = Some (record { terms = visit_terms page id; past = came.past });
    step = λ draws more. ap (visit_of page new_id (visit_terms page id) draws) (came.run_is more);
    did = came.desk_did;
    lawful = came.lawful;
  }

  -- one that was cut off
  pub cut-served : (page : Page) (new_id : Option (List ℕ)) (id : List ℕ) (t : ℕ) (body : List ℕ)
      → PageIsCut CanCount (page_start page id t body desk) desk'
      → CutsAt CanCount (serve_at (Some page) new_id id t body) desk desk'
  cut-served page new_id id t body cut = record {
    past = cut.past;
    asks = λ draws j. cut.asks j;
    did = cut.desk_did;
    lawful = λ draws. cut.lawful;
  }

  -- one whose answer found no memory
  pub came-cut : (page : Page) (new_id : Option (List ℕ)) (id : List ℕ) (t : ℕ) (body : List ℕ)
      (outcome : Outcome) (content : Option (List ℕ))
      → PageComesTo CanCount (page_start page id t body desk) desk' outcome content
      → CutsAt CanCount (serve_at (Some page) new_id id t body) desk desk'
  came-cut page new_id id t body outcome content came =
      let whole : (page_run (visit_terms page id) (ending_of page body) t
      (replies_of came.past)).past ≡ came.past =
      ap (λ r. (page_run (visit_terms page id) (ending_of page body) t r).past)
      (sym (append-nil (replies_of came.past)))
      ∙ ap (λ (r : PageRun). r.past) (came.run_is []) in
      record {
        past = came.past;
        asks = λ draws j. ap (asked j) whole;
        did = came.desk_did;
        lawful = λ draws. subst (IsLawful (visit_terms page id)) (sym whole) came.lawful;
      }

  -- the same step by another name
  pub ServesAt-same : (Step Step' : List Draw → List Reply → Serving) (answer : Answer)
      → ((draws : List Draw) (replies : List Reply) → Step draws replies ≡ Step' draws replies)
      → ServesAt CanCount Step' desk desk' answer → ServesAt CanCount Step desk desk' answer
  ServesAt-same Step Step' answer same one = record {
    visited = one.visited;
    step = λ draws more. same draws (replies_of (visited_events one.visited) ++ more)
        ∙ one.step draws more;
    did = one.did;
    lawful = one.lawful;
  }

  pub CutsAt-same : (Step Step' : List Draw → List Reply → Serving)
      → ((draws : List Draw) (replies : List Reply) → Step draws replies ≡ Step' draws replies)
      → CutsAt CanCount Step' desk desk' → CutsAt CanCount Step desk desk'
  CutsAt-same Step Step' same one = record {
    past = one.past;
    asks = λ draws j. ap (λ (s : Serving). asked j (visited_events s.served.visited))
        (same draws (replies_of one.past)) ∙ one.asks draws j;
    did = one.did;
    lawful = λ draws. subst (λ (s : Serving). IfSome s.served.visited IsLawfulVisit)
        (sym (same draws (replies_of one.past))) (one.lawful draws);
  }

-- an answer without a page
pub without_page-served : (CanCount : ℕ → Type 0) (desk : DeskState) (answer : Answer)
    → ServesAt CanCount (without_page answer) desk desk answer
without_page-served CanCount desk answer = record {
  visited = None;
  step = λ draws more. refl;
  did = DeskDoes-nothing CanCount desk [] (λ j. refl);
  lawful = tt;
}

-- nothing was done
pub without_page-cut : (CanCount : ℕ → Type 0) (desk : DeskState) (answer : Answer)
    → CutsAt CanCount (without_page answer) desk desk
without_page-cut CanCount desk answer = record {
  past = [];
  asks = λ draws j. refl;
  did = DeskDoes-nothing CanCount desk [] (λ j. refl);
  lawful = λ draws. tt;
}

-- ---- with an identifier, and without

-- the parts of a pair that is there
abbrev id_or : List ℕ → Option (List ℕ × Option Page) → List ℕ
id_or default None = default
id_or default (Some pair) = pair.0

abbrev page_or : Option Page → Option (List ℕ × Option Page) → Option Page
page_or default None = default
page_or default (Some pair) = pair.1

found-step : (o : Option IdentityOf) (mode : Mode) (t : ℕ) (request : PageRequest) (id : List ℕ)
    (page : Option Page) → page_seen request.verb o ≡ Some (id, page)
    → (draws : List Draw) (replies : List Reply)
    → serve_found o mode t request draws replies
    ≡ serve_at page None id t request.body draws replies
found-step None mode t request id page is draws replies = cc
found-step (Some identity) mode t request id page is draws replies =
    let one : identity.id ≡ id = ap (id_or identity.id) is in
    let two : page_at request.verb identity.path ≡ page =
    ap (page_or (page_at request.verb identity.path)) is in
    ap (λ p. serve_at p None identity.id t request.body draws replies) two
    ∙ ap (λ i. serve_at page None i t request.body draws replies) one

pub with-id : (mode : Mode) (t : ℕ) (request : PageRequest) (id : List ℕ) (page : Option Page)
    → page_seen request.verb (identity_of mode request) ≡ Some (id, page)
    → (draws : List Draw) (replies : List Reply)
    → serve mode t request draws replies ≡ serve_at page None id t request.body draws replies
unfolding serve
with-id mode t request id page is draws replies =
    found-step (identity_of mode request) mode t request id page is draws replies

found-none : (o : Option IdentityOf) (verb : Verb) (id : List ℕ) (page : Option Page)
    → page_seen verb o ≡ Some (id, page) → draws_for o ≡ 0
found-none None verb id page is = cc
found-none (Some identity) verb id page is = refl

pub takes-none : (mode : Mode) (request : PageRequest) (id : List ℕ) (page : Option Page)
    → page_seen request.verb (identity_of mode request) ≡ Some (id, page)
    → draws_for (identity_of mode request) ≡ 0
takes-none mode request id page is = found-none (identity_of mode request) request.verb id page is

none-found : (o : Option IdentityOf) (verb : Verb) → page_seen verb o ≡ None → o ≡ None
none-found None verb is = refl
none-found (Some identity) verb is = cc

pub no_id : (mode : Mode) (request : PageRequest)
    → page_seen request.verb (identity_of mode request) ≡ None → identity_of mode request ≡ None
no_id mode request is = none-found (identity_of mode request) request.verb is

pub without-id : (mode : Mode) (t : ℕ) (request : PageRequest) (draw : Draw) (value : List ℕ)
    → identity_of mode request ≡ None → draw.value ≡ Some value
    → (draws : List Draw) (replies : List Reply)
    → serve mode t request (draw ∷ draws) replies ≡ serve_new mode value t request draws replies
unfolding serve
without-id mode t request draw value none is draws replies =
    ap (λ o. serve_found o mode t request (draw ∷ draws) replies) none
    ∙ ap (λ v. serve_value mode v t request draws replies) is

pub failed-id : (mode : Mode) (t : ℕ) (request : PageRequest) (draw : Draw)
    → identity_of mode request ≡ None → draw.value ≡ None
    → (draws : List Draw) (replies : List Reply)
    → serve mode t request (draw ∷ draws) replies
    ≡ without_page (plain_answer statuses.NoIdentifier None) draws replies
unfolding serve
failed-id mode t request draw none is draws replies =
    ap (λ o. serve_found o mode t request (draw ∷ draws) replies) none
    ∙ ap (λ v. serve_value mode v t request draws replies) is

-- ---- a draw

pub drew-value : {E : Type 0} (old new : RandomState) (result : Result (List ℕ) E)
    → GivesValue old.told new.told (result_ok result) → HasCause old.faults new.faults result
    → IsDraw old (record { value = result_ok result; faults = new.faults }) new
drew-value old new (Ok value) gives cause =
    record { gives = gives; count = refl; later = cause.later; failed = tt }
drew-value old new (Err e) gives cause =
    record { gives = gives; count = refl; later = cause.later; failed = cause.failed }

-- ---- the page of a request

same_start : (page : Page) (id : List ℕ) (t : ℕ) (body : List ℕ) (desk : DeskState)
    (key : List ℕ) (need : Need) (ending : Ending) → key ≡ session_key id → need ≡ page_need page
    → ending ≡ ending_of page body
    → (let start : PageStart = record {
      terms = page_terms key need;
      ending = ending;
      moment = t;
      desk = desk;
    } in start ≡ page_start page id t body desk)
same_start page id t body desk key need ending is_key is_need is_ending =
    ap (λ k. let start : PageStart = record {
      terms = page_terms k need;
      ending = ending;
      moment = t;
      desk = desk;
    } in start) is_key
    ∙ ap (λ n. let start : PageStart = record {
      terms = page_terms (session_key id) n;
      ending = ending;
      moment = t;
      desk = desk;
    } in start) is_need
    ∙ ap (λ e. let start : PageStart = record {
      terms = page_terms (session_key id) (page_need page);
      ending = e;
      moment = t;
      desk = desk;
    } in start) is_ending

module _ (CanCount : ℕ → Type 0) (desk desk' : DeskState) (page : Page) (id : List ℕ) (t : ℕ)
    (body : List ℕ) (key : List ℕ) (need : Need) (ending : Ending) (is_key : key ≡ session_key id)
    (is_need : need ≡ page_need page) (is_ending : ending ≡ ending_of page body)
  where
    pub comes-as : (outcome : Outcome) (content : Option (List ℕ))
        → PageComesTo CanCount (record {
          terms = page_terms key need;
          ending = ending;
          moment = t;
          desk = desk;
        }) desk' outcome content → PageComesTo CanCount (page_start page id t body desk) desk' outcome
        content
    comes-as outcome content = subst (λ (s : PageStart). PageComesTo CanCount s desk' outcome content)
        (same_start page id t body desk key need ending is_key is_need is_ending)

    pub cut-as : PageIsCut CanCount (record {
      terms = page_terms key need;
      ending = ending;
      moment = t;
      desk = desk;
    }) desk' → PageIsCut CanCount (page_start page id t body desk) desk'
    cut-as = subst (λ (s : PageStart). PageIsCut CanCount s desk')
        (same_start page id t body desk key need ending is_key is_need is_ending)

-- ---- results

pub if_ok : {T E : Type 0} {P Q : T → Type 0} (r : Result T E) → IfOk r P
    → ((x : T) → P x → Q x) → IfOk r Q
if_ok (Ok x) holds more = more x holds
if_ok (Err e) holds more = tt

pub on_err : {T E : Type 0} {P Q : Type 0} (r : Result T E) → OnErr r P → (P → Q) → OnErr r Q
on_err (Ok x) holds more = tt
on_err (Err e) holds more = more holds

pub err_of : {T E : Type 0} {P : Type 0} (r : Result T E) → P → OnErr r P
err_of (Ok x) holds = tt
err_of (Err e) holds = holds

pub ok_all : {T E : Type 0} {P : T → Type 0} (r : Result T E) → ((x : T) → P x) → IfOk r P
ok_all (Ok x) holds = holds x
ok_all (Err e) holds = tt
