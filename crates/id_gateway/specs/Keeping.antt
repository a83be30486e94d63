-- Inside a run: one request, and where the gateway stands between two.
use Rattle.std.specs.Prelude.{◌≡◌, ◌≢◌, ◌⊎◌, ℕ, List, [], ◌++◌, length, map, Option, Some, None, Bool, IfSome, IsTrue, IsFalse}
use Rattle.std.specs.List.{AllByRecursion}
use Rattle.asp_base.specs.Moments.{Ticking, step_moment}
use Rattle.asp_messages.specs.declared.reply.Reply.{Reply}
use Rattle.asp_messages.specs.Stream.{Spelled, HasNoMessage, IsHopeless}
use Rattle.plain_desk.specs.DeskStands.{DeskState, desk_state as desk_state}
use Rattle.keeper.specs.declared.keeping.Keeper as keepers
use Rattle.command_loop.specs.Feeding.{Going, GoesOn, OverAnyhow, OverAtEnd}
use Rattle.message_framing.specs.ReaderState.{ReaderState}
use Rattle.session_machine.specs.declared.entry.Entry.{Entry}
use Rattle.visit_core.specs.VisitRule.{Event}
use Rattle.page_requests.specs.declared.identities.Mode.{Mode}
use Rattle.page_requests.specs.declared.page.Page.{Page}
use Rattle.page_requests.specs.declared.request.PageRequest.{PageRequest}
use Rattle.page_requests.specs.declared.request.Verb.{Verb}
use Rattle.page_requests.specs.Identities.{IdentityOf, identity_of}
use Rattle.page_requests.specs.Pages.{page_at}
use Rattle.page_requests.specs.Requests.{SpellsPage}
use Rattle.page_visit.specs.Asked.{DeskDoes, DeskHas, said, asked, replies_of}
use Rattle.id_gateway.specs.declared.answer.Answer.{Answer}
use Rattle.id_gateway.specs.declared.gatekeeper.Gatekeeper.{Gatekeeper}
use Rattle.id_gateway.specs.declared.top_call.GateVerdict.{GateVerdict}
use Rattle.id_gateway.specs.declared.top_call.GateVerdict.TheVariants.{Whole, Broken}
use Rattle.id_gateway.specs.declared.random.Random as randoms
use Rattle.id_gateway.specs.declared.words.GateTerms.{GateTerms}
use Rattle.id_gateway.specs.Draws.{Draw, RandomState, AreDraws}
use Rattle.id_gateway.specs.Gate.{AllAnswered, AllButLast, IsLawfulVisit, last_bad}
use Rattle.id_gateway.specs.Serving.{Served, Serving, Visited, serve, serves, texts, events, visited_events, draws_for, draws_needed}

-- what contracts see of a source of random values of the type
abbrev pub random_of : {R : Type 0} → randoms.Ghosts R → R → RandomState
random_of G random = record { told = G.told random; faults = G.faults random }

-- the identifier of a request, and the page of its path
abbrev pub page_seen : Verb → Option IdentityOf → Option (List ℕ × Option Page)
page_seen verb None = None
page_seen verb (Some identity) = Some (identity.id, page_at verb identity.path)

-- ---- one request

-- The desk did what a step asks, which gives this answer, and takes the replies to its own events
-- alone.
pub record ServesAt (CanCount : ℕ → Type 0) (Step : List Draw → List Reply → Serving)
    (desk desk' : DeskState) (answer : Answer) : Type 0 where
  pub visited : Option Visited
  pub step : (draws : List Draw) (more : List Reply)
      → Step draws (replies_of (visited_events visited) ++ more) ≡ record {
        served = record { answer = Some answer; visited = visited };
        draws = draws;
        replies = more;
      }
  pub did : DeskDoes CanCount desk desk' (visited_events visited)
  pub lawful : IfSome visited IsLawfulVisit

-- The desk did a part of what a step asks: with the replies to that the step asks just that.
pub record CutsAt (CanCount : ℕ → Type 0) (Step : List Draw → List Reply → Serving)
    (desk desk' : DeskState) : Type 0 where
  pub past : List Event
  pub asks : (draws : List Draw) (j : ℕ)
      → asked j (visited_events (Step draws (replies_of past)).served.visited) ≡ asked j past
  pub did : DeskDoes CanCount desk desk' past
  pub lawful : (draws : List Draw)
      → IfSome (Step draws (replies_of past)).served.visited IsLawfulVisit

-- A request was answered, behind so many draws, which are those that it takes.
pub record ServesPage (CanCount : ℕ → Type 0) (mode : Mode) (t : ℕ) (request : PageRequest)
    (desk desk' : DeskState) (random random' : RandomState) (answer : Answer) : Type 0 where
  pub drawn : List Draw
  pub drew : AreDraws random drawn random'
  pub once : length drawn ≡ draws_for (identity_of mode request)
  pub at : ServesAt CanCount (λ draws replies. serve mode t request (drawn ++ draws) replies)
      desk desk' answer

-- The same, where the request was not answered for want of memory.
pub record CutsPage (CanCount : ℕ → Type 0) (mode : Mode) (t : ℕ) (request : PageRequest)
    (desk desk' : DeskState) (random random' : RandomState) : Type 0 where
  pub drawn : List Draw
  pub drew : AreDraws random drawn random'
  pub once : length drawn ≡ draws_for (identity_of mode request)
  pub at : CutsAt CanCount (λ draws replies. serve mode t request (drawn ++ draws) replies)
      desk desk'

-- ---- between two requests

-- A gateway: the bytes held, its desk, its clock, its random values.
pub record GateState : Type 0 where
  pub held : List ℕ
  pub desk : DeskState
  pub clock : Ticking
  pub random : RandomState

-- The bytes taken so far are requests and what is held, each request was answered, and the bytes
-- that are due so far are the answers.
pub record GateProgress (CanCount : ℕ → Type 0) (gate : GateTerms) (start : RandomState)
    (bytes due : List ℕ) (s : GateState) : Type 0 where
  pub requests : List PageRequest
  pub draws : List Draw
  pub list : List Entry
  pub served : List Served
  pub spelled : Spelled SpellsPage bytes requests s.held
  pub follows : (later : List PageRequest) (ds : List Draw) (more : List Reply)
      → serves gate 0 (requests ++ later) (draws ++ ds) (map (λ (e : Entry). e.reply) list ++ more)
      ≡ served ++ serves gate (length requests) later ds more
  pub due_is : due ≡ texts served
  pub answered : AllAnswered served
  pub lawful : AllByRecursion (λ (one : Served). IfSome one.visited IsLawfulVisit) served
  pub asks : map said list ≡ asked 0 (events served)
  pub desk : DeskHas CanCount list s.desk
  pub drew : AreDraws start draws s.random
  pub drew_once : length draws ≡ draws_needed gate.mode requests
  pub moment : s.clock.next ≡ step_moment gate.start gate.step (length requests)
  pub step : s.clock.step ≡ gate.step

-- The same behind a request that was maybe not answered; the bytes that are due are the answers
-- before it.
pub record Lacking (CanCount : ℕ → Type 0) (gate : GateTerms) (start : RandomState)
    (bytes rest due : List ℕ) (desk : DeskState) (random : RandomState) : Type 0 where
  pub requests : List PageRequest
  pub draws : List Draw
  pub list : List Entry
  pub served : List Served
  pub front : List Served
  pub spelled : Spelled SpellsPage bytes requests rest
  pub served_is : served ≡ serves gate 0 requests draws (map (λ (e : Entry). e.reply) list)
  pub but_last : AllButLast served front
  pub due_is : due ≡ texts front
  pub lawful : AllByRecursion (λ (one : Served). IfSome one.visited IsLawfulVisit) served
  pub asks : map said list ≡ asked 0 (events served)
  pub has : DeskHas CanCount list desk
  pub drew : AreDraws start draws random
  pub drew_once : length draws ≡ draws_needed gate.mode requests

-- the bytes behind the requests that were taken: those that are held, or, where the reader is
-- broken, some that can become no request
abbrev pub IsPageRest : ReaderState → List ℕ → Type 0
IsPageRest reader rest = (IsFalse reader.is_broken × (rest ≡ reader.held))
    ⊎ (IsTrue reader.is_broken × IsHopeless SpellsPage rest)

module _ {K R : Type 0} (G : keepers.Ghosts K) (H : randoms.Ghosts R) where
  -- the gateway's state, with this rest held
  abbrev pub state_with : Gatekeeper K R → List ℕ → GateState
  state_with now rest = record {
    held = rest;
    desk = desk_state G now.desk;
    clock = now.clock;
    random = random_of H now.random;
  }

  -- What stays as it was.
  pub record GateStays (first now : Gatekeeper K R) : Type 0 where
    pub gate : now.gate ≡ first.gate
    pub floor : G.floor now.desk.keeper ≡ G.floor first.desk.keeper

  -- The bytes are requests that were answered and a rest, and these are the answers.
  pub record HasAnsweredPages (first now : Gatekeeper K R) (bytes rest due : List ℕ) : Type 0 where
    pub stays : GateStays first now
    pub progress : GateProgress G.can_count first.gate (random_of H first.random) bytes due
        (state_with now rest)

  -- ---- the consumer

  abbrev pub GateWent : Gatekeeper K R → Gatekeeper K R → List ℕ → List ℕ → Type 0
  GateWent first now bytes due = (rest : List ℕ) × IsPageRest now.reader.bytes rest
      × HasAnsweredPages first now bytes rest due

  -- all that can be done with the bytes held was done: no request is whole; if more bytes could
  -- follow, they may be fed
  pub record GateWaits (more : Bool) (now : Gatekeeper K R) : Type 0 where
    pub may_feed : IsTrue now.reader.bytes.may_feed
    pub none : IsFalse now.reader.bytes.is_broken → HasNoMessage SpellsPage now.reader.bytes.held
    pub whole : IsTrue more → IsFalse now.reader.bytes.is_broken

  abbrev pub GateGave : Gatekeeper K R → Gatekeeper K R → List ℕ → List ℕ → List ℕ → Type 0
  GateGave first now bytes whole last =
      (rest : List ℕ) × HasAnsweredPages first now bytes rest (whole ++ last)

  -- the rest can become no request
  abbrev pub GateBreaks : GateVerdict → Gatekeeper K R → Gatekeeper K R → List ℕ → List ℕ → List ℕ
      → Type 0
  GateBreaks Whole first now bytes whole last = ⊥
  GateBreaks Broken first now bytes whole last = (last ≡ last_bad)
      × ((rest : List ℕ) × IsHopeless SpellsPage rest × HasAnsweredPages first now bytes rest whole)

  -- the input ended behind a request, or inside one
  abbrev pub GateCloses : GateVerdict → Gatekeeper K R → Gatekeeper K R → List ℕ → List ℕ → List ℕ
      → Type 0
  GateCloses Whole first now bytes whole last = (last ≡ [])
      × HasAnsweredPages first now bytes [] whole
  GateCloses Broken first now bytes whole last = (last ≡ last_bad)
      × ((rest : List ℕ) × (rest ≢ []) × HasNoMessage SpellsPage rest
      × HasAnsweredPages first now bytes rest whole)

  -- what was given last, as it goes on: with the next request, or over
  abbrev pub GateGaveSo : Going GateVerdict → Gatekeeper K R → Gatekeeper K R → List ℕ → List ℕ
      → List ℕ → Type 0
  GateGaveSo GoesOn first now bytes whole last = GateGave first now bytes whole last
  GateGaveSo (OverAnyhow more verdict) first now bytes whole last =
      IsTrue more × GateBreaks verdict first now bytes whole last
  GateGaveSo (OverAtEnd verdict) first now bytes whole last =
      GateCloses verdict first now bytes whole last

  -- the last request was maybe not answered
  abbrev pub GateLacks : Gatekeeper K R → Gatekeeper K R → List ℕ → List ℕ → Type 0
  GateLacks first now bytes due = (rest : List ℕ) × GateStays first now
      × Lacking G.can_count first.gate (random_of H first.random) bytes rest due
      (desk_state G now.desk) (random_of H now.random)
