-- A run of the gateway, from the bytes that were taken to those that were written.
use Rattle.std.specs.Prelude.{◌⊎◌, ◌≢◌, ◌≡◌, ℕ, ◌<◌, ◌≤◌, ◌^◌, List, [], ◌++◌, length, map, Option, Some, None, IfSome}
use Rattle.std.specs.List.{AllByRecursion}
use Rattle.asp_base.specs.Limits.{most_input}
use Rattle.asp_base.specs.Outside.{Gives, IsAtEnd, Takes, TakesFront}
use Rattle.asp_messages.specs.declared.reply.Reply.TheVariants.{Bad}
use Rattle.asp_messages.specs.ReplyText.{reply_text}
use Rattle.asp_messages.specs.Stream.{Spelled, HasNoMessage, IsHopeless}
use Rattle.session_machine.specs.declared.entry.Entry.{Entry}
use Rattle.session_machine.specs.declared.item.Item.{Item}
use Rattle.session_machine.specs.History.{nothing}
use Rattle.shard_core.specs.ShardStands.{StandsFor}
use Rattle.command_loop.specs.declared.ending.RunEnd as run
use Rattle.command_loop.specs.declared.ending.RunEnd.TheVariants.{Over, ReadFault, WriteFault, NoMemory, Long}
use Rattle.command_loop.specs.Flow.{Flow}
use Rattle.command_loop.specs.Status.{status_of_run as status_with}
use Rattle.visit_core.specs.VisitRule.{IsLawful}
use Rattle.page_requests.specs.declared.request.PageRequest.{PageRequest}
use Rattle.page_requests.specs.Requests.{SpellsPage}
use Rattle.page_visit.specs.Asked.{said, asked}
use Rattle.id_gateway.specs.declared.top_call.GateVerdict.{GateVerdict}
use Rattle.id_gateway.specs.declared.top_call.GateVerdict.TheVariants.{Whole, Broken}
use Rattle.id_gateway.specs.declared.words.GateTerms.{GateTerms}
use Rattle.id_gateway.specs.Draws.{Draw, RandomState, AreDraws}
use Rattle.id_gateway.specs.Serving.{Served, Visited, serves, texts, events, IsAnswered, draws_needed}

-- how a run ends
abbrev pub GateEnd : Type 0
GateEnd = run.RunEnd GateVerdict

-- the exit status of what was found
abbrev pub verdict_number : GateVerdict → ℕ
verdict_number Whole = 0
verdict_number Broken = 3

-- the exit status of an ending: 4 to 7 where it was stopped
abbrev pub status_number : GateEnd → ℕ
status_number end = status_with verdict_number end

-- the numbers of a gate are in range
pub record GateFits (gate : GateTerms) : Type 0 where
  pub start : gate.start ≤ 2 ^ 61
  pub step : gate.step ≤ 2 ^ 61

-- the text that says that the input is broken
abbrev pub last_bad : List ℕ
last_bad = reply_text Bad

-- the rest is no whole requests: it is not empty, and no bytes can follow that make a request of
-- it, or the input ended inside it
abbrev pub IsBrokenPages : Option (List ℕ × List ℕ) → List ℕ → Type 0
IsBrokenPages source' rest = (rest ≢ []) × (IsHopeless SpellsPage rest ⊎ IsAtEnd source')

-- Where a run stood when it ended: the flow of its bytes, the rest that is no whole request, how
-- many bytes were taken, and what became of the requests.
pub record GateReached : Type 0 where
  pub flow : Flow
  pub rest : List ℕ
  pub count : ℕ
  pub served : List Served

-- the sink took these bytes, or a front of them
abbrev pub GateWrote : GateReached → List ℕ → Type 0
GateWrote r bytes = Takes r.flow.sink r.flow.sink' bytes

abbrev pub GateWroteFront : GateReached → List ℕ → Type 0
GateWroteFront r bytes = TakesFront r.flow.sink r.flow.sink' bytes

-- the rest is none, and the most bytes were not taken
abbrev pub GateStopsBroken : GateReached → Type 0
GateStopsBroken r = IsBrokenPages r.flow.source' r.rest × HasNoMessage SpellsPage r.rest
    × (r.count < most_input)

-- each request was answered
abbrev pub AllAnswered : List Served → Type 0
AllAnswered served = AllByRecursion IsAnswered served

-- each but at most the last was answered
pub record AllButLast (served front : List Served) : Type 0 where
  pub last : List Served
  pub parts : served ≡ front ++ last
  pub few : length last ≤ 1
  pub answered : AllAnswered front

-- What holds at each ending.
abbrev pub GateEndsAs : GateEnd → GateReached → Type 0
GateEndsAs (Over Whole) r = AllAnswered r.served × IsAtEnd r.flow.source' × (r.rest ≡ [])
    × (r.count < most_input) × GateWrote r (texts r.served)
GateEndsAs (Over Broken) r = AllAnswered r.served × GateStopsBroken r
    × GateWrote r (texts r.served ++ last_bad)
GateEndsAs ReadFault r = AllAnswered r.served × HasNoMessage SpellsPage r.rest
    × (r.count < most_input) × GateWrote r (texts r.served)
GateEndsAs WriteFault r = AllAnswered r.served × (GateWroteFront r (texts r.served)
    ⊎ (GateStopsBroken r × GateWroteFront r (texts r.served ++ last_bad)))
GateEndsAs NoMemory r = (front : List Served) × AllButLast r.served front
    × GateWrote r (texts front)
GateEndsAs Long r = AllAnswered r.served × HasNoMessage SpellsPage r.rest
    × (r.count ≡ most_input) × GateWrote r (texts r.served)

-- the visit of a page follows its rule
abbrev pub IsLawfulVisit : Visited → Type 0
IsLawfulVisit visit = IsLawful visit.terms visit.past

-- What is seen of a run: the flow of its bytes, the random values to come before it and behind it,
-- and what the keeper that is handed back tells and counts.
pub record GateSeen : Type 0 where
  pub flow : Flow
  pub random : RandomState
  pub random' : RandomState
  pub told : Option (List ℕ → Option Item)
  pub faults : ℕ

-- the same, of its parts
abbrev pub gate_seen : Flow → RandomState → RandomState → Option (List ℕ → Option Item) → ℕ
    → GateSeen
gate_seen f random random' told faults = record {
  flow = f;
  random = random;
  random' = random';
  told = told;
  faults = faults;
}

-- A run: the bytes taken, at most the most, are page requests and a rest; draws were made for those
-- without an identifier, and for no others; the entries are what the visits of their pages asked of
-- the desk, from nothing on; each visit follows its rule; the keeper that is handed back has the
-- items and the count after the entries; and the answers were written as the ending says. (CanCount
-- says which counts of faults the keeper's type can have.)
pub record IsGateRun (CanCount : ℕ → Type 0) (gate : GateTerms) (seen : GateSeen) (end : GateEnd)
    : Type 0 where
  pub bytes : List ℕ
  pub requests : List PageRequest
  pub rest : List ℕ
  pub draws : List Draw
  pub list : List Entry
  pub given : Gives seen.flow.source seen.flow.source' bytes
  pub within : length bytes ≤ most_input
  pub spelled : Spelled SpellsPage bytes requests rest
  pub drew : AreDraws seen.random draws seen.random'
  pub drew_once : length draws ≡ draws_needed gate.mode requests
  pub served : List Served
  pub served_is : served ≡ serves gate 0 requests draws (map (λ (e : Entry). e.reply) list)
  pub asks : map said list ≡ asked 0 (events served)
  pub lawful : AllByRecursion (λ (one : Served). IfSome one.visited IsLawfulVisit) served
  pub counts : AllByRecursion (λ (e : Entry). CanCount e.faults) list
  pub stands : StandsFor nothing 0 list seen.told seen.faults
  pub ends : GateEndsAs end (record {
    flow = seen.flow;
    rest = rest;
    count = length bytes;
    served = served;
  })

-- the input is whole page requests of fewer than so many bytes
abbrev pub IsWholePages : Option (List ℕ × List ℕ) → Type 0
IsWholePages None = ⊥
IsWholePages (Some told) = (length told.1 < most_input)
    × ((requests : List PageRequest) × Spelled SpellsPage told.1 requests [])
