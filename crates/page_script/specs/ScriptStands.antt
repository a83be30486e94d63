-- How a script stands for a world: its pages' visits for their pasts, and its desk for the turns so
-- far.
use Rattle.std.specs.Prelude.{◌≡◌, ◌⊎◌, ℕ, ◌+◌, ◌<◌, List, [], ◌∷◌, ◌++◌, length, map, filter, Option, Some, None, Bool, true, if◌then◌else◌, ⊤}
use Rattle.std.specs.List.{AllByRecursion}
use Rattle.asp_messages.specs.declared.request.Request.{Request}
use Rattle.asp_messages.specs.declared.reply.Reply.{Reply}
use Rattle.session_machine.specs.declared.item.Item.{Item}
use Rattle.keeper.specs.declared.keeping.Keeper.{Ghosts}
use Rattle.plain_desk.specs.DeskStands.{DeskOf, DeskState, DeskStandsFor, desk_state}
use Rattle.plain_desk.specs.Openings.{Opening, opening_over}
use Rattle.visit_core.specs.Acts.{send, run}
use Rattle.visit_core.specs.VisitRule.{Event, ended, act_of, has_ended}
use Rattle.visit_core.specs.Stages.{VisitState, HasPast}
use Rattle.page_script.specs.declared.line.Line.{Line}
use Rattle.page_script.specs.declared.script_page.ScriptPage.{ScriptPage}
use Rattle.page_script.specs.declared.script.Script.{Script}
use Rattle.page_script.specs.Lines.{IsScriptLine}
use Rattle.page_script.specs.World.{Page, PageInWorld, WorldTurn, World, history, event_of, drawn_for, MayStandNext, Performs, with_events, WorldStep, turns_of, is_heard}

-- ---- the desk

-- The desk stands for the history of the turns, with this beginning. (CanCount says which counts of
-- faults a keeper of this type can have.)
pub record DeskHasTurns (CanCount : ℕ → Type 0) (desk : DeskState) (opening : Opening)
    (turns : List WorldTurn) : Type 0 where
  pub stands : DeskStandsFor CanCount opening.cookies.next opening.items opening.count
      (history turns) desk
  pub last : desk.cookies.last ≡ opening.cookies.last

-- the same of a desk over a keeper of the type
abbrev pub HasTurns : {K : Type 0} → Ghosts K → DeskOf K → Opening → List WorldTurn → Type 0
HasTurns G desk opening turns = DeskHasTurns G.can_count (desk_state G desk) opening turns

-- a request that is answered so, behind which the keeper counts so many faults
pub record Answered : Type 0 where
  pub request : Request
  pub reply : Reply
  pub faults : ℕ

-- the turn of the page with this number that is answered so behind other turns
abbrev pub turn_at : ℕ → ℕ → Opening → List WorldTurn → Answered → WorldTurn
turn_at number t opening turns answered = record {
  page = number;
  moment = t;
  request = answered.request;
  drawn = drawn_for opening turns answered.request.ask;
  reply = answered.reply;
  faults = answered.faults;
}

-- ---- a page

-- A page of a script stands for the page of the world with this number: its visit has the page's
-- past, the ending is kept until the visit is told of it, and what the visit heard is the page's
-- own turns.
pub record PageStands (turns : List WorldTurn) (number : ℕ) (live : ScriptPage) (page : Page) : Type
    0 where
  pub name : live.name ≡ page.name
  pub terms : live.visit.terms ≡ page.terms
  pub past : HasPast live.visit page.past
  pub ending : live.ending ≡ (if has_ended page.past then None else Some page.ending)
  pub own : filter is_heard page.past ≡ map event_of (turns_of number turns)

-- the pages of a script stand for those of the world, from this number on
abbrev pub PagesStand : List WorldTurn → ℕ → List ScriptPage → List Page → Type 0
PagesStand turns number [] [] = ⊤
PagesStand turns number [] (page ∷ pages) = ⊥
PagesStand turns number (live ∷ lives) [] = ⊥
PagesStand turns number (live ∷ lives) (page ∷ pages) = PageStands turns number live page
    × PagesStand turns (number + 1) lives pages

-- A page of a script, and the desk that it asks.
pub record PageAtDesk : Type 0 where
  pub page : ScriptPage
  pub desk : DeskState

-- The page of the world took a step at the moment, and the page and its desk stand for it behind
-- that; what it prints meets the condition.
pub record StepsAtDesk (CanCount : ℕ → Type 0) (t : ℕ) (old : PageInWorld) (at : PageAtDesk)
    (Prints : List ℕ → Type 0) : Type 0 where
  pub events : List Event
  pub asked : List WorldTurn
  pub words : List ℕ
  pub acts : Performs (act_of old.page.terms old.page.past t) t old
      (record { events = events; asked = asked; words = words })
  pub page_stands : PageStands (old.turns ++ asked) old.number at.page
      (with_events old.page events)
  pub desk_stands : DeskHasTurns CanCount at.desk old.opening (old.turns ++ asked)
  pub prints : Prints words

-- each page of the world that the page of the script stood for, with the desk behind it, took the
-- step
abbrev pub EachSteps : (ℕ → Type 0) → ℕ → PageAtDesk → PageAtDesk → (List ℕ → Type 0) → Type 0
EachSteps CanCount t old new Prints =
    (at : PageInWorld) → PageStands at.turns at.number old.page at.page
    → DeskHasTurns CanCount old.desk at.opening at.turns
    → StepsAtDesk CanCount t at new Prints

-- The page and the desk still stand for what they stood for.
pub record Stays (CanCount : ℕ → Type 0) (old : PageInWorld) (at : PageAtDesk) : Type 0 where
  pub page_stands : PageStands old.turns old.number at.page old.page
  pub desk_stands : DeskHasTurns CanCount at.desk old.opening old.turns

-- each page of the world that the page of the script stood for, with the desk behind it, stayed or
-- took the step
abbrev pub EachMayStep : (ℕ → Type 0) → ℕ → PageAtDesk → PageAtDesk → Type 0
EachMayStep CanCount t old new =
    (at : PageInWorld) → PageStands at.turns at.number old.page at.page
    → DeskHasTurns CanCount old.desk at.opening at.turns
    → Stays CanCount at new ⊎ StepsAtDesk CanCount t at new (λ words. ⊤)

-- a page of a script at a desk over a keeper of the type
abbrev pub at_desk : {K : Type 0} → Ghosts K → ScriptPage → DeskOf K → PageAtDesk
at_desk G page desk = record { page = page; desk = desk_state G desk }

-- each page of the world that the page of the script stood for, with the desk behind it, took the
-- step, behind which both are these
abbrev pub EachStepsAt : {K : Type 0} → Ghosts K → ℕ → ScriptPage → DeskOf K → ScriptPage → DeskOf K
    → (List ℕ → Type 0) → Type 0
EachStepsAt G t page desk page' desk' Prints =
    EachSteps G.can_count t (at_desk G page desk) (at_desk G page' desk') Prints

-- each of them stayed or took the step
abbrev pub EachMayStepAt : {K : Type 0} → Ghosts K → ℕ → ScriptPage → DeskOf K → ScriptPage
    → DeskOf K → Type 0
EachMayStepAt G t page desk page' desk' =
    EachMayStep G.can_count t (at_desk G page desk) (at_desk G page' desk')

-- by each of its pasts the visit sends this request at the moment
abbrev pub WillSend : VisitState → ℕ → Request → Type 0
WillSend visit t request = (past : List Event) → HasPast visit past
    → act_of visit.terms past t ≡ send request

-- each page of the world that the page of the script stood for, and that runs, has ended
abbrev pub EachHasEnded : ScriptPage → ScriptPage → Type 0
EachHasEnded live live' =
    (number : ℕ) (turns : List WorldTurn) (page : Page) (content : Option (List ℕ)) (first : Bool)
    (t : ℕ) → PageStands turns number live page
    → act_of page.terms page.past t ≡ run content first
    → PageStands turns number live' (with_events page (ended page.ending ∷ []))

-- ---- the script

-- the keeper of a script
abbrev pub keeper_of : {K : Type 0} → Script K → K
keeper_of script = script.desk.keeper

-- how the history of a script begins that has no pages yet
abbrev pub opening_of : {K : Type 0} → Ghosts K → Script K → Opening
opening_of G script = opening_over G script.desk.keeper script.desk.cookies

-- memory was wanting
abbrev pub ScriptIsOver : {K : Type 0} → Script K → Type 0
ScriptIsOver script = script.is_over ≡ true

-- The script stands for the world.
pub record ScriptStands {K : Type 0} (G : Ghosts K) (script : Script K)
    (world : World) : Type 0 where
  pub limits : script.limits ≡ world.limits
  pub pages : PagesStand world.turns 0 script.pages.items world.pages
  pub numbered : AllByRecursion (λ turn. turn.page < length world.pages) world.turns
  pub desk : HasTurns G script.desk world.opening world.turns

-- a fact of each world that the script stands for
abbrev pub EachWorld : {K : Type 0} → Ghosts K → Script K → (World → Type 0) → Type 0
EachWorld G script P = (world : World) → ScriptStands G script world → P world

-- each world that the script stood for is one that it still stands for
abbrev pub EachWorldStays : {K : Type 0} → Ghosts K → Script K → Script K → Type 0
EachWorldStays G script script' = EachWorld G script (ScriptStands G script')

-- the text stands behind what was there
abbrev pub IsAppended : List ℕ → List ℕ → List ℕ → Type 0
IsAppended old new text = new ≡ old ++ text

-- The world takes the line: the script stands for the world after it, and what is printed for it
-- meets the condition.
pub record WorldTakes {K : Type 0} (G : Ghosts K) (script' : Script K) (world : World) (line : Line)
    (Prints : List ℕ → Type 0) : Type 0 where
  pub world' : World
  pub printed : List ℕ
  pub step : WorldStep world line world' printed
  pub stands : ScriptStands G script' world'
  pub prints : Prints printed

-- each world that the script stood for takes the line
abbrev pub EachWorldTakes : {K : Type 0} → Ghosts K → Script K → Script K → Line
    → (List ℕ → Type 0) → Type 0
EachWorldTakes G script script' line Prints =
    EachWorld G script (λ world. WorldTakes G script' world line Prints)

-- each of them stays, or takes the line, whatever is printed for it
abbrev pub EachWorldMayTake : {K : Type 0} → Ghosts K → Script K → Script K → Line → Type 0
EachWorldMayTake G script script' line = EachWorld G script
    (λ world. ScriptStands G script' world ⊎ WorldTakes G script' world line (λ printed. ⊤))

-- in none of them may the line follow
abbrev pub NoWorldTakes : {K : Type 0} → Ghosts K → Script K → Line → Type 0
NoWorldTakes G script line = EachWorld G script (λ world. MayStandNext world line → ⊥)

-- The text is a line, and the world takes it.
pub record WorldTakesText {K : Type 0} (G : Ghosts K) (script' : Script K) (world : World)
    (text : List ℕ) (Prints : List ℕ → Type 0) : Type 0 where
  pub line : Line
  pub is_line : IsScriptLine text line
  pub takes : WorldTakes G script' world line Prints

-- the text is a line, and each world that the script stood for takes it
abbrev pub EachWorldTakesText : {K : Type 0} → Ghosts K → Script K → Script K → List ℕ
    → (List ℕ → Type 0) → Type 0
EachWorldTakesText G script script' text Prints =
    EachWorld G script (λ world. WorldTakesText G script' world text Prints)

-- each of them stays, or takes the line that the text is, whatever is printed for it
abbrev pub EachWorldMayTakeText : {K : Type 0} → Ghosts K → Script K → Script K → List ℕ → Type 0
EachWorldMayTakeText G script script' text = EachWorld G script
    (λ world. ScriptStands G script' world ⊎ WorldTakesText G script' world text (λ printed. ⊤))

-- the text is no line that may follow in one of them
abbrev pub NoWorldTakesText : {K : Type 0} → Ghosts K → Script K → List ℕ → Type 0
NoWorldTakesText G script text = (line : Line) → IsScriptLine text line → NoWorldTakes G script line

-- a fact where a keeper tells its items
abbrev pub IfTold : Option (List ℕ → Option Item) → Type 0 → Type 0
IfTold None P = ⊤
IfTold (Some items) P = P

-- the same of the keeper of a script
abbrev pub IfTells : {K : Type 0} → Ghosts K → Script K → Type 0 → Type 0
IfTells G script P = IfTold (desk_state G script.desk).told P
