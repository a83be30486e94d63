-- The world of a script: named pages that visit one state server by a schedule, and what is printed
-- of it. Each page follows the rule of a visit, and each request that it sends is one step of the
-- session machine, whose reply it hears at once.
use Rattle.std.specs.Prelude.{◌≡◌, ℕ, ◌<◌, List, [], ◌∷◌, ◌++◌, length, map, filter, codes, decimal, Option, Some, None, Bool, true, false, ◌==◌, ⊤}
use Rattle.asp_messages.specs.declared.request.Request.{Request}
use Rattle.asp_messages.specs.declared.request.Ask.{Ask}
use Rattle.asp_messages.specs.declared.request.Ask.TheVariants.{Release}
use Rattle.asp_messages.specs.declared.reply.Reply.{Reply as ReplyValue}
use Rattle.asp_messages.specs.declared.reply.Reply.TheVariants.{Locked}
use Rattle.asp_messages.specs.PlainSpelling.{◌then◌, flag_word, bytes_word, ask_spelling, reply_spelling}
use Rattle.asp_messages.specs.Ranges.{ReplyFits}
use Rattle.plain_desk.specs.Draws.{draw_of, draws_in}
use Rattle.plain_desk.specs.Openings.{Opening}
use Rattle.session_machine.specs.declared.entry.Entry.{Entry}
use Rattle.session_machine.specs.Profiles.{newest}
use Rattle.shard_core.specs.ShardStands.{asked_entry}
use Rattle.lock_laws.specs.Laws.{IsInForceFor}
use Rattle.visit_core.specs.declared.act.Ending.{Ending}
use Rattle.visit_core.specs.declared.act.Heard.TheVariants.{Reply}
use Rattle.visit_core.specs.declared.visit_terms.Limits.{Limits}
use Rattle.visit_core.specs.Acts.{Action, send, wait_until, run, over}
use Rattle.visit_core.specs.OutcomeText.{outcome_spelling}
use Rattle.visit_core.specs.VisitRule.{Event, heard, ended, lost, act_of, send_ask, ask_for, has_ended, IsLawful, MeetsOldLock}
use Rattle.visit_core.specs.Terms.{VisitTerms, default_limits}
use Rattle.page_script.specs.declared.line.Line.{Line}
use Rattle.page_script.specs.declared.line.Line.TheVariants as lines
use Rattle.page_script.specs.declared.line.PageLine.{PageLine}

-- ---- the world

-- A page: its name, what its visit is about, how it ends, and its visit's past.
pub record Page : Type 0 where
  pub name : List ℕ
  pub terms : VisitTerms
  pub ending : Ending
  pub past : List Event

-- A request that was sent: by which page, counted from 0, at which moment, with which cookie drawn
-- for it (0 where none was), how it was answered, and how many faults the keeper of the items had
-- counted then.
pub record WorldTurn : Type 0 where
  pub page : ℕ
  pub moment : ℕ
  pub request : Request
  pub drawn : ℕ
  pub reply : ReplyValue
  pub faults : ℕ

-- How the history of the items begins, the limits of the pages to come, the pages in the order of
-- their lines, and the requests that they sent, in order.
pub record World : Type 0 where
  pub opening : Opening
  pub limits : Limits
  pub pages : List Page
  pub turns : List WorldTurn

-- the world before the first line
abbrev pub world_from : Opening → World
world_from opening = record {
  opening = opening;
  limits = default_limits;
  pages = [];
  turns = [];
}

-- the entry of a turn in the history of the items, where all pages are one caller
abbrev pub entry_of_turn : WorldTurn → Entry
entry_of_turn turn = asked_entry 0 turn.moment turn.request turn.drawn turn.reply turn.faults

-- the history of the items
abbrev pub history : List WorldTurn → List Entry
history turns = map entry_of_turn turns

-- the event of a turn in the past of its page
abbrev pub event_of : WorldTurn → Event
event_of turn = heard turn.moment turn.request (Reply turn.reply)

-- ---- one step of a page

-- what an ask draws behind these turns: each acquire draws one more than the acquire before it,
-- from the opening's first cookie on, and 0 past its last
abbrev pub drawn_for : Opening → List WorldTurn → Ask → ℕ
drawn_for opening turns ask =
    draw_of opening.cookies.next opening.cookies.last (draws_in (history turns)) ask

-- A page of a world: how the history begins, the turns so far, the page's number, and the page.
pub record PageInWorld : Type 0 where
  pub opening : Opening
  pub turns : List WorldTurn
  pub number : ℕ
  pub page : Page

-- the turn of the page that sends this request at this moment
pub record IsTurn (at : PageInWorld) (t : ℕ) (sent : Request) (turn : WorldTurn) : Type 0 where
  pub page : turn.page ≡ at.number
  pub moment : turn.moment ≡ t
  pub request : turn.request ≡ sent
  pub drawn : turn.drawn ≡ drawn_for at.opening at.turns sent.ask
  pub fits : ReplyFits turn.reply

-- the words for a request and its reply
abbrev pub turn_words : WorldTurn → List ℕ
turn_words turn = (ask_spelling turn.request.ask ++ codes " : ") ++ reply_spelling turn.reply

-- the words for a page that runs: `run none`, or the first mark and the content
abbrev pub run_words : Option (List ℕ) → Bool → List ℕ
run_words None first = codes "run none"
run_words (Some content) first = codes "run" then flag_word first then bytes_word content

-- What a step of a page adds: events to its past, the turns that it asked for, and its words.
pub record Added : Type 0 where
  pub events : List Event
  pub asked : List WorldTurn
  pub words : List ℕ

-- What a step of a page adds at the moment t where its visit's act is this: a request is answered,
-- and the answer is heard at once; a page that runs ends so in the same step; to wait, and to be
-- over, changes nothing.
abbrev pub Performs : Action → ℕ → PageInWorld → Added → Type 0
Performs (send request) t at adds =
    (turn : WorldTurn) × IsTurn at t request turn × (adds.events ≡ event_of turn ∷ [])
    × (adds.asked ≡ turn ∷ []) × (adds.words ≡ turn_words turn)
Performs (wait_until moment) t at adds = (adds.events ≡ []) × (adds.asked ≡ [])
    × (adds.words ≡ codes "wait" then decimal moment)
Performs (run content first) t at adds = (adds.events ≡ ended at.page.ending ∷ [])
    × (adds.asked ≡ []) × (adds.words ≡ run_words content first)
Performs (over outcome) t at adds = (adds.events ≡ []) × (adds.asked ≡ [])
    × (adds.words ≡ codes "over" then outcome_spelling outcome)

-- the page with this number of a world
abbrev pub page_in : World → ℕ → Page → PageInWorld
page_in world number page =
    record { opening = world.opening; turns = world.turns; number = number; page = page }

-- the printed line of a step: its moment, the page's name and the words, with a line feed
abbrev pub step_line : ℕ → List ℕ → List ℕ → List ℕ
step_line t name words = ((decimal t then name) ++ codes " " ++ words) ++ 10 ∷ []

-- the page, with these events behind its past
abbrev pub with_events : Page → List Event → Page
with_events page events = record page { past = page.past ++ events }

-- The page of this name takes a step at the moment, by the rule of its visit, and this is printed.
pub record PageSteps (world : World) (t : ℕ) (name : List ℕ) (world' : World) (output : List ℕ) :
    Type 0 where
  pub before : List Page
  pub page : Page
  pub behind : List Page
  pub place : world.pages ≡ before ++ page ∷ behind
  pub named : page.name ≡ name
  pub events : List Event
  pub asked : List WorldTurn
  pub words : List ℕ
  pub acts : Performs (act_of page.terms page.past t) t (page_in world (length before) page)
      (record { events = events; asked = asked; words = words })
  pub after : world' ≡ record world {
    pages = before ++ with_events page events ∷ behind;
    turns =
        world.turns ++ asked;
  }
  pub printed : output ≡ step_line t name words

-- ---- one line, and many

-- the page that a line makes: its visit has not begun
abbrev pub new_page : Limits → PageLine → Page
new_page limits page = record {
  name = page.name;
  terms = record { key = page.key; need = page.need; limits = limits };
  ending = page.ending;
  past = [];
}

-- a page that is there has the name
abbrev pub HasName : List Page → List ℕ → Type 0
HasName pages name = (before : List Page) × (page : Page) × (behind : List Page)
    × (pages ≡ before ++ page ∷ behind) × (page.name ≡ name)

-- a script has at most so many pages
abbrev pub most_pages : ℕ
most_pages = 64

-- The line may follow: a new page has a name that is not in use, and there is room for it; a step
-- is that of a page that is there.
abbrev pub MayStandNext : World → Line → Type 0
MayStandNext world (lines.Limits limits) = ⊤
MayStandNext world (lines.Page page) = (HasName world.pages page.name → ⊥)
    × (length world.pages < most_pages)
MayStandNext world (lines.Step moment name) = HasName world.pages name

-- the world after a line, and what is printed for it
abbrev pub WorldStep : World → Line → World → List ℕ → Type 0
WorldStep world (lines.Limits limits) world' output = (world' ≡ record world { limits = limits })
    × (output ≡ [])
WorldStep world (lines.Page page) world' output =
    MayStandNext world (lines.Page page) × (world'
    ≡ record world { pages = world.pages ++ new_page world.limits page ∷ [] }) × (output ≡ [])
WorldStep world (lines.Step moment name) world' output = PageSteps world moment name world' output

-- lines lead from world to world, and this is printed for them
abbrev pub Leads : World → List Line → World → List ℕ → Type 0
Leads world [] world' output = (world' ≡ world) × (output ≡ [])
Leads world (line ∷ script) world' output =
    (middle : World) × (printed : List ℕ) × (more : List ℕ) × WorldStep world line middle printed
    × Leads middle script world' more × (output ≡ printed ++ more)

-- the lines of a script lead from the world before them to this one, and this is printed for them
abbrev pub IsWorldRun : Opening → List Line → World → List ℕ → Type 0
IsWorldRun opening script world output = Leads (world_from opening) script world output

-- ---- what holds in the worlds of a script

-- the turns of the page with this number
abbrev pub turns_of : ℕ → List WorldTurn → List WorldTurn
turns_of number turns = filter (λ turn. turn.page == number) turns

-- the event is an answer
abbrev pub is_heard : Event → Bool
is_heard (heard t request answer) = true
is_heard (ended ending) = false
is_heard lost = false

-- The page with this number follows the rule of its visit over its own past, and what it heard is
-- its own turns, in order.
pub record IsLawfulPage (turns : List WorldTurn) (number : ℕ) (page : Page) : Type 0 where
  pub lawful : IsLawful page.terms page.past
  pub own : filter is_heard page.past ≡ map event_of (turns_of number turns)

-- each page is lawful
abbrev pub IsLawfulWorld : World → Type 0
IsLawfulWorld world = (before : List Page) (page : Page) (behind : List Page)
    → world.pages ≡ before ++ page ∷ behind → IsLawfulPage world.turns (length before) page

-- The page met a lock that is older than a page may run: its last event is the
-- answer to its own ask that this lock is in the way, and the lock was in force at that place of
-- the history, and as old as the answer says.
pub record MetOldLock (at : PageInWorld) (cookie : ℕ) : Type 0 where
  pub met : MeetsOldLock at.page.terms at.page.past cookie
  pub before : List WorldTurn
  pub turn : WorldTurn
  pub behind : List WorldTurn
  pub place : at.turns ≡ before ++ turn ∷ behind
  pub own : turn.page ≡ at.number
  pub last : turns_of at.number behind ≡ []
  pub answer : event_of turn ≡ heard met.moment
      (record { key = at.page.terms.key; ask = ask_for at.page.terms.need })
      (Reply (Locked cookie met.age met.since))
  pub in_force : IsInForceFor newest at.opening.items at.opening.count at.page.terms.key
      (record { cookie = cookie; seconds = met.age }) (history before) met.moment

-- a page that releases a lock before its end met that lock, and it was old: a release by force
abbrev pub PagesForceOldLocks : World → Type 0
PagesForceOldLocks world = (before : List Page) (page : Page) (behind : List Page) (t cookie : ℕ)
    → world.pages ≡ before ++ page ∷ behind
    → has_ended page.past ≡ false → act_of page.terms page.past t
    ≡ send_ask page.terms (Release cookie)
    → MetOldLock (page_in world (length before) page) cookie
