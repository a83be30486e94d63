-- What the events of pages asked of a desk.
use Rattle.std.specs.Prelude.{◌≡◌, ℕ, ◌+◌, List, [], ◌∷◌, ◌++◌, map}
use Rattle.asp_messages.specs.declared.reply.Reply.{Reply as ReplyValue}
use Rattle.asp_messages.specs.Fields.{most_cookie}
use Rattle.plain_desk.specs.Draws.{draws, draw_of, draws_in}
use Rattle.plain_desk.specs.DeskStands.{DeskState, DeskStandsFor}
use Rattle.session_machine.specs.declared.entry.Entry.{Entry}
use Rattle.session_machine.specs.declared.entry.Deed.{Deed}
use Rattle.session_machine.specs.declared.entry.Deed.TheVariants.{Asked}
use Rattle.session_machine.specs.History.{nothing}
use Rattle.visit_core.specs.declared.act.Heard.TheVariants.{Reply, Strange}
use Rattle.visit_core.specs.VisitRule.{Event, heard, ended, lost}

-- what an entry says: the caller, the moment, the deed, the cookie that was drawn, the reply
abbrev pub Said : Type 0
Said = ℕ × ℕ × Deed × ℕ × ReplyValue

abbrev pub said : Entry → Said
said e = (e.caller, e.moment, e.deed, e.drawn, e.reply)

-- What these events asked of the desk, all as one caller, behind j draws. Each acquire draws one
-- cookie more, from 1 on, and 0 past the last one.
abbrev pub asked : ℕ → List Event → List Said
asked j [] = []
asked j (heard t request (Reply reply) ∷ events) =
    (0, t, Asked request, draw_of 1 most_cookie j request.ask, reply)
    ∷ asked (j + draws request.ask) events
asked j (heard t request (Strange status) ∷ events) = asked j events
asked j (ended ending ∷ events) = asked j events
asked j (lost ∷ events) = asked j events

-- how many cookies they drew
abbrev pub events_draw : List Event → ℕ
events_draw [] = 0
events_draw (heard t request (Reply reply) ∷ events) = draws request.ask + events_draw events
events_draw (heard t request (Strange status) ∷ events) = events_draw events
events_draw (ended ending ∷ events) = events_draw events
events_draw (lost ∷ events) = events_draw events

-- the replies that they heard
abbrev pub replies_of : List Event → List ReplyValue
replies_of [] = []
replies_of (heard t request (Reply reply) ∷ events) = reply ∷ replies_of events
replies_of (heard t request (Strange status) ∷ events) = replies_of events
replies_of (ended ending ∷ events) = replies_of events
replies_of (lost ∷ events) = replies_of events

-- The desk stands for this history from nothing on, with the cookies from 1 to the last there is.
-- (CanCount says which counts of faults a keeper of this type can have.)
pub record DeskHas (CanCount : ℕ → Type 0) (list : List Entry) (desk : DeskState) : Type 0 where
  pub stands : DeskStandsFor CanCount 1 nothing 0 list desk
  pub last : desk.cookies.last ≡ most_cookie

-- behind a history that the desk stood for, the entries of these events make one that it stands for
pub record Adds (CanCount : ℕ → Type 0) (list : List Entry) (events : List Event) (desk : DeskState)
    : Type 0 where
  pub more : List Entry
  pub says : map said more ≡ asked (draws_in list) events
  pub has : DeskHas CanCount (list ++ more) desk

-- the desk did what these events asked
abbrev pub DeskDoes : (ℕ → Type 0) → DeskState → DeskState → List Event → Type 0
DeskDoes CanCount old new events = (list : List Entry) → DeskHas CanCount list old
    → Adds CanCount list events new
