-- Entries that are handed in, each for its place, in any order, and written in the order of places.
use Rattle.std.specs.Prelude.{◌≡◌, ℕ, ◌+◌, ◌-◌, ◌<◌, ◌≤◌, ◌^◌, ◌==◌, List, [], ◌∷◌, ◌++◌, length, Option, Some, None, IfSome, IsSome, ◌⊎◌, ⊤, if◌then◌else◌}
use Rattle.std.specs.BTreeMap.{is_at}
use Rattle.std.specs.Map.{lookup}
use Rattle.std.specs.Ordering.{nat_cmp}
use Rattle.asp_base.specs.Outside.{Takes, TakesFront}
use Rattle.session_machine.specs.declared.entry.Entry.{Entry}
use Rattle.session_machine.specs.Profiles.{newest}
use Rattle.journal_text.specs.WritingText.{EntryFits, IsJournal, entry_line, head_line}
use Rattle.state_mirror.specs.declared.order.Stop.{Stop}
use Rattle.state_mirror.specs.declared.order.Stop.TheVariants as stops
use Rattle.state_mirror.specs.declared.order.Handed.{Handed}
use Rattle.state_mirror.specs.declared.order.Handed.TheVariants as answers

-- ---- what was handed in

-- the entry that was handed in for the place
abbrev pub entry_for : List (ℕ × Entry) → ℕ → Option Entry
entry_for handed place = lookup (is_at (nat_cmp place)) handed

-- what was handed in, with the entry of one call: one that was known or came to a stopped order is
-- not
abbrev pub handed_with : Handed → ℕ → Entry → List (ℕ × Entry) → List (ℕ × Entry)
handed_with (answers.Known known) place e handed = handed
handed_with answers.Stopped place e handed = handed
handed_with answers.Taken place e handed = handed ++ (place, e) ∷ []
handed_with answers.SinkFault place e handed = handed ++ (place, e) ∷ []
handed_with answers.NoMemory place e handed = handed ++ (place, e) ∷ []

-- ---- the entries that can be written

-- the entries of these places, one behind the other
abbrev pub AreFrom : (ℕ → Option Entry) → ℕ → List Entry → Type 0
AreFrom at place [] = ⊤
AreFrom at place (e ∷ es) = (at place ≡ Some e) × AreFrom at (place + 1) es

-- The entries from the first place on, up to the first place for which none was handed in.
pub record IsRow (at : ℕ → Option Entry) (first : ℕ) (row : List Entry) : Type 0 where
  pub each : AreFrom at first row
  pub end : at (first + length row) ≡ None

-- nothing where there is no entry, else the journal of the entries
abbrev pub IsRowText : ℕ → List Entry → List ℕ → Type 0
IsRowText first [] text = text ≡ []
IsRowText first (e ∷ es) text = IsJournal text newest first (e ∷ es)

-- ---- an order

-- the end of places: no entry has it
abbrev pub place_end : ℕ
place_end = 2 ^ 63 - 1

-- An order: the place of the first entry, the place of the next that it can write, the entries that
-- wait for theirs, what stopped it, and its sink.
pub record OrderState (T : Type 0) : Type 0 where
  pub first : ℕ
  pub next : ℕ
  pub waiting : List (ℕ × Entry)
  pub stop : Option Stop
  pub sink : T

-- the whole text was written, or a front of it where the order is stopped
abbrev pub WritesText : Option Stop → Option (List ℕ) → Option (List ℕ) → List ℕ → Type 0
WritesText None sink sink' text = Takes sink sink' text
WritesText (Some stop) sink sink' text = TakesFront sink sink' text

-- each was handed in for a place from the first on, and can be written
abbrev pub AreLawful : ℕ → List (ℕ × Entry) → Type 0
AreLawful first handed = (place : ℕ) → IfSome (entry_for handed place)
    (λ e. (first ≤ place) × (place < place_end) × EntryFits newest e)

-- The order goes on: the next place is the one behind the row, and the entries for that and later
-- places wait.
pub record OrderGoesOn {T : Type 0} (handed : List (ℕ × Entry)) (row : List Entry) (o : OrderState T) : Type
    0 where
  pub next : o.next ≡ o.first + length row
  pub waits : (place : ℕ) → o.next ≤ place
      → entry_for o.waiting place ≡ entry_for handed place

-- These were handed in, and no others, and of their row the sink has taken the text: all of it, or
-- a front of it where the order is stopped. Before that it had taken `sink`.
pub record HasOrdered {T : Type 0} (taken : T → Option (List ℕ)) (sink : Option (List ℕ))
    (handed : List (ℕ × Entry)) (o : OrderState T) : Type 0 where
  pub lawful : AreLawful o.first handed
  pub row : List Entry
  pub is_row : IsRow (entry_for handed) o.first row
  pub text : List ℕ
  pub is_text : IsRowText o.first row text
  pub written : WritesText o.stop sink (taken o.sink) text
  pub goes_on : o.stop ≡ None → OrderGoesOn handed row o

-- ---- inside an order

-- the text of one entry, with the first line before it where it is the first
abbrev pub part_text : ℕ → ℕ → Entry → List ℕ
part_text first place e =
    if place == first then head_line newest first ++ entry_line newest e else entry_line newest e

-- each entry that waits has a place, and can be written
abbrev pub WaitersFit : List (ℕ × Entry) → Type 0
WaitersFit waiting = (place : ℕ)
    → IfSome (entry_for waiting place) (λ e. (place < place_end) × EntryFits newest e)

-- An order in the midst of writing: this much of the row was written, and the entries for the next
-- and later places wait.
pub record IsWriting {T : Type 0} (taken : T → Option (List ℕ)) (sink : Option (List ℕ))
    (handed : List (ℕ × Entry)) (o : OrderState T) : Type 0 where
  pub lawful : AreLawful o.first handed
  pub row : List Entry
  pub each : AreFrom (entry_for handed) o.first row
  pub text : List ℕ
  pub is_text : IsRowText o.first row text
  pub written : Takes sink (taken o.sink) text
  pub on : OrderGoesOn handed row o

-- An order that could write no more: a front of the row's text was written.
pub record HasFailedWriting {T : Type 0} (taken : T → Option (List ℕ)) (sink : Option (List ℕ))
    (handed : List (ℕ × Entry)) (o : OrderState T) : Type 0 where
  pub lawful : AreLawful o.first handed
  pub row : List Entry
  pub is_row : IsRow (entry_for handed) o.first row
  pub text : List ℕ
  pub is_text : IsRowText o.first row text
  pub written : TakesFront sink (taken o.sink) text

-- ---- the answers

-- the answer of the call that was stopped so
abbrev pub answer_of : Stop → Handed
answer_of stops.Sink = answers.SinkFault
answer_of stops.NoMemory = answers.NoMemory

-- the call was answered so without taking the entry
abbrev pub IsRefused : {T : Type 0} → OrderState T → ℕ → Handed → Type 0
IsRefused o place answers.Stopped = IsSome o.stop
IsRefused o place (answers.Known known) = (known ≡ place) × (o.stop ≡ None)
    × ((place < o.next) ⊎ IsSome (entry_for o.waiting place))
IsRefused o place answers.Taken = ⊥
IsRefused o place answers.SinkFault = ⊥
IsRefused o place answers.NoMemory = ⊥

-- the entry was taken, or stopped the order
abbrev pub IsFresh : Handed → Type 0
IsFresh answers.Stopped = ⊥
IsFresh (answers.Known known) = ⊥
IsFresh answers.Taken = ⊤
IsFresh answers.SinkFault = ⊤
IsFresh answers.NoMemory = ⊤

abbrev pub IfKnown : Handed → (ℕ → Type 0) → Type 0
IfKnown (answers.Known place) Fact = Fact place
IfKnown answers.Taken Fact = ⊤
IfKnown answers.Stopped Fact = ⊤
IfKnown answers.SinkFault Fact = ⊤
IfKnown answers.NoMemory Fact = ⊤
