-- What each kind of step tells: of the seat before, the number found and the seat after.
use Rattle.std.specs.Prelude.{◌≡◌, ◌≢◌, ℕ, ◌+◌, ◌<◌, ◌≤◌, List, [], ◌∷◌, ◌++◌, true, false, Option, Some, None, length, All}
use mathlib.Core.List.{IsPrefix}
use Rattle.atomic_table.specs.Table.{Me, Step}
use Rattle.turnstile.specs.declared.stands.TurnTerms.{TurnTerms}
use Rattle.turnstile.specs.declared.turn_rule.SeatView.{SeatView}
use Rattle.turnstile.specs.TurnRule.{calls_of, longer, end_of_places}

abbrev pub SeatState : Type 0 → Type 0 → Type 0
SeatState S E = Me (Option S) (SeatView E)

module _ {E : Type 0} where
  -- the ticket word was seen
  abbrev pub saw : SeatView E → ℕ → SeatView E
  saw v r = record v { seen = r }

  abbrev pub with_ticket : SeatView E → ℕ → SeatView E
  with_ticket v r = record v { seen = r; ticket = Some r }

  abbrev pub with_draw : SeatView E → ℕ → SeatView E
  with_draw v r = record v { number = Some r; count = Some (r + 1) }

  abbrev pub entered : SeatView E → List E → SeatView E
  entered v log = record v { front = log; inside = true }

  abbrev pub left : SeatView E → E → SeatView E
  left v e = record v { front = v.front ++ e ∷ []; ticket = None; inside = false }

  abbrev pub compared : SeatView E → SeatView E
  compared v = record v { front = longer v.front v.told; told = [] }

  -- v has become w, which begins with it, and no entry between them is of the seat's number
  pub record GrowsByOthers (caller : E → ℕ) (v w : SeatView E) : Type 0 where
    pub longer : IsPrefix v.front w.front
    pub same : (n : ℕ) → v.number ≡ Some n → calls_of caller n w.front ≡ calls_of caller n v.front

  -- the turn of the ticket t has come, at the state that stands for the history so far
  pub record TurnComes {S : Type 0} (stands : S → TurnTerms → List E → Type 0) (caller : E → ℕ)
      (v : SeatView E) (t : ℕ) (w : SeatView E) (state : S) : Type 0 where
    pub now : w ≡ entered v w.front
    pub stands_for : stands state v.terms w.front
    pub place : v.terms.first_place + length w.front ≡ t
    pub room : t < end_of_places
    pub grows : GrowsByOthers caller v w

module _ {S E : Type 0} where
  -- the roll has the number that it found, and its count is one more
  pub record DrawsNumber (before : SeatState S E) (word : ℕ) (after : SeatState S E) : Type 0 where
    pub counted : before.0.count ≡ Some word
    pub drawn : after ≡ (with_draw before.0 word, before.1)

  -- the ticket word was seen
  pub record SeesTicket (before : SeatState S E) (word : ℕ) (after : SeatState S E) : Type 0 where
    pub never_falls : before.0.seen ≤ word
    pub within_places : word ≤ end_of_places
    pub seen : after ≡ (saw before.0 word, before.1)

  -- the ticket that was found is held where it is the one that was tried for, and else it was seen
  pub record TakesTicket (st : Step (Option S)) (before : SeatState S E) (word : ℕ)
      (after : SeatState S E) : Type 0 where
    pub never_falls : before.0.seen ≤ word
    pub within_places : word ≤ end_of_places
    pub held : word ≡ st.first → after ≡ (with_ticket before.0 word, before.1)
    pub missed : word ≢ st.first → after ≡ (saw before.0 word, before.1)

  -- the turn of the seat's ticket has come, and the state is taken; or it has not come yet, and
  -- nothing changes
  abbrev pub Enters : (S → TurnTerms → List E → Type 0) → (E → ℕ) → SeatState S E → ℕ
      → SeatState S E
      → Type 0
  Enters stands caller before word after = (t : ℕ) → before.0.ticket ≡ Some t
      → (word ≡ t → (state : S) × (after.1 ≡ (0, Some state) ∷ before.1)
      × TurnComes stands caller before.0 t after.0 state) × (word ≢ t → after ≡ before)

  -- the entry with which the state was given back has the next place, and the ticket is given up
  abbrev pub LeaveStep : Option E → SeatState S E → ℕ → SeatState S E → Type 0
  LeaveStep said before word after = (e : E) → said ≡ Some e
      → (word ≡ before.0.terms.first_place + length before.0.front)
      × (after ≡ (left before.0 e, []))

  -- the longer of what was seen and what was told, which each of the two begins
  pub record TakesLonger (caller : E → ℕ) (before : SeatState S E) (word : ℕ)
      (after : SeatState S E) : Type 0 where
    pub longer : after ≡ (compared before.0, before.1)
    pub told : IsPrefix before.0.told after.0.front
    pub grows : GrowsByOthers caller before.0 after.0

  -- each caller in the front is below the count, where the seat knows it
  pub record LearnsCount (caller : E → ℕ) (before : SeatState S E) (word : ℕ)
      (after : SeatState S E) : Type 0 where
    pub same : after ≡ before
    pub callers : (c : ℕ) → before.0.count ≡ Some c → All (λ e. caller e < c) before.0.front
