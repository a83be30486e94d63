-- The rule of a turnstile's table. Word 0 is the ticket, word 1 the serving word and word 2 the
-- number of callers. The slot holds the state.
use Rattle.std.specs.Prelude.{◌≡◌, ℕ, ◌+◌, ◌<◌, ◌≤◌, ◌⊎◌, List, [], ◌∷◌, true, false, Option, Some, None, length, slice_index, All, cond, ◌==◌, nat_lt}
use Rattle.std.specs.List.{filter, sum_by}
use mathlib.Core.List.{IsPrefix}
use mathlib.Core.Option.{some}
use lib.ListN.{get_elem?}
use Rattle.atomic_table.specs.Table.{State}
use Rattle.turnstile.specs.declared.stands.TurnTerms.{TurnTerms}
use Rattle.turnstile.specs.declared.turn_rule.SeatView.{SeatView}

-- every place is below this number
abbrev pub end_of_places : ℕ
end_of_places = 9223372036854775807

-- the entries of the caller n
abbrev pub calls_of : {E : Type 0} → (E → ℕ) → ℕ → List E → List E
calls_of caller n xs = filter (λ e. caller e == n) xs

-- 1 where there is a number, and 0 where there is none
abbrev pub one_if : Option ℕ → ℕ
one_if None = 0
one_if (Some _) = 1

-- that there is a number, and not which
abbrev pub mark : Option ℕ → Option ℕ
mark None = None
mark (Some _) = Some 0

module _ {E : Type 0} where
  -- a seat that knows of nothing
  abbrev pub unknowing : TurnTerms → SeatView E
  unknowing terms = record {
    terms = terms;
    number = None;
    front = [];
    seen = terms.first_place;
    ticket = None;
    inside = false;
    count = None;
    told = [];
  }

  -- the first seat, which draws the callers' numbers
  abbrev pub roll : TurnTerms → SeatView E
  roll terms = record (unknowing terms) { count = Some 0 }

  -- a pass with the number that the roll drew
  abbrev pub to_pass : SeatView E → SeatView E
  to_pass v = record (unknowing v.terms) { number = v.number; seen = v.seen }

  -- the roll, once it has given the number away
  abbrev pub from_roll : SeatView E → SeatView E
  from_roll v = record v { number = None }

  -- what a seat knows, for another
  abbrev pub note : SeatView E → SeatView E
  note v = record (unknowing v.terms) { front = v.front; seen = v.seen }

  -- the longer of two lists, the first where they are as long
  abbrev pub longer : List E → List E → List E
  longer xs ys = cond (nat_lt (length xs) (length ys)) ys xs

  -- a seat that was told what a note knows
  abbrev pub with_note : SeatView E → SeatView E → SeatView E
  with_note v w = record v { told = w.front }

  -- a seat that was told the count
  abbrev pub with_count : SeatView E → SeatView E → SeatView E
  with_count v w = record v { count = w.count }

  -- the other seat, which a join uses up
  abbrev pub used_up : SeatView E
  used_up = unknowing (record { first_place = 0; first_number = 0; last_number = 0 })

  -- no two seats have one number by f
  abbrev pub Apart : (SeatView E → Option ℕ) → List (SeatView E) → Type 0
  Apart f views = (i j n : ℕ) (v w : SeatView E) → get_elem? views i ≡ some v
      → get_elem? views j ≡ some w → f v ≡ Some n → f w ≡ Some n → i ≡ j

  module _ (caller : E → ℕ) (terms : TurnTerms) (ticket serving callers : ℕ) (log : List E) where
    -- what the rule says of one seat, where the history is log
    pub record FitsHistory (v : SeatView E) : Type 0 where
      -- its front begins the history, and so does what a note told it
      pub begins : IsPrefix v.front log
      pub heard : IsPrefix v.told log
      -- it saw no later ticket word
      pub saw : v.seen ≤ ticket
      -- a ticket that it holds is not yet served, or is served now, and only a pass holds one
      pub waits : (t : ℕ) → v.ticket ≡ Some t → (v.terms ≡ terms) × (serving ≤ t) × (t < ticket)
      pub passes : (t : ℕ) → v.ticket ≡ Some t → (n : ℕ) × (v.number ≡ Some n)
      -- inside its turn it holds the ticket that is served, and knows the whole history
      pub enters : v.inside ≡ true → (v.ticket ≡ Some serving) × (v.front ≡ log)
      -- its number was drawn, and it knows each entry of its number
      pub owns : (n : ℕ) → v.number ≡ Some n → (n < callers)
          × (calls_of caller n log ≡ calls_of caller n v.front)
      -- a count that it knows is the word
      pub counts : (n : ℕ) → v.count ≡ Some n → n ≡ callers

  module _ {S : Type 0} (stands : S → TurnTerms → List E → Type 0) (caller : E → ℕ) where
    -- the state is at home and stands for the history, or a seat has its turn
    abbrev pub Stored : TurnTerms → List E → State (Option S) (SeatView E) → Type 0
    Stored terms log s =
        ((x : S) × (get_elem? s.homes 0 ≡ some (some (Some x))) × stands x terms log)
        ⊎ ((by : ℕ) × (v : SeatView E) × (get_elem? s.views by ≡ some v) × (v.inside ≡ true))

    -- Between any two steps there is one history, of which every seat knows a beginning.
    pub record IsOrdered (terms : TurnTerms) (s : State (Option S) (SeatView E)) : Type 0 where
      -- the entries left so far
      pub log : List E
      pub wide : length s.words ≡ 3
      -- the ticket that is served is the place of the next entry
      pub served : slice_index s.words 1 ≡ terms.first_place + length log
      -- the tickets that are held are those from the one served up to the ticket word, which is at
      -- most the end of places
      pub within_places : slice_index s.words 0 ≤ end_of_places
      pub queued : slice_index s.words 1 + sum_by (λ v. one_if v.ticket) s.views
          ≡ slice_index s.words 0
      -- each entry's caller is a number that was drawn
      pub numbered : All (λ e. caller e < slice_index s.words 2) log
      pub stored : Stored terms log s
      pub each : (by : ℕ) (v : SeatView E) → get_elem? s.views by ≡ some v
          → FitsHistory caller terms (slice_index s.words 0) (slice_index s.words 1)
          (slice_index s.words 2) log v
      -- no two seats have one ticket or one number, and one at most knows the count
      pub tickets : Apart (λ v. v.ticket) s.views
      pub numbers : Apart (λ v. v.number) s.views
      pub rolls : Apart (λ v. mark v.count) s.views
