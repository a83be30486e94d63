-- What the rule says where one seat changes.
use Rattle.std.proofs.Common.{◌≡◌, ◌≢◌, ℕ, ◌+◌, ◌<◌, ◌≤◌, List, true, Option, length, get_or, set, refl, sym, ap, ◌∙◌, subst, inl, inr, ⊎_elim, arith}
use Rattle.std.specs.Prelude.{All}
use mathlib.Core.Option as maybe
use mathlib.Core.Option.{some}
use mathlib.Core.Logic.{dite}
use native.Mathlib.Decide.{ℕ_discrete}
use lib.ListN.{get_elem?}
use lib.Seq.{set-get_or}
use Rattle.atomic_table.specs.Table.{State, keeps, stepped}
use Rattle.atomic_table.proofs.Lists.{set_here, set_else}
use Rattle.turnstile.specs.declared.stands.TurnTerms.{TurnTerms}
use Rattle.turnstile.specs.declared.turn_rule.SeatView.{SeatView}
use Rattle.turnstile.specs.TurnRule.{end_of_places, one_if, mark, FitsHistory, Stored, IsOrdered}
use Rattle.turnstile.specs.TurnSteps.{saw}
use Rattle.turnstile.proofs.Seats.{there, one_there, each_set, sum_by-set, KeepsApart, apart_set}

module _ {S E : Type 0} where
  -- the table, with what lies in its words and slots, and its seats
  abbrev pub of : List ℕ → List (maybe.Option (Option S)) → List (SeatView E)
      → State (Option S) (SeatView E)
  of ws hs vs = record { words = ws; homes = hs; views = vs }

  abbrev pub word : State (Option S) (SeatView E) → ℕ → ℕ
  word s i = get_or s.words i 0

module _ {E : Type 0} (caller : E → ℕ) (terms : TurnTerms) where
  -- what the rule says of a seat, where the words are these
  abbrev pub FitsAt : List ℕ → List E → SeatView E → Type 0
  FitsAt ws log v = FitsHistory caller terms (get_or ws 0 0) (get_or ws 1 0) (get_or ws 2 0) log v

-- ---- a number that the seat keeps stays apart

module _ {E : Type 0} where
  pub same_ticket : (vs : List (SeatView E)) (by : ℕ) (v w : SeatView E) → w.ticket ≡ v.ticket
      → KeepsApart (λ u. u.ticket) vs by v w
  same_ticket vs by v w e n is = inl (sym e ∙ is)

  pub same_number : (vs : List (SeatView E)) (by : ℕ) (v w : SeatView E) → w.number ≡ v.number
      → KeepsApart (λ u. u.number) vs by v w
  same_number vs by v w e n is = inl (sym e ∙ is)

  pub same_count : (vs : List (SeatView E)) (by : ℕ) (v w : SeatView E) → w.count ≡ v.count
      → KeepsApart (λ u. mark u.count) vs by v w
  same_count vs by v w e n is = inl (ap mark (sym e) ∙ is)

module _ {S E : Type 0} (stands : S → TurnTerms → List E → Type 0) (caller : E → ℕ)
    (terms : TurnTerms)
  where
    abbrev St : Type 0
    St = State (Option S) (SeatView E)

    abbrev Slot : Type 0
    Slot = Option S

    abbrev Rule : St → Type 0
    Rule = IsOrdered stands caller terms

    -- where the seat at by becomes w and leaves no turn, the state is where it was
    pub stored_set : (log : List E) (s : St) (ws : List ℕ) (by : ℕ) (v w : SeatView E)
        → get_elem? s.views by ≡ some v → (v.inside ≡ true → w.inside ≡ true)
        → Stored stands caller terms log s
        → Stored stands caller terms log (of ws s.homes (set s.views by w))
    stored_set log s ws by v w me more st = ⊎_elim (λ t. inl t) (λ (t : (j : ℕ) × (u : SeatView E)
        × (get_elem? s.views j ≡ some u) × (u.inside ≡ true)). inr (dite (ℕ_discrete t.0 by)
        (λ is. let same : t.1 ≡ v = one_there s.views by t.1 v
        (subst (λ (k : ℕ). get_elem? s.views k ≡ some t.1) is t.2) me in (
          by,
          w,
          set_here s.views by w (there s.views by v me),
          more (ap (λ (x : SeatView E). x.inside) (sym same) ∙ t.3),
        ))
        (λ other. (t.0, t.1, set_else s.views by t.0 w other ∙ t.2, t.3)))) st

    -- the seat at by goes from v to w
    unfoldable pub next : (s : St) (o : Rule s) (by : ℕ) (v w : SeatView E) (ws : List ℕ)
        (hs : List (maybe.Option Slot)) (log : List E) → get_elem? s.views by ≡ some v
        → length ws ≡ 3 → get_or ws 1 0 ≡ terms.first_place + length log
        → get_or ws 0 0 ≤ end_of_places
        → get_or ws 1 0 + one_if w.ticket + word s 0 ≡ get_or ws 0 0 + one_if v.ticket + word s 1
        → All (λ e. caller e < get_or ws 2 0) log → Stored stands caller terms log (of ws hs
        (set s.views by w))
        → FitsAt caller terms ws log w
        → ((j : ℕ) (u : SeatView E) → j ≢ by → get_elem? s.views j ≡ some u
        → FitsAt caller terms ws log u)
        → KeepsApart (λ u. u.ticket) s.views by v w → KeepsApart (λ u. u.number) s.views by v w
        → KeepsApart (λ u. mark u.count) s.views by v w
        → Rule (of ws hs (set s.views by w))
    next s o by v w ws hs log me wide served below queued numbered stored mine others tickets
        numbers
        rolls = record {
          log = log;
          wide = wide;
          served = served;
          within_places = below;
          queued = omega (
            arith,
            o.queued,
            sum_by-set (λ
                (u : SeatView E). one_if u.ticket) s.views by v w me,
          );
          numbered = numbered;
          stored = stored;
          each = each_set (λ _ u. FitsAt caller terms ws log u) s.views by w mine others;
          tickets = apart_set (λ u. u.ticket) s.views by v w o.tickets me tickets;
          numbers = apart_set (λ u. u.number) s.views by v w o.numbers me numbers;
          rolls = apart_set (λ u. mark u.count) s.views by v w o.rolls me rolls;
        }

    -- no word changes, and no slot
    unfoldable pub stays : (s : St) (o : Rule s) (by : ℕ) (v w : SeatView E)
        → get_elem? s.views by ≡ some v
        → one_if w.ticket ≡ one_if v.ticket → (v.inside ≡ true → w.inside ≡ true)
        → FitsAt caller terms s.words o.log w
        → KeepsApart (λ u. u.ticket) s.views by v w → KeepsApart (λ u. u.number) s.views by v w
        → KeepsApart (λ u. mark u.count) s.views by v w
        → Rule (of s.words s.homes (set s.views by w))
    stays s o by v w me same inside mine tickets numbers rolls =
        next s o by v w s.words s.homes o.log me o.wide o.served o.within_places
        (omega arith) o.numbered (stored_set o.log s s.words by v w me inside o.stored)
        mine (λ j u other e. o.each j u e) tickets numbers rolls

    -- the same, by a load of the word i
    pub loads : (s : St) (i by : ℕ) (c : List (ℕ × Slot)) (w : SeatView E)
        → Rule (of s.words s.homes (set s.views by w)) → Rule (stepped s i (word s i) by c w keeps)
    loads s i by c w o = subst (λ (ws : List ℕ). Rule (of ws s.homes (set s.views by w)))
        (sym (set-get_or s.words i 0)) o

    -- the seat sees the ticket word
    pub saw_fits : (s : St) (o : Rule s) (by : ℕ) (v : SeatView E) → get_elem? s.views by ≡ some v
        → Rule (of s.words s.homes (set s.views by (saw v (word s 0))))
    saw_fits s o by v me = let f = o.each by v me in let w = saw v (word s 0) in
        stays s o by v w me refl (λ is. is) (record {
          begins = f.begins;
          heard = f.heard;
          saw = omega arith;
          waits = f.waits;
          passes = f.passes;
          enters = f.enters;
          owns = f.owns;
          counts = f.counts;
        })
        (same_ticket s.views by v w refl) (same_number s.views by v w refl)
        (same_count s.views by v w refl)
