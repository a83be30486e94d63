-- Each split and each join of seats keeps the rule, and a new table has it.
use Rattle.std.proofs.Common.{◌≡◌, ◌≢◌, ℕ, zero, suc, ◌<◌, ◌≤◌, List, [], ◌∷◌, ◌++◌, true, false, true≢false, Option, Some, None, length, set, refl, sym, ap, ◌∙◌, subst, inl, inr, ⊎_elim, arith}
use Rattle.std.proofs.lemmas.List.Sums.{sum_by_push}
use Rattle.std.proofs.lemmas.List.Elements.{All-nil}
use mathlib.Core.List.{IsPrefix}
use mathlib.Core.Option.{some, some-ne-none, some-injective}
use lib.ListN.{get_elem?}
use Rattle.atomic_table.specs.Table.{State, opening, Splits, Joins}
use Rattle.atomic_table.proofs.Lists.{at_set, set_else}
use Rattle.turnstile.specs.declared.stands.TurnTerms.{TurnTerms}
use Rattle.turnstile.specs.declared.turn_rule.SeatView.{SeatView}
use Rattle.turnstile.specs.TurnRule.{end_of_places, calls_of, roll, to_pass, from_roll, note, with_note, with_count, used_up, one_if, mark, FitsHistory, IsOrdered}
use Rattle.turnstile.proofs.Fronts.{prefix_nil}
use Rattle.turnstile.proofs.Seats.{at_end, at_front, set_swap, each_set, none_some, one_number, apart_more}
use Rattle.turnstile.proofs.OneSeat.{of, FitsAt, same_ticket, same_number, same_count, stored_set, next, stays}

module _ {S E : Type 0} (stands : S → TurnTerms → List E → Type 0) (caller : E → ℕ)
    (terms : TurnTerms)
  where
    abbrev St : Type 0
    St = State (Option S) (SeatView E)

    abbrev Slot : Type 0
    Slot = Option S

    abbrev Rule : St → Type 0
    Rule = IsOrdered stands caller terms

    -- a seat is cut in two, of which the second holds no ticket
    cut : (s : St) (o : Rule s) (by : ℕ) (v l r : SeatView E) → get_elem? s.views by ≡ some v
        → l.ticket ≡ v.ticket → l.count ≡ v.count → (v.inside ≡ true → l.inside ≡ true)
        → ((n : ℕ) → l.number ≡ Some n → v.number ≡ Some n) → FitsAt caller terms s.words o.log l
        → r.ticket ≡ None → r.count ≡ None → ((n : ℕ) → r.number ≡ Some n → (v.number ≡ Some n)
        × (l.number ≡ None)) → FitsAt caller terms s.words o.log r
        → Rule (of s.words s.homes (set s.views by l ++ r ∷ []))
    cut s o by v l r me ticket count inside number mine free uncounted given new =
        let k : Rule (of s.words s.homes (set s.views by l)) =
        stays stands caller terms s o by v l me (ap one_if ticket) inside mine
        (same_ticket s.views by v l ticket)
        (λ n is. inl (number n is)) (same_count s.views by v l count) in
        let each : (j : ℕ) (u : SeatView E) → get_elem? (set s.views by l) j ≡ some u
        → FitsAt caller terms s.words o.log u = each_set
        (λ _ u. FitsAt caller terms s.words o.log u) s.views by l mine
        (λ j u other e. o.each j u e) in
        record {
          log = o.log;
          wide = o.wide;
          served = o.served;
          within_places = o.within_places;
          queued = omega (
            arith,
            k.queued,
            sum_by_push (λ
                (u : SeatView E). one_if u.ticket) (set s.views by l) r,
            ap one_if free,
          );
          numbered = o.numbered;
          stored = ⊎_elim (λ t. inl t) (λ (t : (j : ℕ) × (u : SeatView E)
              × (get_elem? (set s.views by l) j ≡ some u) × (u.inside ≡ true)). inr
              (t.0, t.1, at_front (set s.views by l) r t.1 t.0 t.2, t.3))
              (stored_set stands caller terms o.log s s.words by v l me inside o.stored);
          each = λ j u e. ⊎_elim (λ (t : get_elem? (set s.views by l) j ≡ some u). each j u t)
              (λ (t : (r ≡ u) × (j ≡ length (set s.views by l))). subst
              (FitsAt caller terms s.words o.log) t.0 new) (at_end (set s.views by l) r u j e);
          tickets = apart_more (λ u. u.ticket) (set s.views by l) r k.tickets
              (λ n j u is e d. none_some n r.ticket free is);
          numbers = apart_more (λ u. u.number) (set s.views by l) r k.numbers
              (λ n j u is e d. let x = given n is in
              ⊎_elim (λ (t : (j ≡ by) × (l ≡ u)). none_some n l.number x.1
              (ap (λ (y : SeatView E). y.number) t.1 ∙ d))
              (λ (t : (j ≢ by) × (get_elem? s.views j ≡ some u)). t.0
              (o.numbers j by n u v t.1 me d x.0)) (at_set s.views by j l u e));
          rolls = apart_more (λ u. mark u.count) (set s.views by l) r k.rolls
              (λ n j u is e d. none_some n (mark r.count) (ap mark uncounted) is);
        }

    -- a split that makes a note
    pub splits_note : (by : ℕ) (v : SeatView E) → Splits Rule by v v (note v)
    splits_note by v s o me = let f = o.each by v me in
        cut s o by v v (note v) me refl refl (λ is. is) (λ n is. is) f refl refl
        (λ n is. absurd (none_some n None refl is)) record {
          begins = f.begins;
          heard = prefix_nil o.log;
          saw = f.saw;
          waits = λ t is. absurd (none_some t None refl is);
          passes = λ t is. absurd (none_some t None refl is);
          enters = λ is. absurd (true≢false (sym is));
          owns = λ n is. absurd (none_some n None refl is);
          counts = λ n is. absurd (none_some n None refl is);
        }

    -- a split that makes a pass with the number that the roll drew
    pub splits_pass : (by : ℕ) (v : SeatView E) → v.front ≡ [] → v.ticket ≡ None
        → Splits Rule by v (from_roll v) (to_pass v)
    splits_pass by v empty free s o me = let f = o.each by v me in
        cut s o by v (from_roll v) (to_pass v) me refl refl (λ is. is)
        (λ n is. absurd (none_some n None refl is)) record {
          begins = f.begins;
          heard = f.heard;
          saw = f.saw;
          waits = f.waits;
          passes = λ t is. absurd (none_some t v.ticket free is);
          enters = f.enters;
          owns = λ n is. absurd (none_some n None refl is);
          counts = f.counts;
        } refl refl (λ n is. (is, refl)) record {
          begins = prefix_nil o.log;
          heard = prefix_nil o.log;
          saw = f.saw;
          waits = λ t is. absurd (none_some t None refl is);
          passes = λ t is. absurd (none_some t None refl is);
          enters = λ is. absurd (true≢false (sym is));
          owns = λ n is. let x = f.owns n is in (x.0, x.1 ∙ ap (calls_of caller n) empty);
          counts = λ n is. absurd (none_some n None refl is);
        }

    -- the other seat is used up
    ends : (s : St) (o : Rule s) (other : ℕ) (w : SeatView E) → get_elem? s.views other ≡ some w
        → w.ticket ≡ None → w.inside ≡ false → Rule (of s.words s.homes (set s.views other used_up))
    ends s o other w at free outside = stays stands caller terms s o other w used_up at
        (sym (ap one_if free)) (λ is.
        absurd
        (true≢false (sym is ∙ outside))) record {
          begins = prefix_nil o.log;
          heard = prefix_nil o.log;
          saw = omega arith;
          waits = λ t is. absurd (none_some t None refl is);
          passes = λ t is. absurd (none_some t None refl is);
          enters = λ is. absurd (true≢false (sym is));
          owns = λ n is. absurd (none_some n None refl is);
          counts = λ n is. absurd (none_some n None refl is);
        } (λ n is. absurd (none_some n None refl is)) (λ n is. absurd (none_some n None refl is))
        (λ n is. absurd (none_some n None refl is))

    -- a join of a note
    pub joins_note : (by : ℕ) (v : SeatView E) (other : ℕ) (w : SeatView E) → w.ticket ≡ None
        → w.inside ≡ false → Joins Rule by v other w (with_note v w) used_up
    unfolding ends stays next
    joins_note by v other w free outside s o me apart at =
        let u : SeatView E = with_note v w in
        let at' : get_elem? s.views other ≡ some w = sym (set_else s.views by other u apart) ∙ at in
        let k = ends s o other w at' free outside in
        let me' : get_elem? (set s.views other used_up) by ≡ some v =
        set_else s.views other by used_up (λ e. apart (sym e)) ∙ me in
        let f = k.each by v me' in
        let heard : IsPrefix w.front k.log = (o.each other w at').begins in
        subst (λ (vs : List (SeatView E)). Rule (of s.words s.homes vs))
        (sym (set_swap s.views by other u used_up apart))
        (stays stands caller terms (of s.words s.homes (set s.views other used_up)) k by v u me'
        refl (λ is. is)
        record {
          begins = f.begins;
          heard = heard;
          saw = f.saw;
          waits = f.waits;
          passes = f.passes;
          enters = f.enters;
          owns = f.owns;
          counts = f.counts;
        }
        (same_ticket (set s.views other used_up) by v u refl)
        (same_number (set s.views other used_up) by v u refl)
        (same_count (set s.views other used_up) by v u refl))

    -- a join of the roll
    pub joins_count : (by : ℕ) (v : SeatView E) (other : ℕ) (w : SeatView E) → w.ticket ≡ None
        → w.inside ≡ false → Joins Rule by v other w (with_count v w) used_up
    joins_count by v other w free outside s o me apart at =
        let u : SeatView E = with_count v w in
        let at' : get_elem? s.views other ≡ some w = sym (set_else s.views by other u apart) ∙ at in
        let k = ends s o other w at' free outside in
        let vs : List (SeatView E) = set s.views other used_up in
        let me' : get_elem? vs by ≡ some v = set_else s.views other by used_up (λ e. apart (sym e))
        ∙ me in
        let f = k.each by v me' in
        subst (λ (l : List (SeatView E)). Rule (of s.words s.homes l))
        (sym (set_swap s.views by other u used_up apart))
        (stays stands caller terms (of s.words s.homes vs) k by v u me' refl (λ is. is)
        record {
          begins = f.begins;
          heard = f.heard;
          saw = f.saw;
          waits = f.waits;
          passes = f.passes;
          enters = f.enters;
          owns = f.owns;
          counts = (o.each other w at').counts;
        }
        (same_ticket vs by v u refl) (same_number vs by v u refl)
        (λ n is. inr (λ j x no e d. ⊎_elim (λ (t : (j ≡ other) × (used_up ≡ x)). none_some n
        (mark x.count) (ap (λ (y : SeatView E). mark y.count) (sym t.1)) d)
        (λ (t : (j ≢ other) × (get_elem? s.views j ≡ some x)). t.0
        (o.rolls j other n x w t.1 at' d is)) (at_set s.views other j used_up x e))))

    -- a new table keeps the rule
    pub begins : (state : S) → terms.first_place ≤ end_of_places → stands state terms []
        → Rule (opening (terms.first_place ∷ terms.first_place ∷ 0 ∷ []) (Some state ∷ [])
        (roll terms))
    begins state room good = record {
      log = [];
      wide = refl;
      served = omega arith;
      within_places = room;
      queued = omega arith;
      numbered = All-nil (λ e. caller e < 0);
      stored = inl (state, refl, good);
      each = each;
      tickets = λ i j n v w ev ew fv fw. one i j v w ev ew;
      numbers = λ i j n v w ev ew fv fw. one i j v w ev ew;
      rolls = λ i j n v w ev ew fv fw. one i j v w ev ew;
    }
      where
        each : (by : ℕ) (v : SeatView E) → get_elem? (roll terms ∷ []) by ≡ some v
            → FitsHistory caller terms terms.first_place terms.first_place 0 [] v
        each zero v e = subst (FitsHistory caller terms terms.first_place terms.first_place 0 [])
            (some-injective (roll terms) v e) record {
              begins = prefix_nil [];
              heard = prefix_nil [];
              saw = omega arith;
              waits = λ t is. absurd (none_some t None refl is);
              passes = λ t is. absurd (none_some t None refl is);
              enters = λ is. absurd (true≢false (sym is));
              owns = λ n is. absurd (none_some n None refl is);
              counts = λ n is. one_number n 0 (Some 0) is refl;
            }
        each (suc by) v e = absurd (some-ne-none v (sym e))

        one : (i j : ℕ) (v w : SeatView E) → get_elem? (roll terms ∷ []) i ≡ some v
            → get_elem? (roll terms ∷ []) j ≡ some w → i ≡ j
        one zero zero v w e d = refl
        one zero (suc j) v w e d = absurd (some-ne-none w (sym d))
        one (suc i) j v w e d = absurd (some-ne-none v (sym e))
