-- To enter a turn and to leave it keeps the rule.
use Rattle.std.proofs.Common.{◌≡◌, ◌≢◌, ℕ, zero, suc, ◌+◌, ◌%◌, ◌^◌, ◌<◌, List, [], ◌∷◌, ◌++◌, true, false, true≢false, Option, Some, None, length, get_or, set, refl, sym, ap, ◌∙◌, subst, inl, inr, ⊎_elim, arith, length-append, length-set, get_or-set_same, get_or-set_other, append-nil}
use Rattle.std.specs.Prelude.{All}
use Rattle.std.proofs.lemmas.List.Elements.{All-append}
use mathlib.Core.List.{IsPrefix}
use mathlib.Core.Option as maybe
use mathlib.Core.Option.{none, some}
use mathlib.Core.Logic.{dite}
use native.Mathlib.Decide.{ℕ_discrete}
use lib.ListN.{get_elem?}
use lib.Seq.{set-get_or}
use Rattle.atomic_table.specs.Table.{State, keeps, takes, gives, Allows}
use Rattle.atomic_table.proofs.Lists.{set_here}
use Rattle.turnstile.specs.declared.stands.TurnTerms.{TurnTerms}
use Rattle.turnstile.specs.declared.turn_rule.SeatView.{SeatView}
use Rattle.turnstile.specs.TurnRule.{end_of_places, calls_of, one_if, FitsHistory, IsOrdered}
use Rattle.turnstile.specs.TurnSteps.{SeatState, entered, left, Enters, LeaveStep}
use Rattle.turnstile.proofs.Fronts.{prefix_same, prefix_more, calls_append, calls_other}
use Rattle.turnstile.proofs.Seats.{there, one_there, none_some, one_number}
use Rattle.turnstile.proofs.OneSeat.{of, word, FitsAt, same_ticket, same_number, same_count, next, stays, loads}

module _ {S E : Type 0} (stands : S → TurnTerms → List E → Type 0) (caller : E → ℕ)
    (terms : TurnTerms)
  where
    abbrev St : Type 0
    St = State (Option S) (SeatView E)

    abbrev Slot : Type 0
    Slot = Option S

    abbrev Rule : St → Type 0
    Rule = IsOrdered stands caller terms

    -- where the turn of the seat's ticket has come, the state is at home
    at_home : (s : St) (o : Rule s) (by : ℕ) (v : SeatView E) → get_elem? s.views by ≡ some v
        → v.ticket ≡ Some (word s 1) → v.inside ≡ false
        → (h : S) × (get_elem? s.homes 0 ≡ some (some (Some h))) × stands h terms o.log
    at_home s o by v me holds outside = ⊎_elim (λ t. t) (λ (t : (j : ℕ) × (u : SeatView E)
        × (get_elem? s.views j ≡ some u) × (u.inside ≡ true)).
        let has = ((o.each t.0 t.1 t.2).enters t.3).0 in
        let is : by ≡ t.0 = o.tickets by t.0 (word s 1) v t.1 me t.2 holds has in
        let same : v ≡ t.1 = one_there s.views t.0 v t.1
        (subst (λ (k : ℕ). get_elem? s.views k ≡ some v) is me) t.2 in
        absurd (true≢false (sym t.3 ∙ (ap (λ (x : SeatView E). x.inside) (sym same) ∙ outside))))
        o.stored

    -- a load of the serving word: where it finds the ticket of the seat, the slot is taken and the
    -- front is the whole history
    pub enters : (slots by : ℕ) (m : SeatState S E) (t : ℕ) → m.0.ticket ≡ Some t
        → m.0.inside ≡ false
        → Allows Rule slots by m 1 (λ n. n) (Enters stands caller m)
    enters slots by m t holds outside s o wide me _ =
        let v : SeatView E = m.0 in
        let c : ℕ = word s 1 in
        let f = o.each by v me in
        let mine = f.waits t holds in
        dite (ℕ_discrete c t)
        (λ hit.
        let has : v.ticket ≡ Some c = holds ∙ ap (λ (n : ℕ). Some n) (sym hit) in
        let home = at_home s o by v me has outside in
        let w : SeatView E = entered v o.log in
        let served = o.served in
        let most = o.within_places in
        let here = set_here s.views by w (there s.views by v me) in (
          w,
          takes 0 (Some home.0),
          home.1,
          subst (λ (ws : List ℕ). Rule (of ws (set s.homes 0 none) (set s.views by w)))
              (sym (set-get_or s.words 1 0))
              (next stands caller terms s o by v w s.words (set s.homes 0 none) o.log me o.wide
              o.served o.within_places
              (omega arith) o.numbered (inr (by, w, here, refl))
              (record {
                begins = prefix_same o.log;
                heard = f.heard;
                saw = f.saw;
                waits = f.waits;
                passes = f.passes;
                enters = λ _. (has, refl);
                owns = λ n e. ((f.owns n e).0, refl);
                counts = f.counts;
              })
              (λ j u other e. o.each j u e) (same_ticket s.views by v w refl)
              (same_number s.views by v w refl) (same_count s.views by v w refl)),
          λ t' e. let same : t ≡ t' = one_number t t' v.ticket holds e in (
            (λ is. (
              home.0,
              refl,
              record {
                now = refl;
                stands_for = subst (λ (k : TurnTerms). stands home.0 k o.log) (sym mine.0) home.2;
                place = let at = ap (λ (k : TurnTerms). k.first_place) mine.0 in omega (
                  arith,
                  served,
                  at,
                );
                room = let last = mine.2 in omega (arith, most);
                grows = record { longer = f.begins; same = λ n d. (f.owns n d).1 };
              },
            )),
            λ miss. absurd (miss (hit ∙ same)),
          ),
        ))
        (λ miss. (
          v,
          keeps,
          tt,
          loads stands caller terms s 1 by m.1 v
              (stays stands caller terms s o by v v me refl (λ is. is) f (same_ticket s.views by v v
              refl)
              (same_number s.views by v v refl) (same_count s.views by v v refl)),
          λ t' e. let same : t ≡ t' = one_number t t' v.ticket holds e in
              ((λ hit. absurd (miss (hit ∙ sym same))), λ _. refl),
        ))

    -- an addition on the serving word: the slot is given back, and the entry is the last of the
    -- history
    pub leaves_at : (slots by : ℕ) (v : SeatView E) (h : S) (e : E) (said : Option E) → 0 < slots
        → v.inside ≡ true → v.number ≡ Some (caller e) → said ≡ Some e
        → stands h v.terms (v.front ++ e ∷ [])
        → Allows Rule slots by (v, (0, Some h) ∷ []) 1 (λ n. (n + 1) % 2 ^ 64)
        (LeaveStep said (v, (0, Some h) ∷ []))
    leaves_at slots by v h e said some_slot inside number says good s o wide me _ =
        let c : ℕ = word s 1 in
        let f = o.each by v me in
        let in_turn = f.enters inside in
        let has = in_turn.0 in
        let whole : v.front ≡ o.log = in_turn.1 in
        let mine = f.waits c has in
        let most = o.within_places in
        let small : c < end_of_places = let last = mine.2 in omega (arith, most) in
        let up : (c + 1) % 2 ^ 64 ≡ c + 1 = omega (arith, small) in
        let w : SeatView E = left v e in
        let log : List E = o.log ++ e ∷ [] in
        let three = o.wide in
        let served = o.served in
        let ws : List ℕ = set s.words 1 (c + 1) in
        let hs : List (maybe.Option Slot) = set s.homes 0 (some (Some h)) in
        let w1 : get_or ws 1 0 ≡ c + 1 = get_or-set_same s.words 1 (c + 1) 0 (omega arith) in
        let w0 : get_or ws 0 0 ≡ word s 0 = get_or-set_other s.words 1 0 (c + 1) 0 (λ e. omega
        arith) in
        let w2 : get_or ws 2 0 ≡ word s 2 = get_or-set_other s.words 1 2 (c + 1) 0 (λ e. omega
        arith) in
        let fits : (u : SeatView E) → FitsHistory caller terms (word s 0) (c + 1) (word s 2) log u
        → FitsAt caller terms ws log u =
        λ u x. subst (λ (t : ℕ × ℕ × ℕ). FitsHistory caller terms t.0 t.1 t.2 log u)
        (λ i. (sym w0 i, sym w1 i, sym w2 i)) x in
        let owner = f.owns (caller e) number in
        let longer : length log ≡ length o.log + 1 = length-append o.log (e ∷ []) in
        let alone : (j : ℕ) (u : SeatView E) → j ≢ by → get_elem? s.views j ≡ some u
        → u.ticket ≡ Some c → ⊥ = λ j u other d is. other (o.tickets j by c u v d me is has) in
        let rule : Rule (of ws hs (set s.views by w)) =
        next stands caller terms s o by v w ws hs log me (length-set s.words 1 (c + 1) ∙ three)
        (omega (arith, w1))
        (omega (arith, w0)) (omega (arith, w0, w1, ap one_if has))
        (subst (λ (n : ℕ). All (λ x. caller x < n) log) (sym w2)
        (All-append (λ x. caller x < word s 2) o.log (e ∷ []) o.numbered
        (one_below (word s 2) owner.0)))
        (inl (
          h,
          set_here s.homes 0 (some (Some h)) (omega arith),
          subst (λ (p : TurnTerms × List E). stands h p.0 (p.1 ++ e ∷ [])) (λ i. (
            mine.0 i,
            whole i,
          )) good,
        ))
        (fits w record {
          begins = subst (λ (l : List E). IsPrefix (l ++ e ∷ []) log) (sym whole) (prefix_same log);
          heard = prefix_more v.told o.log (e ∷ []) f.heard;
          saw = f.saw;
          waits = λ t is. absurd (none_some t None refl is);
          passes = λ t is. absurd (none_some t None refl is);
          enters = λ is. absurd (true≢false (sym is));
          owns = λ n is. (
            (f.owns n is).0,
            ap (λ (l : List E). calls_of caller n
                (l ++ e ∷ [])) (sym whole),
          );
          counts = f.counts;
        })
        (λ j u other d. let g = o.each j u d in fits u record {
          begins = prefix_more u.front o.log (e ∷ []) g.begins;
          heard = prefix_more u.told o.log (e ∷ []) g.heard;
          saw = g.saw;
          waits = λ t is. let x = g.waits t is in let ne : t ≢ c = λ same. alone j u other d (is
              ∙ ap (λ (n : ℕ). Some n) same) in let le = x.1 in (x.0, omega arith, x.2);
          passes = g.passes;
          enters = λ is. absurd (alone j u other d (g.enters is).0);
          owns = λ n is. let x = g.owns n is in let ne : caller e ≢ n =
              λ same. other (o.numbers j by
              n u v d me is (number ∙ ap (λ (k : ℕ). Some k) same)) in (
                x.0,
                calls_append caller n o.log (e ∷ [])
                    ∙ (ap (λ (l : List E). calls_of caller n o.log ++ l) (calls_other caller n e ne)
                    ∙ (append-nil (calls_of caller n o.log) ∙ x.1)),
              );
          counts = g.counts;
        })
        (λ n is. absurd (none_some n None refl is)) (same_number s.views by v w refl)
        (same_count s.views by v w refl) in (
          w,
          gives,
          tt,
          subst (λ (n : ℕ). Rule (of (set s.words 1 n) hs (set s.views by w))) (sym up) rule,
          λ e' is. let t : Some e ≡ Some e' = sym says ∙ is in let one : e ≡ e' = cc in (
            (
                let at = ap (λ (k : TurnTerms). k.first_place) mine.0 in
                omega (arith, at, ap (λ (l : List E). length l) whole)),
            ap (λ (x : E). (left v x, [])) one,
          ),
        )
      where
        one_below : (n : ℕ) → caller e < n → All (λ x. caller x < n) (e ∷ [])
        one_below n lt zero d l = lt
        one_below n lt (suc k) d l = absurd (omega arith)

    pub leaves : (slots by : ℕ) (m : SeatState S E) (h : S) (e : E) (said : Option E)
        → m.1 ≡ (0, Some h) ∷ [] → 0 < slots → m.0.inside ≡ true → m.0.number ≡ Some (caller e)
        → said ≡ Some e → stands h m.0.terms (m.0.front ++ e ∷ [])
        → Allows Rule slots by m 1 (λ n. (n + 1) % 2 ^ 64) (LeaveStep said m)
    leaves slots by m h e said is some_slot inside number says good =
        subst (λ (x : List (ℕ × Slot)). Allows Rule slots by (m.0, x) 1 (λ n. (n + 1) % 2 ^ 64)
        (LeaveStep said (m.0, x))) (sym is) (leaves_at slots by m.0 h e said some_slot inside number
        says good)
