-- Each load and each step on the word of tickets or of callers keeps the rule.
use Rattle.std.proofs.Common.{◌≡◌, ℕ, ◌+◌, ◌%◌, ◌^◌, ◌<◌, ◌≤◌, List, false, true≢false, Option, Some, None, eqb, get_or, set, refl, sym, ap, ◌∙◌, subst, inl, inr, arith, length-set, get_or-set_same, get_or-set_other}
use Rattle.std.specs.Prelude.{All}
use mathlib.Core.List.{IsPrefix}
use mathlib.Core.Option.{none}
use prog.Atomic.{either}
use Rattle.atomic_table.specs.Table.{State, Act, step, keeps, Valid, carried_after, stepped, Allows}
use Rattle.atomic_table.proofs.Lists.{exchanged}
use Rattle.turnstile.specs.declared.stands.TurnTerms.{TurnTerms}
use Rattle.turnstile.specs.declared.turn_rule.SeatView.{SeatView}
use Rattle.turnstile.specs.TurnRule.{end_of_places, calls_of, longer, one_if, mark, FitsHistory, IsOrdered}
use Rattle.turnstile.specs.TurnSteps.{SeatState, saw, with_ticket, with_draw, compared, DrawsNumber, SeesTicket, TakesTicket, TakesLonger, LearnsCount}
use Rattle.turnstile.proofs.Fronts.{prefix_same, prefix_nil, prefix_length, prefix_whole, prefix_shorter, longer_cases, calls_none, calls_between, all_prefix}
use Rattle.turnstile.proofs.Seats.{one_number}
use Rattle.turnstile.proofs.OneSeat.{of, word, FitsAt, same_ticket, same_number, same_count, stored_set, next, stays, loads, saw_fits}

module _ {S E : Type 0} (stands : S → TurnTerms → List E → Type 0) (caller : E → ℕ)
    (terms : TurnTerms)
  where
    abbrev St : Type 0
    St = State (Option S) (SeatView E)

    abbrev Slot : Type 0
    Slot = Option S

    abbrev Rule : St → Type 0
    Rule = IsOrdered stands caller terms

    -- a load of the ticket word
    pub sees_ticket : (slots by : ℕ) (m : SeatState S E)
        → Allows Rule slots by m 0 (λ n. n) (SeesTicket m)
    sees_ticket slots by m s o wide me _ = let f = o.each by m.0 me in (
      saw m.0 (word s 0),
      keeps,
      tt,
      loads stands caller terms s 0 by m.1 (saw m.0 (word s 0))
          (saw_fits stands caller terms s o by m.0 me),
      record { never_falls = f.saw; within_places = o.within_places; seen = refl },
    )

    -- a compare and exchange on the ticket word: the seat holds the ticket, or has seen a newer
    -- word
    pub takes_ticket : (slots by : ℕ) (m : SeatState S E) (old : ℕ) → old < end_of_places
        → m.0.ticket ≡ None → m.0.inside ≡ false → m.0.terms ≡ terms
        → ((n : ℕ) × (m.0.number ≡ Some n))
        → Allows Rule slots by m 0 (λ n. either (eqb n old) (old + 1) n)
        (TakesTicket (step slots 0 old (old + 1) none) m)
    takes_ticket slots by m old room free outside at number s o wide me _ =
        let v : SeatView E = m.0 in
        let c : ℕ = word s 0 in
        let f = o.each by v me in
        let G : ℕ → Type 0 = λ n. (w : SeatView E) × (a : Act Slot) × Valid s.homes m.1 a
        × Rule (stepped s 0 n by m.1 w a) × TakesTicket (step slots 0 old (old + 1) none) m c (
          w,
          carried_after m.1 a,
        ) in
        exchanged c old (old + 1) G
        (λ hit.
        let w : SeatView E = with_ticket v c in
        let ws : List ℕ = set s.words 0 (old + 1) in
        let three = o.wide in
        let w0 : get_or ws 0 0 ≡ old + 1 = get_or-set_same s.words 0 (old + 1) 0 (omega arith) in
        let w1 : get_or ws 1 0 ≡ word s 1 = get_or-set_other s.words 0 1 (old + 1) 0 (λ e. omega
        arith) in
        let w2 : get_or ws 2 0 ≡ word s 2 = get_or-set_other s.words 0 2 (old + 1) 0 (λ e. omega
        arith) in
        let queued = o.queued in
        let behind : word s 1 ≤ c = omega (arith, queued) in
        let fits : (u : SeatView E) → FitsHistory caller terms (old + 1) (word s 1) (word s 2) o.log
        u
        → FitsAt caller terms ws o.log u =
        λ u x. subst (λ (t : ℕ × ℕ × ℕ). FitsHistory caller terms t.0 t.1 t.2 o.log u)
        (λ i. (sym w0 i, sym w1 i, sym w2 i)) x in (
          w,
          keeps,
          tt,
          next stands caller terms s o by v w ws s.homes o.log me
              (length-set s.words 0 (old + 1) ∙ three) (w1
              ∙ o.served)
              (omega arith)
              (omega (arith, ap one_if free, w0, w1))
              (subst (λ (n : ℕ). All (λ e. caller e < n) o.log) (sym w2) o.numbered)
              (stored_set stands caller terms o.log s ws by v w me (λ is. is) o.stored)
              (fits w record {
                begins = f.begins;
                heard = f.heard;
                saw = omega arith;
                waits = λ t e. let is : c ≡ t = one_number c t (Some c) refl e in
                    (at, omega arith, omega arith);
                passes = λ t e. number;
                enters = λ is. absurd (true≢false (sym is ∙ outside));
                owns = f.owns;
                counts = f.counts;
              })
              (λ j u other e. let g = o.each j u e in let seen = g.saw in
              fits u record {
                begins = g.begins;
                heard = g.heard;
                saw = omega arith;
                waits = λ t d. let x = g.waits t d in (x.0, x.1, omega (arith, x.2));
                passes = g.passes;
                enters = g.enters;
                owns = g.owns;
                counts = g.counts;
              })
              (λ n is. inr (λ j u other e d. let t = (o.each j u e).waits n d in
              let k : c ≡ n = one_number c n (Some c) refl is in omega (arith, t.2)))
              (same_number s.views by v w refl) (same_count s.views by v w refl),
          record {
            never_falls = f.saw;
            within_places = o.within_places;
            held = λ _. refl;
            missed = λ miss. absurd (miss hit);
          },
        ))
        (λ miss. (
          saw v c,
          keeps,
          tt,
          loads stands caller terms s 0 by m.1 (saw v c) (saw_fits stands caller terms s o by v me),
          record {
            never_falls = f.saw;
            within_places = o.within_places;
            held = λ hit. absurd (miss hit);
            missed = λ _. refl;
          },
        ))

    -- an addition on the word of callers: the roll has the number that it found
    pub draws_number : (slots by : ℕ) (m : SeatState S E) (c : ℕ) → m.0.count ≡ Some c
        → c < end_of_places → Allows Rule slots by m 2 (λ n. (n + 1) % 2 ^ 64) (DrawsNumber m)
    draws_number slots by m c counted room s o wide me _ =
        let v : SeatView E = m.0 in
        let f = o.each by v me in
        let at : c ≡ word s 2 = f.counts c counted in
        let up : (word s 2 + 1) % 2 ^ 64 ≡ c + 1 = omega (arith, room) in
        let w : SeatView E = with_draw v c in
        let three = o.wide in
        let ws : List ℕ = set s.words 2 (c + 1) in
        let w0 : get_or ws 0 0 ≡ word s 0 = get_or-set_other s.words 2 0 (c + 1) 0 (λ e. omega
        arith) in
        let w1 : get_or ws 1 0 ≡ word s 1 = get_or-set_other s.words 2 1 (c + 1) 0 (λ e. omega
        arith) in
        let w2 : get_or ws 2 0 ≡ c + 1 = get_or-set_same s.words 2 (c + 1) 0 (omega arith) in
        let fits : (u : SeatView E) → FitsHistory caller terms (word s 0) (word s 1) (c + 1) o.log u
        → FitsAt caller terms ws o.log u =
        λ u x. subst (λ (t : ℕ × ℕ × ℕ). FitsHistory caller terms t.0 t.1 t.2 o.log u)
        (λ i. (sym w0 i, sym w1 i, sym w2 i)) x in
        let below : All (λ e. caller e < c) o.log = subst (λ (n : ℕ). All (λ e. caller e <
        n) o.log) (sym at) o.numbered in
        let none : calls_of caller c o.log ≡ calls_of caller c v.front =
        calls_none caller c o.log below ∙ sym (calls_none caller c v.front (all_prefix caller
        (λ e. caller e < c) v.front o.log f.begins below)) in
        let rule : Rule (of ws s.homes (set s.views by w)) =
        next stands caller terms s o by v w ws s.homes o.log me
        (length-set s.words 2 (c + 1) ∙ three) (w1 ∙ o.served)
        (let b = o.within_places in omega (arith, w0)) (omega (arith, w0, w1))
        (subst (λ (n : ℕ). All (λ e. caller e < n) o.log) (sym w2)
        (λ k d l. let t : caller (get_or o.log k d) < c = below k d l in omega arith))
        (stored_set stands caller terms o.log s ws by v w me (λ is. is) o.stored)
        (fits w record {
          begins = f.begins;
          heard = f.heard;
          saw = f.saw;
          waits = f.waits;
          passes = λ t is. (c, refl);
          enters = f.enters;
          owns = λ n is. let same : c ≡ n = one_number c n (Some c) refl is in (
            omega arith,
            subst (λ (k : ℕ). calls_of caller k o.log ≡ calls_of caller k v.front) same
                none,
          );
          counts = λ n is. one_number n (c + 1) (Some (c + 1)) is refl;
        })
        (λ j u other d. let g = o.each j u d in fits u record {
          begins = g.begins;
          heard = g.heard;
          saw = g.saw;
          waits = g.waits;
          passes = g.passes;
          enters = g.enters;
          owns = λ n is. let x = g.owns n is in (let lt = x.0 in omega arith, x.1);
          counts = λ n is. absurd (other (o.rolls j by 0 u v d me (ap mark is)
              (ap mark counted)));
        })
        (same_ticket s.views by v w refl)
        (λ n is. inr (λ j u other d e. let same : c ≡ n = one_number c n (Some c) refl is in
        let lt = ((o.each j u d).owns n e).0 in omega arith))
        (λ n is. inl (ap mark counted ∙ is)) in (
          w,
          keeps,
          tt,
          subst (λ (n : ℕ). Rule (of (set s.words 2 n) s.homes (set s.views by w))) (sym up) rule,
          subst (λ (r : ℕ). DrawsNumber m r (w, m.1)) at record { counted = counted; drawn = refl },
        )

    -- a load at which the front becomes the longer of itself and what the seat was told
    pub takes_longer : (slots by i : ℕ) (m : SeatState S E)
        → Allows Rule slots by m i (λ n. n) (TakesLonger caller m)
    takes_longer slots by i m s o wide me _ =
        let v : SeatView E = m.0 in
        let f = o.each by v me in
        let w : SeatView E = compared v in
        let long : List E = longer v.front v.told in
        let begins : IsPrefix long o.log = longer_cases (λ l. IsPrefix l o.log) v.front v.told (λ _.
        f.heard) (λ _. f.begins) in
        let mine : IsPrefix v.front long = longer_cases (λ l. IsPrefix v.front
        l) v.front v.told (λ lt. prefix_shorter v.front v.told o.log f.begins f.heard
        (omega arith)) (λ _. prefix_same v.front) in
        let told : IsPrefix v.told long = longer_cases (λ l. IsPrefix v.told l) v.front v.told (λ _.
        prefix_same v.told) (λ le. prefix_shorter v.told v.front o.log f.heard f.begins le) in
        let same : (n : ℕ) → v.number ≡ Some n
        → calls_of caller n long ≡ calls_of caller n v.front =
        λ n is. calls_between caller n v.front long o.log mine begins (f.owns n is).1 in (
          w,
          keeps,
          tt,
          loads stands caller terms s i by m.1 w
              (stays stands caller terms s o by v w me refl (λ is. is) record {
                begins = begins;
                heard = prefix_nil o.log;
                saw = f.saw;
                waits = f.waits;
                passes = f.passes;
                enters = λ is. let x = f.enters is in (
                  x.0,
                  sym (prefix_whole o.log long (subst
                      (λ (l : List E). IsPrefix l long) x.1 mine)
                      (prefix_length long o.log begins)),
                );
                owns = λ n is. let x = f.owns n is in (x.0, x.1 ∙ sym (same n is));
                counts = f.counts;
              } (same_ticket s.views by v w refl) (same_number s.views by v w refl)
              (same_count s.views by v w refl)),
          record { longer = refl; told = told; grows = record { longer = mine; same = same } },
        )

    -- a load at which a seat that knows the count sees that the callers in its front are below it
    pub learns_count : (slots by i : ℕ) (m : SeatState S E)
        → Allows Rule slots by m i (λ n. n) (LearnsCount caller m)
    learns_count slots by i m s o wide me _ = let v : SeatView E = m.0 in
        let f = o.each by v me in (
          v,
          keeps,
          tt,
          loads stands caller terms s i by m.1 v
              (stays stands caller terms s o by v v me refl (λ is. is) f
              (same_ticket s.views by v v refl)
              (same_number s.views by v v refl) (same_count s.views by v v refl)),
          record {
            same = refl;
            callers = λ c is. all_prefix caller (λ e. caller e <
                c) v.front o.log f.begins (subst (λ (n : ℕ). All (λ e. caller e < n) o.log)
                (sym (f.counts c is)) o.numbered);
          },
        )
