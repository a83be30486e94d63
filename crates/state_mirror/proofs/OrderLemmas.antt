-- An order goes on by each call.
use Rattle.std.proofs.Common.{◌≡◌, ◌≢◌, ℕ, ◌+◌, ◌-◌, ◌<◌, ◌≤◌, List, [], ◌∷◌, ◌++◌, length, Option, Some, None, refl, sym, ap, ◌∙◌, arith, length-append, subst, inl, inr, ◌⊎◌}
use Rattle.std.specs.Prelude.{◌↔◌, IfSome, IsSome, MatchResult, OnOk, Result, Ok, Err}
use Rattle.asp_base.specs.Outside.{Takes, TakesFront}
use Rattle.asp_base.proofs.OutsideLemmas.{Takes-nil, Takes-trans, TakesFront-after, TakesFront-all, TakesFront-before}
use Rattle.session_machine.specs.declared.entry.Entry.{Entry}
use Rattle.session_machine.specs.Profiles.{newest}
use Rattle.journal_text.specs.WritingText.{EntryFits, PlaceFits}
use Rattle.state_mirror.specs.declared.order.Handed.{Handed}
use Rattle.state_mirror.specs.declared.order.Handed.TheVariants as answers
use Rattle.state_mirror.specs.declared.order.Stop.{Stop}
use Rattle.state_mirror.specs.declared.order.Stop.TheVariants as stops
use Rattle.state_mirror.specs.Ordering.{AreFrom, AreLawful, OrderGoesOn, HasFailedWriting, IfKnown, IsFresh, IsRefused, HasOrdered, IsRow, IsRowText, IsWriting, OrderState, WritesText, answer_of, handed_with, entry_for, part_text, place_end}
use Rattle.state_mirror.proofs.RowLemmas.{AreFrom-join, AreFrom-more, AreFrom-push, OneOrApart, are_apart, are_one, fits_from, one_or_apart, push_other, push_same, push_some, row_from, text_join, text_push}

-- ---- what was handed in, with one more

module _ (first place : ℕ) (handed : List (ℕ × Entry)) (e : Entry) (lawful : AreLawful first handed)
    (absent : entry_for handed place ≡ None) (from : first ≤ place) (below : place < place_end)
    (fits : EntryFits newest e) where
  abbrev more : List (ℕ × Entry)
  more = handed ++ (place, e) ∷ []

  pub lawful_more : AreLawful first more
  lawful_more q = by_place (one_or_apart q place)
    where
      Law : ℕ → Option Entry → Type 0
      Law r o = IfSome o (λ x. (first ≤ r) × (r < place_end) × EntryFits newest x)

      by_place : OneOrApart q place → Law q (entry_for more q)
      by_place (are_one same) = subst (λ r. Law r (entry_for more r)) (sym same)
          (subst (Law place) (sym (push_same handed place e absent)) (from, below, fits))
      by_place (are_apart apart) = subst (Law q) (sym (push_other handed place e q apart)) (lawful q)

  pub from_more : (start : ℕ) (row : List Entry) → AreFrom (entry_for handed) start row
      → AreFrom (entry_for more) start row
  from_more start row are =
      AreFrom-more (entry_for handed) (entry_for more) (push_some handed place e) start row are

-- no entry has a place beyond the end
none_beyond : (first : ℕ) (handed : List (ℕ × Entry)) → AreLawful first handed → (q : ℕ)
    → place_end ≤ q → entry_for handed q ≡ None
none_beyond first handed lawful q far = by_entry (entry_for handed q) (lawful q)
  where
    by_entry : (o : Option Entry)
        → IfSome o (λ x. (first ≤ q) × (q < place_end) × EntryFits newest x) → o ≡ None
    by_entry None law = refl
    by_entry (Some x) law = absurd (let near = law.1 in let wrong : ⊥ = omega (arith, near, far) in
        wrong)

-- ---- a place in a row

before_or_not : (a b : ℕ) → (a < b) ⊎ (b ≤ a)
before_or_not a b = grind arith

step_up : (a b : ℕ) → a ≤ b → a ≢ b → a + 1 ≤ b
step_up a b le ne = grind arith

some_is : (x : Option Entry) (e : Entry) → x ≡ Some e → IsSome x
some_is None e is = cc
some_is (Some y) e is = refl

in_row : (at : ℕ → Option Entry) (place first : ℕ) (row : List Entry) → AreFrom at first row
    → first ≤ place → place < first + length row → IsSome (at place)
in_row at place first [] are le lt = absurd (let wrong : ⊥ = omega (arith, le, lt) in wrong)
in_row at place first (e ∷ es) are le lt =
    by_place (one_or_apart first place)
    (λ apart. in_row at place (first + 1) es are.1 (step_up first place le apart)
    (omega (arith, lt)))
  where
    by_place : OneOrApart first place → (first ≢ place → IsSome (at place)) → IsSome (at place)
    by_place (are_one is) rest = subst (λ p. IsSome (at p)) is (some_is (at first) e are.0)
    by_place (are_apart apart) rest = rest apart

module _ {T : Type 0} (taken : T → Option (List ℕ)) (sink : Option (List ℕ)) where
  -- ---- the next entry is written

  -- an entry of the row that was written
  pub written : (handed : List (ℕ × Entry)) (o o' : OrderState T) (row : List Entry) (text : List ℕ)
      (e : Entry) → AreLawful o.first handed
      → AreFrom (entry_for handed) o.first row → o.next ≡ o.first + length row
      → entry_for handed o.next ≡ Some e
      → Takes sink (taken o.sink) text
      → IsRowText o.first row text
      → o'.first ≡ o.first → o'.next ≡ o.next + 1
      → Takes (taken o.sink) (taken o'.sink) (part_text o.first o.next e)
      → ((q : ℕ) → o'.next ≤ q → entry_for o'.waiting q ≡ entry_for handed q)
      → IsWriting taken sink handed o'
  written handed o o' row text e lawful each next is wrote is_text first' next' takes waits =
      let law = subst
      (λ (x : Option Entry). IfSome x (λ y. (o.first ≤ o.next) × (o.next < place_end)
      × EntryFits newest y)) is (lawful o.next) in
      let all = length-append row (e ∷ []) in
      record {
        lawful = subst (λ f. AreLawful f handed) (sym first') lawful;
        row = row ++ e ∷ [];
        each = subst (λ f. AreFrom (entry_for handed) f (row ++ e ∷ [])) (sym first')
            (AreFrom-push (entry_for handed) o.first row e each
            (subst (λ n. entry_for handed n ≡ Some e) next is));
        text = text ++ part_text o.first o.next e;
        is_text = subst
            (λ f. IsRowText f (row ++ e ∷ [])
            (text ++ part_text o.first o.next e)) (sym first')
            (text_push o.first o.next row e text next
            (fits_first o.first o.next law.0 law.1) law.2 is_text);
        written = Takes-trans sink (taken o.sink) (taken o'.sink) text
            (part_text o.first o.next e) wrote takes;
        on = record {
          next = next' ∙ ap (λ n. n + 1) next ∙ longer o.first o'.first (length row)
              (length (row ++ e ∷ [])) all first';
          waits = waits;
        };
      }
    where
      fits_first : (f n : ℕ) → f ≤ n → n < place_end → PlaceFits f
      fits_first f n le lt = omega (arith, le, lt)

      longer : (f f' n m : ℕ) → m ≡ n + 1 → f' ≡ f → (f + n) + 1 ≡ f' + m
      longer f f' n m more same = omega (arith, more, same)

  -- what could not be written ends the writing
  pub failed : (handed : List (ℕ × Entry)) (o o' : OrderState T) (row : List Entry) (text : List ℕ)
      (e : Entry) → AreLawful o.first handed
      → AreFrom (entry_for handed) o.first row → o.next ≡ o.first + length row
      → entry_for handed o.next ≡ Some e
      → Takes sink (taken o.sink) text
      → IsRowText o.first row text
      → o'.first ≡ o.first
      → TakesFront (taken o.sink) (taken o'.sink) (part_text o.first o.next e)
      → HasFailedWriting taken sink handed o'
  failed handed o o' row text e lawful each next is wrote is_text first' front =
      let law = subst
      (λ (x : Option Entry). IfSome x (λ y. (o.first ≤ o.next) × (o.next < place_end)
      × EntryFits newest y)) is (lawful o.next) in
      let first_fits = fits_first o.first o.next law.0 law.1 in
      let part = part_text o.first o.next e in
      let pushed = AreFrom-push (entry_for handed) o.first row e each
      (subst (λ n. entry_for handed n ≡ Some e) next is) in
      let now = row ++ e ∷ [] in
      let at = o.first + length now in
      let all = length-append row (e ∷ []) in
      let (rest, is_rest) = row_from (entry_for handed) place_end
      (none_beyond o.first handed lawful) (place_end - at) at
      (room at (behind o.first o.next (length row) (length now) all next law.1)) in
      let whole = text_push o.first o.next row e text next first_fits law.2 is_text in
      let (tail, joined) = text_join o.first now rest (text ++ part) first_fits
      (fits_from o.first handed lawful at rest is_rest.each) whole in
      record {
        lawful = subst (λ f. AreLawful f handed) (sym first') lawful;
        row = now ++ rest;
        is_row = subst (λ f. IsRow (entry_for handed) f (now ++ rest)) (sym first') (record {
          each = AreFrom-join (entry_for handed) o.first now rest pushed is_rest.each;
          end = subst (λ n. entry_for handed n ≡ None)
              (joined_length o.first (length now) (length rest) (length (now ++ rest))
              (length-append now rest)) is_rest.end;
        });
        text = (text ++ part) ++ tail;
        is_text = subst
            (λ f. IsRowText f (now ++ rest)
            ((text ++ part) ++ tail)) (sym first') joined;
        written = TakesFront-before sink (taken o'.sink) (text ++ part) tail
            (TakesFront-after sink (taken o.sink) (taken o'.sink) text part wrote front);
      }
    where
      fits_first : (f n : ℕ) → f ≤ n → n < place_end → PlaceFits f
      fits_first f n le lt = omega (arith, le, lt)

      behind : (f n r m : ℕ) → m ≡ r + 1 → n ≡ f + r → n < place_end → f + m ≤ place_end
      behind f n r m more is below = omega (arith, more, is, below)

      room : (n : ℕ) → n ≤ place_end → n + (place_end - n) ≡ place_end
      room n le = omega (arith, le)

      joined_length : (f n r m : ℕ) → m ≡ n + r → (f + n) + r ≡ f + m
      joined_length f n r m is = omega (arith, is)

  -- ---- the calls

  -- nothing waits for the next place
  pub drained : (handed : List (ℕ × Entry)) (o : OrderState T) → IsWriting taken sink handed o
      → o.stop ≡ None → entry_for o.waiting o.next ≡ None → HasOrdered taken sink handed o
  drained handed o writing goes none = record {
    lawful = writing.lawful;
    row = writing.row;
    is_row = record {
      each = writing.each;
      end = subst (λ n. entry_for handed n ≡ None) writing.on.next
          (sym (writing.on.waits o.next (le_refl o.next)) ∙ none);
    };
    text = writing.text;
    is_text = writing.is_text;
    written = subst
        (λ s. WritesText s sink (taken o.sink) writing.text)
        (sym goes) writing.written;
    goes_on = λ _. writing.on;
  }
    where
      le_refl : (n : ℕ) → n ≤ n
      le_refl n = omega arith

  -- the entry that waited for the next place
  pub waited : (handed : List (ℕ × Entry)) (o : OrderState T) (e : Entry)
      → IsWriting taken sink handed o → Some e ≡ entry_for o.waiting o.next
      → entry_for handed o.next ≡ Some e
  waited handed o e writing found = sym (writing.on.waits o.next (le_refl o.next)) ∙ sym found
    where
      le_refl : (n : ℕ) → n ≤ n
      le_refl n = omega arith

  -- an order that could write no more is stopped
  pub stopped : (handed : List (ℕ × Entry)) (o o' : OrderState T) (s : Stop)
      → HasFailedWriting taken sink handed o → o'.first ≡ o.first → o'.sink ≡ o.sink → o'.stop ≡ Some s
      → HasOrdered taken sink handed o'
  stopped handed o o' s fail first' sink' stop' = record {
    lawful = subst (λ f. AreLawful f handed) (sym first') fail.lawful;
    row = fail.row;
    is_row = subst (λ f. IsRow (entry_for handed) f fail.row) (sym first') fail.is_row;
    text = fail.text;
    is_text = subst (λ f. IsRowText f fail.row fail.text)
        (sym first') fail.is_text;
    written = subst
        (λ x. WritesText x sink (taken o'.sink) fail.text)
        (sym stop')
        (subst (λ x. TakesFront sink (taken x) fail.text) (sym sink') fail.written);
    goes_on = λ none. absurd (no_stop o'.stop stop' none);
  }
    where
      no_stop : (x : Option Stop) → x ≡ Some s
          → x ≡ None → ⊥
      no_stop None a b = cc
      no_stop (Some y) a b = cc

  module _ (handed : List (ℕ × Entry)) (place : ℕ) (e : Entry) (o : OrderState T)
      (has : HasOrdered taken sink handed o) (goes : o.stop ≡ None)
      (later : o.next ≤ place) (waits_not : entry_for o.waiting place ≡ None)
      (from : o.first ≤ place) (below : place < place_end) (fits : EntryFits newest e) where
    on : OrderGoesOn handed has.row o
    on = has.goes_on goes

    pub absent : entry_for handed place ≡ None
    absent = sym (on.waits place later) ∙ waits_not

    whole : Takes sink (taken o.sink) has.text
    whole = subst (λ s. WritesText s sink (taken o.sink) has.text) goes has.written

    lawful' : AreLawful o.first (handed ++ (place, e) ∷ [])
    lawful' = lawful_more o.first place handed e has.lawful absent from below fits

    each' : AreFrom (entry_for (handed ++ (place, e) ∷ [])) o.first has.row
    each' = from_more o.first place handed e has.lawful absent from below fits o.first has.row
        has.is_row.each

    here : place ≤ o.next → place ≡ o.next
    here le = omega (arith, le, later)

    at_next : place ≤ o.next → entry_for (handed ++ (place, e) ∷ []) o.next ≡ Some e
    at_next le = subst (λ n. entry_for (handed ++ (place, e) ∷ []) n ≡ Some e) (here le)
        (push_same handed place e absent)

    -- the entry of the next place was written
    pub begins : (o' : OrderState T) → place ≤ o.next → o'.first ≡ o.first → o'.next ≡ o.next + 1
        → o'.waiting ≡ o.waiting
        → Takes (taken o.sink) (taken o'.sink) (part_text o.first o.next e)
        → IsWriting taken sink (handed ++ (place, e) ∷ []) o'
    begins o' le first' next' waiting' takes =
        written (handed ++ (place, e) ∷ []) o o' has.row has.text e lawful' each' on.next
        (at_next le) whole has.is_text first' next' takes
        (λ q above. subst (λ w. entry_for w q ≡ entry_for (handed ++ (place, e) ∷ []) q)
        (sym waiting')
        (on.waits q (farther q above) ∙ sym (push_other handed place e q (apart q above))))
      where
        farther : (q : ℕ) → o'.next ≤ q → o.next ≤ q
        farther q above = omega (arith, above, next')

        apart : (q : ℕ) → o'.next ≤ q → q ≢ place
        apart q above same = let n = here le in omega (arith, above, next', same, n)

    -- or could not be
    pub begins_not : (o' : OrderState T) → place ≤ o.next → o'.first ≡ o.first
        → TakesFront (taken o.sink) (taken o'.sink) (part_text o.first o.next e)
        → HasFailedWriting taken sink (handed ++ (place, e) ∷ []) o'
    begins_not o' le first' front =
        failed (handed ++ (place, e) ∷ []) o o' has.row has.text e lawful' each' on.next
        (at_next le) whole has.is_text first' front

    row_stays : o.next < place → IsRow (entry_for (handed ++ (place, e) ∷ [])) o.first has.row
    row_stays lt = record {
      each = each';
      end = push_other handed place e (o.first + length has.row) apart ∙ has.is_row.end;
    }
      where
        apart : (o.first + length has.row) ≢ place
        apart same = let n = on.next in omega (arith, same, n, lt)

    -- the entry of a later place waits
    pub keeps : (o' : OrderState T) → o.next < place → o' ≡ record o { waiting = o'.waiting }
        → entry_for o'.waiting place ≡ Some e
        → ((q : ℕ) → q ≢ place → entry_for o'.waiting q ≡ entry_for o.waiting q)
        → HasOrdered taken sink (handed ++ (place, e) ∷ []) o'
    keeps o' lt same kept others =
        subst (HasOrdered taken sink (handed ++ (place, e) ∷ [])) (sym same) (record {
          lawful = lawful';
          row = has.row;
          is_row = row_stays lt;
          text = has.text;
          is_text = has.is_text;
          written = has.written;
          goes_on = λ _. record {
            next = on.next;
            waits = λ q above. by_place q above
                (one_or_apart q place);
          };
        })
      where
        by_place : (q : ℕ) → o.next ≤ q → OneOrApart q place
            → entry_for o'.waiting q ≡ entry_for (handed ++ (place, e) ∷ []) q
        by_place q above (are_one is) =
            subst (λ r. entry_for o'.waiting r ≡ entry_for (handed ++ (place, e) ∷ []) r) (sym is)
            (kept ∙ sym (push_same handed place e absent))
        by_place q above (are_apart apart) =
            others q apart ∙ on.waits q above ∙ sym (push_other handed place e q apart)

    -- or finds no memory
    pub keeps_not : (o' : OrderState T) → o.next < place → o' ≡ record o { waiting = o'.waiting }
        → HasFailedWriting taken sink (handed ++ (place, e) ∷ []) o'
    keeps_not o' lt same =
        subst (HasFailedWriting taken sink (handed ++ (place, e) ∷ [])) (sym same) (record {
          lawful = lawful';
          row = has.row;
          is_row = row_stays lt;
          text = has.text;
          is_text = has.is_text;
          written = TakesFront-all sink (taken o.sink) has.text whole;
        })

    -- its line was not spelled
    pub unspelled : HasFailedWriting taken sink (handed ++ (place, e) ∷ []) o
    unspelled = by_place (before_or_not o.next place)
      where
        by_place : (o.next < place) ⊎ (place ≤ o.next)
            → HasFailedWriting taken sink (handed ++ (place, e) ∷ []) o
        by_place (inl lt) = keeps_not o lt refl
        by_place (inr le) = begins_not o le refl
            (TakesFront-before (taken o.sink) (taken o.sink) [] (part_text o.first o.next e)
            (TakesFront-all (taken o.sink) (taken o.sink) [] (Takes-nil (taken o.sink))))

  -- an entry is known exactly where one was handed in for its place
  pub is_known : (handed : List (ℕ × Entry)) (o : OrderState T) (place : ℕ)
      → HasOrdered taken sink handed o → o.stop ≡ None → o.first ≤ place
      → (place < o.next) ⊎ IsSome (entry_for o.waiting place) → IsSome (entry_for handed place)
  is_known handed o place has goes from (inl before) =
      in_row (entry_for handed) place o.first has.row has.is_row.each from
      (let n = (has.goes_on goes).next in omega (arith, before, n))
  is_known handed o place has goes from (inr waits) = by_side (before_or_not place o.next)
    where
      by_side : (place < o.next) ⊎ (o.next ≤ place) → IsSome (entry_for handed place)
      by_side (inl before) =
          in_row (entry_for handed) place o.first has.row has.is_row.each from
          (let n = (has.goes_on goes).next in omega (arith, before, n))
      by_side (inr later) = subst IsSome ((has.goes_on goes).waits place later) waits

  -- ---- one turn of the writing

  module _ (handed : List (ℕ × Entry)) (p o o' : OrderState T) (e : Entry)
      (writing : IsWriting taken sink handed p) (found : Some e ≡ entry_for p.waiting p.next)
      (took : o ≡ record p { waiting = o.waiting }) (first' : o'.first ≡ o.first) where
    firsts : o'.first ≡ p.first
    firsts = first' ∙ ap (λ (x : OrderState T). x.first) took

    -- the entry that waited was written
    pub step_goes : ((q : ℕ) → p.next < q → entry_for o.waiting q ≡ entry_for p.waiting q)
        → o'.waiting ≡ o.waiting → o'.next ≡ o.next + 1
        → Takes (taken o.sink) (taken o'.sink) (part_text o.first o.next e)
        → IsWriting taken sink handed o'
    step_goes later waiting' next' takes =
        written handed p o' writing.row writing.text e writing.lawful writing.each writing.on.next
        (waited handed p e writing found) writing.written writing.is_text firsts nexts
        (subst (λ x. Takes (taken x.sink) (taken o'.sink) (part_text x.first x.next e)) took takes)
        (λ q above. ap (λ w. entry_for w q) waiting' ∙ later q (beyond q above)
        ∙ writing.on.waits q (farther q above))
      where
        nexts : o'.next ≡ p.next + 1
        nexts = next' ∙ ap (λ (x : OrderState T). x.next + 1) took

        beyond : (q : ℕ) → o'.next ≤ q → p.next < q
        beyond q above = let n = nexts in omega (arith, above, n)

        farther : (q : ℕ) → o'.next ≤ q → p.next ≤ q
        farther q above = let n = nexts in omega (arith, above, n)

    -- or could not be
    pub step_fails : TakesFront (taken o.sink) (taken o'.sink) (part_text o.first o.next e)
        → HasFailedWriting taken sink handed o'
    step_fails front =
        failed handed p o' writing.row writing.text e writing.lawful writing.each writing.on.next
        (waited handed p e writing found) writing.written writing.is_text firsts
        (subst (λ x. TakesFront (taken x.sink) (taken o'.sink) (part_text x.first x.next e)) took
        front)

  -- an entry for whose place none waits and none was written was not handed in
  pub not_known : (handed : List (ℕ × Entry)) (o : OrderState T) (place : ℕ)
      → HasOrdered taken sink handed o → o.stop ≡ None → o.next ≤ place
      → entry_for o.waiting place ≡ None → IsSome (entry_for handed place) → ⊥
  not_known handed o place has goes later none some =
      nothing (entry_for handed place)
      (sym ((has.goes_on goes).waits place later) ∙ none) some
    where
      nothing : (x : Option Entry) → x ≡ None → IsSome x → ⊥
      nothing None is h = cc
      nothing (Some y) is h = cc

  -- nothing was handed in
  pub nothing_handed : (o : OrderState T) → sink ≡ taken o.sink → o.next ≡ o.first
      → o.waiting ≡ [] → o.stop ≡ None → HasOrdered taken sink [] o
  nothing_handed o start next none goes = record {
    lawful = λ place. tt;
    row = [];
    is_row = record { each = tt; end = refl };
    text = [];
    is_text = refl;
    written = subst (λ s. WritesText s sink (taken o.sink) []) (sym goes)
        (subst (λ x. Takes sink x []) start (Takes-nil sink));
    goes_on = λ _. record {
      next = omega (arith, next);
      waits = λ place above. ap (λ w. entry_for w place) none;
    };
  }

  -- what came of an entry that was to wait
  pub keeps_either : (handed : List (ℕ × Entry)) (place : ℕ) (e : Entry) (o o' : OrderState T)
      (r : Result (Unit {0}) Stop) → o.stop ≡ None → o.next < place
      → entry_for o.waiting place ≡ None → o.first ≤ place → place < place_end → EntryFits newest e
      → o' ≡ record o { waiting = o'.waiting }
      → OnOk r (entry_for o'.waiting place ≡ Some e)
      → ((q : ℕ) → q ≢ place → entry_for o'.waiting q ≡ entry_for o.waiting q)
      → HasOrdered taken sink handed o
      → MatchResult r (λ _. HasOrdered taken sink (handed ++ (place, e) ∷ []) o')
      (λ _. HasFailedWriting taken sink (handed ++ (place, e) ∷ []) o')
  keeps_either handed place e o o' (Ok x) goes lt none from below fits same kept others has =
      keeps handed place e o has goes (omega (arith, lt)) none from below fits o' lt same kept
      others
  keeps_either handed place e o o' (Err x) goes lt none from below fits same kept others has =
      keeps_not handed place e o has goes (omega (arith, lt)) none from below fits o' lt same

-- ---- the answers

pub handed_stopped : (s : Stop) (place : ℕ) (e : Entry) (handed : List (ℕ × Entry))
    → handed_with (answer_of s) place e handed ≡ handed ++ (place, e) ∷ []
handed_stopped stops.Sink place e handed = refl
handed_stopped stops.NoMemory place e handed = refl

pub fresh_not_known : (a : Handed) (place : ℕ) → IsFresh a → a ≡ answers.Known place → ⊥
fresh_not_known answers.Stopped place fresh is = cc
fresh_not_known (answers.Known known) place fresh is = fresh
fresh_not_known answers.Taken place fresh is = cc
fresh_not_known answers.SinkFault place fresh is = cc
fresh_not_known answers.NoMemory place fresh is = cc

some_stop : (o : Option Stop) → IsSome o → o ≡ None → ⊥
some_stop None some none = cc
some_stop (Some s) some none = cc

none_stop : (o : Option Stop) → o ≡ None → IsSome o → ⊥
none_stop o none some = some_stop o some none

module _ {T : Type 0} where
  pub refused_stopped : (o : OrderState T) (place : ℕ) (a : Handed) → IsRefused o place a
      → (a ≡ answers.Stopped) ↔ IsSome o.stop
  refused_stopped o place answers.Stopped is = (λ _. is, λ _. refl)
  refused_stopped o place (answers.Known known) is =
      (λ a. cc, λ some. absurd (none_stop o.stop is.1 some))
  refused_stopped o place answers.Taken is = absurd is
  refused_stopped o place answers.SinkFault is = absurd is
  refused_stopped o place answers.NoMemory is = absurd is

  pub refused_place : (o : OrderState T) (place : ℕ) (a : Handed) → IsRefused o place a
      → IfKnown a (λ known. (known ≡ place) × (o.stop ≡ None) × (o ≡ o))
  refused_place o place answers.Stopped is = tt
  refused_place o place (answers.Known known) is = (is.0, is.1, refl)
  refused_place o place answers.Taken is = tt
  refused_place o place answers.SinkFault is = tt
  refused_place o place answers.NoMemory is = tt

module _ {T : Type 0} (taken : T → Option (List ℕ)) (sink : Option (List ℕ)) where
  pub refused_goes : (handed : List (ℕ × Entry)) (o : OrderState T) (place : ℕ) (e : Entry)
      (a : Handed) → IsRefused o place a → HasOrdered taken sink handed o
      → HasOrdered taken sink (handed_with a place e handed) o
  refused_goes handed o place e answers.Stopped is has = has
  refused_goes handed o place e (answers.Known known) is has = has
  refused_goes handed o place e answers.Taken is has = absurd is
  refused_goes handed o place e answers.SinkFault is has = absurd is
  refused_goes handed o place e answers.NoMemory is has = absurd is

  pub refused_known : (handed : List (ℕ × Entry)) (o : OrderState T) (place : ℕ) (a : Handed)
      → HasOrdered taken sink handed o → o.stop ≡ None → o.first ≤ place → IsRefused o place a
      → (a ≡ answers.Known place) ↔ IsSome (entry_for handed place)
  refused_known handed o place answers.Stopped has goes from is =
      absurd (none_stop o.stop goes is)
  refused_known handed o place (answers.Known known) has goes from is =
      (λ _. is_known taken sink handed o place has goes from is.2, λ _. ap answers.Known is.0)
  refused_known handed o place answers.Taken has goes from is = absurd is
  refused_known handed o place answers.SinkFault has goes from is = absurd is
  refused_known handed o place answers.NoMemory has goes from is = absurd is
