-- Entries by their places, and the text of a row of them.
use Rattle.std.proofs.Common.{◌≡◌, ◌≢◌, ℕ, zero, suc, ◌+◌, ◌<◌, ◌≤◌, Bool, true, false, cond, List, [], ◌∷◌, ◌++◌, length, Option, Some, None, refl, sym, ap, ◌∙◌, arith, append_assoc, append-nil, subst}
use Rattle.std.specs.Prelude.{IfSome, if◌then◌else◌, ◌==◌}
use Rattle.std.specs.BTreeMap.{is_at}
use Rattle.std.specs.Cmp.{Equal-is, nat_cmp_is}
use Rattle.std.specs.List.{AllByRecursion}
use Rattle.std.specs.Map.{lookup}
use Rattle.std.specs.Ordering.{is_eq, nat_cmp}
use Rattle.std.specs.declared.cmp.Ordering.TheVariants.{Equal}
use Rattle.std.proofs.lemmas.List.{flat_map_more}
use Rattle.std.proofs.lemmas.Map.Lookups.{exact_unsigned}
use Rattle.std.proofs.lemmas.Bool.Decides.{nat_tests}
use Rattle.session_machine.specs.declared.entry.Entry.{Entry}
use Rattle.session_machine.specs.Profiles.{newest}
use Rattle.journal_text.specs.WritingText.{EntryFits, PlaceFits, entry_line, head_line, journal_text}
use Rattle.state_mirror.specs.Ordering.{AreFrom, AreLawful, IsRow, IsRowText, entry_for, part_text, place_end}

-- ---- a place among places

pub at_same : (q : ℕ) → is_at (nat_cmp q) q ≡ true
at_same q = ap is_eq (sym (nat_cmp_is q q Equal refl))

pub at_other : (q p : ℕ) → q ≢ p → is_at (nat_cmp q) p ≡ false
at_other q p apart = by_test (is_at (nat_cmp q) p) refl
  where
    by_test : (b : Bool) → is_at (nat_cmp q) p ≡ b → b ≡ false
    by_test true is = absurd (apart (exact_unsigned q p ((Equal-is (nat_cmp q p)).0 is)))
    by_test false is = refl

-- the first of two that is there
abbrev or_else : Option Entry → Option Entry → Option Entry
or_else None other = other
or_else (Some e) other = Some e

lookup_push : (test : ℕ → Bool) (es : List (ℕ × Entry)) (p : ℕ × Entry)
    → lookup test (es ++ p ∷ []) ≡ or_else (lookup test es) (cond (test p.0) (Some p.1) None)
lookup_push test [] p = refl
lookup_push test (e ∷ es) p = by_test (test e.0) (lookup_push test es p)
  where
    by_test : (b : Bool) → lookup test (es ++ p ∷ [])
        ≡ or_else (lookup test es) (cond (test p.0) (Some p.1) None)
        → cond b (Some e.1) (lookup test (es ++ p ∷ []))
        ≡ or_else (cond b (Some e.1) (lookup test es)) (cond (test p.0) (Some p.1) None)
    by_test true rest = refl
    by_test false rest = rest

module _ (handed : List (ℕ × Entry)) (place : ℕ) (e : Entry) where
  pub push_same : entry_for handed place ≡ None
      → entry_for (handed ++ (place, e) ∷ []) place ≡ Some e
  push_same absent = lookup_push (is_at (nat_cmp place)) handed (place, e)
      ∙ ap (λ o. or_else o (cond (is_at (nat_cmp place) place) (Some e) None)) absent
      ∙ ap (λ b. cond b (Some e) None) (at_same place)

  pub push_some : (q : ℕ) (x : Entry) → entry_for handed q ≡ Some x
      → entry_for (handed ++ (place, e) ∷ []) q ≡ Some x
  push_some q x is = lookup_push (is_at (nat_cmp q)) handed (place, e)
      ∙ ap (λ o. or_else o (cond (is_at (nat_cmp q) place) (Some e) None)) is

  or_none : (o : Option Entry) → or_else o None ≡ o
  or_none None = refl
  or_none (Some x) = refl

  pub push_other : (q : ℕ) → q ≢ place
      → entry_for (handed ++ (place, e) ∷ []) q ≡ entry_for handed q
  push_other q apart = lookup_push (is_at (nat_cmp q)) handed (place, e)
      ∙ ap (λ b. or_else (entry_for handed q) (cond b (Some e) None)) (at_other q place apart)
      ∙ or_none (entry_for handed q)

-- two places are one, or they are not
pub data OneOrApart (q p : ℕ) : Type 0 where
  are_one : q ≡ p → OneOrApart q p
  are_apart : q ≢ p → OneOrApart q p

pub one_or_apart : (q p : ℕ) → OneOrApart q p
one_or_apart q p = by_test (is_at (nat_cmp q) p) refl
  where
    by_test : (b : Bool) → is_at (nat_cmp q) p ≡ b → OneOrApart q p
    by_test true is = are_one (exact_unsigned q p ((Equal-is (nat_cmp q p)).0 is))
    by_test false is =
        are_apart (λ same. wrong (sym is ∙ subst (λ r. is_at (nat_cmp q) r ≡ true) same (at_same q)))
      where
        wrong : false ≡ true → ⊥
        wrong e = cc

-- ---- entries one behind the other

module _ (at : ℕ → Option Entry) where
  pub AreFrom-push : (first : ℕ) (row : List Entry) (e : Entry) → AreFrom at first row
      → at (first + length row) ≡ Some e → AreFrom at first (row ++ e ∷ [])
  AreFrom-push first [] e are is = (subst (λ n. at n ≡ Some e) (zero_more first) is, tt)
    where
      zero_more : (n : ℕ) → n + 0 ≡ n
      zero_more n = omega arith
  AreFrom-push first (x ∷ xs) e are is = (
    are.0,
    AreFrom-push (first + 1) xs e are.1
        (subst (λ n. at n ≡ Some e) (one_more first (length xs)) is),
  )
    where
      one_more : (n m : ℕ) → n + suc m ≡ (n + 1) + m
      one_more n m = omega arith

  pub AreFrom-join : (first : ℕ) (row more : List Entry) → AreFrom at first row
      → AreFrom at (first + length row) more → AreFrom at first (row ++ more)
  AreFrom-join first [] more are behind = subst (λ n. AreFrom at n more) (zero_more first) behind
    where
      zero_more : (n : ℕ) → n + 0 ≡ n
      zero_more n = omega arith
  AreFrom-join first (x ∷ xs) more are behind = (
    are.0,
    AreFrom-join (first + 1) xs more are.1
        (subst (λ n. AreFrom at n more) (one_more first (length xs)) behind),
  )
    where
      one_more : (n m : ℕ) → n + suc m ≡ (n + 1) + m
      one_more n m = omega arith

  -- there is a row from each place on, where no entry has a place beyond an end
  pub row_from : (end : ℕ) → ((q : ℕ) → end ≤ q → at q ≡ None) → (n place : ℕ) → place + n ≡ end
      → (row : List Entry) × IsRow at place row
  row_from end none zero place is =
      ([], record { each = tt; end = none (place + 0) (omega (arith, is)) })
  row_from end none (suc n) place is =
      by_entry (at place) refl (row_from end none n (place + 1) (omega (arith, is)))
    where
      place_more : (m : ℕ) → (place + 1) + m ≡ place + suc m
      place_more m = omega arith

      by_entry : (o : Option Entry) → at place ≡ o
          → (row : List Entry) × IsRow at (place + 1) row → (row : List Entry) × IsRow at place row
      by_entry None there rest =
          ([], record { each = tt; end = subst (λ q. at q ≡ None) (zero_less place) there })
        where
          zero_less : (m : ℕ) → m ≡ m + 0
          zero_less m = omega arith
      by_entry (Some e) there (row, is_row) = (
        e ∷ row,
        record {
          each = (there, is_row.each);
          end = subst (λ q. at q ≡ None) (place_more (length row)) is_row.end;
        },
      )

pub AreFrom-more : (at at' : ℕ → Option Entry) → ((q : ℕ) (x : Entry) → at q ≡ Some x
    → at' q ≡ Some x) → (first : ℕ) (row : List Entry) → AreFrom at first row
    → AreFrom at' first row
AreFrom-more at at' more first [] are = tt
AreFrom-more at at' more first (x ∷ xs) are =
    (more first x are.0, AreFrom-more at at' more (first + 1) xs are.1)

-- of two rows from one place on each is the other
pub one_row : (at : ℕ → Option Entry) (first : ℕ) (row other : List Entry) → IsRow at first row
    → IsRow at first other → row ≡ other
one_row at first row other is are = rows first row other is.each is.end are.each are.end
  where
    none_some : (o : Option Entry) (e : Entry) → o ≡ None → o ≡ Some e → ⊥
    none_some None e a b = cc
    none_some (Some x) e a b = cc

    some_one : (o : Option Entry) (e f : Entry) → o ≡ Some e → o ≡ Some f → e ≡ f
    some_one None e f a b = cc
    some_one (Some x) e f a b = cc

    zero_more : (n : ℕ) → n + 0 ≡ n
    zero_more n = omega arith

    one_more : (n m : ℕ) → n + suc m ≡ (n + 1) + m
    one_more n m = omega arith

    rows : (first : ℕ) (row other : List Entry) → AreFrom at first row
        → at (first + length row) ≡ None → AreFrom at first other
        → at (first + length other) ≡ None → row ≡ other
    rows first [] [] a x b y = refl
    rows first [] (f ∷ fs) a x b y =
        absurd (none_some (at first) f (subst (λ n. at n ≡ None) (zero_more first) x) b.0)
    rows first (e ∷ es) [] a x b y =
        absurd (none_some (at first) e (subst (λ n. at n ≡ None) (zero_more first) y) a.0)
    rows first (e ∷ es) (f ∷ fs) a x b y =
        let same = some_one (at first) e f a.0 b.0 in
        let rest = rows (first + 1) es fs a.1
        (subst (λ n. at n ≡ None) (one_more first (length es)) x) b.1
        (subst (λ n. at n ≡ None) (one_more first (length fs)) y) in
        ap (λ g. g ∷ es) same ∙ ap (λ l. f ∷ l) rest

-- ---- the text of a row

fits_push : (list : List Entry) (e : Entry) → AllByRecursion (EntryFits newest) list → EntryFits newest e
    → AllByRecursion (EntryFits newest) (list ++ e ∷ [])
fits_push [] e h fits = (fits, tt)
fits_push (x ∷ xs) e h fits = (h.0, fits_push xs e h.1 fits)

part_first : (first place : ℕ) (e : Entry) → place ≡ first
    → part_text first place e ≡ head_line newest first ++ entry_line newest e
part_first first place e is = by_test (place == first) (grind (arith, nat_tests))
  where
    by_test : (b : Bool) → b ≡ true
        → (if b then head_line newest first ++ entry_line newest e else entry_line newest e)
        ≡ head_line newest first ++ entry_line newest e
    by_test true h = refl
    by_test false h = cc

part_later : (first place : ℕ) (e : Entry) → first < place
    → part_text first place e ≡ entry_line newest e
part_later first place e is = by_test (place == first) (grind (arith, nat_tests))
  where
    by_test : (b : Bool) → b ≡ false
        → (if b then head_line newest first ++ entry_line newest e else entry_line newest e) ≡ entry_line newest e
    by_test true h = cc
    by_test false h = refl

-- a row's text goes on with its next entry
pub text_push : (first place : ℕ) (row : List Entry) (e : Entry) (text : List ℕ)
    → place ≡ first + length row → PlaceFits first → EntryFits newest e → IsRowText first row text
    → IsRowText first (row ++ e ∷ []) (text ++ part_text first place e)
text_push first place [] e text is fits entry none = record {
  place_fits = fits;
  entries_fit = (entry, tt);
  text = ap (λ t. t ++ part_text first place e) none
      ∙ part_first first place e (omega (arith, is))
      ∙ ap (λ t. head_line newest first ++ t) (sym (append-nil (entry_line newest e)));
}
text_push first place (x ∷ xs) e text is fits entry journal = record {
  place_fits = fits;
  entries_fit = fits_push (x ∷ xs) e journal.entries_fit entry;
  text = ap (λ t. t ++ part_text first place e) journal.text
      ∙ ap (λ t. journal_text newest first (x ∷ xs) ++ t)
      (part_later first place e (omega (arith, is)))
      ∙ flat_map_more (entry_line newest) (head_line newest first) (x ∷ xs) e;
}

-- and with more of them
pub text_join : (first : ℕ) (row more : List Entry) (text : List ℕ) → PlaceFits first
    → AllByRecursion (EntryFits newest) more → IsRowText first row text
    → (tail : List ℕ) × IsRowText first (row ++ more) (text ++ tail)
text_join first row [] text fits all is = (
  [],
  subst (λ r. IsRowText first r (text ++ [])) (sym (append-nil row))
      (subst (IsRowText first row) (sym (append-nil text)) is),
)
text_join first row (e ∷ more) text fits all is =
    let part = part_text first (first + length row) e in
    let one = text_push first (first + length row) row e text refl fits all.0 is in
    let (tail, joined) = text_join first (row ++ e ∷ []) more (text ++ part) fits all.1 one in (
      part ++ tail,
      subst (λ r. IsRowText first r (text ++ (part ++ tail))) (append_assoc row (e ∷ []) more)
          (subst (IsRowText first ((row ++ e ∷ []) ++ more)) (append_assoc text part tail) joined),
    )

-- entries that were handed in can be written
pub fits_from : (first : ℕ) (handed : List (ℕ × Entry)) → AreLawful first handed → (place : ℕ)
    (row : List Entry) → AreFrom (entry_for handed) place row → AllByRecursion (EntryFits newest) row
fits_from first handed lawful place [] are = tt
fits_from first handed lawful place (e ∷ es) are = (
  (subst (λ o. IfSome o (λ x. (first ≤ place) × (place < place_end) × EntryFits newest x)) are.0
      (lawful place)).2,
  fits_from first handed lawful (place + 1) es are.1,
)
