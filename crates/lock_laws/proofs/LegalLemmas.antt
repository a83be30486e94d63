-- A legal history is a run of each key's item, and grants each cookie once.
use Rattle.std.proofs.Common.{◌≡◌, ℕ, ◌<◌, max, Bool, true, false, cond, List, [], ◌∷◌, ◌++◌, Some, None, Option, refl, sym, ap, ◌∙◌, arith, subst, inl, inr, append_assoc}
use Rattle.std.specs.Prelude.{IfSome}
use Rattle.std.specs.List.{AllByRecursion}
use Rattle.session_machine.specs.declared.entry.Entry.{Entry}
use Rattle.session_machine.specs.declared.item.Item.{Item}
use Rattle.session_machine.specs.declared.item.Profile.{Profile}
use Rattle.session_machine.specs.declared.item.Hold.{Hold}
use Rattle.session_machine.specs.History.{Marked, has_risen, marked, is_deed_of, entries_of, after_entry, after_entries, DeedStands, IsFormed, Lead, LookStands, CountsRise, DrawsRise, IsHeldBelow, IsLegalIn, item_after_in, count_after}
use Rattle.session_machine.proofs.HistoryLemmas.{item_after-same, item_after-other}
use Rattle.lock_laws.specs.InForce.{Grant, granted, grant_under, grant_of, last_grant, IsGranted}
use Rattle.lock_laws.proofs.EntryLemmas.{OneEntry, one_entry}
use Rattle.lock_laws.proofs.WordsLemmas.{IsRun, last_of, last_grant-push}

-- ---- a run

marked-append : (count : ℕ) (es fs : List Entry)
    → marked count (es ++ fs) ≡ marked count es ++ marked (count_after count es) fs
marked-append count [] fs = refl
marked-append count (e ∷ es) fs = ap (λ ms. (has_risen count e.faults, e) ∷ ms)
    (marked-append e.faults es fs)

cond-append : (b : Bool) (m : Marked) (xs ys : List Marked)
    → cond b (m ∷ (xs ++ ys)) (xs ++ ys) ≡ cond b (m ∷ xs) xs ++ ys
cond-append true m xs ys = refl
cond-append false m xs ys = refl

entries_of-append : (key : List ℕ) (ms ns : List Marked)
    → entries_of key (ms ++ ns) ≡ entries_of key ms ++ entries_of key ns
entries_of-append key [] ns = refl
entries_of-append key (m ∷ ms) ns =
    ap (λ es. cond (is_deed_of key m.1.deed) (m ∷ es) es) (entries_of-append key ms ns)
    ∙ cond-append (is_deed_of key m.1.deed) m (entries_of key ms) (entries_of key ns)

Lead-behind : (profile : Profile) (old : Option Item) (ms ns : List Marked)
    → Lead profile old (ms ++ ns)
    → Lead profile (after_entries profile old ms) ns
Lead-behind profile old [] ns p = p
Lead-behind profile old (m ∷ ms) ns p = Lead-behind profile (after_entry profile old m) ms ns p.1

Lead-front : (profile : Profile) (old : Option Item) (ms ns : List Marked)
    → Lead profile old (ms ++ ns) → Lead profile old ms
Lead-front profile old [] ns p = tt
Lead-front profile old (m ∷ ms) ns p = (
  p.0,
  Lead-front profile (after_entry profile old m) ms ns
      p.1,
)

All-front : {X : Type 0} (P : X → Type 0) (xs ys : List X) → AllByRecursion P (xs ++ ys)
    → AllByRecursion P xs
All-front P [] ys all = tt
All-front P (x ∷ xs) ys all = (all.0, All-front P xs ys all.1)

CountsRise-front : (count : ℕ) (xs ys : List Entry) → CountsRise count (xs ++ ys)
    → CountsRise count xs
CountsRise-front count [] ys p = tt
CountsRise-front count (x ∷ xs) ys p = (p.0, CountsRise-front x.faults xs ys p.1)

DrawsRise-front : (above : ℕ) (xs ys : List Entry) → DrawsRise above (xs ++ ys) → DrawsRise above xs
DrawsRise-front above [] ys p = tt
DrawsRise-front above (x ∷ xs) ys p = (p.0, DrawsRise-front (max above x.drawn) xs ys p.1)

-- each front of a legal history is legal
pub IsLegal-front : (profile : Profile) (opening : List ℕ → Option Item) (count : ℕ) (xs ys : List
    Entry)
    → IsLegalIn profile opening count (xs ++ ys) → IsLegalIn profile opening count xs
IsLegal-front profile opening count xs ys legal = record {
  formed = All-front IsFormed xs ys legal.formed;
  counts = CountsRise-front count xs ys legal.counts;
  draws = DrawsRise-front 0 xs ys legal.draws;
  fresh_draws = All-front (λ e. 0 < e.drawn → (key : List ℕ) → IsHeldBelow e.drawn (opening key)) xs
      ys legal.fresh_draws;
  keys = λ key.
      Lead-front profile (opening key) (entries_of key (marked count xs))
      (entries_of key (marked (count_after count xs) ys))
      (subst (Lead profile (opening key)) (ap (entries_of key) (marked-append count xs ys)
      ∙ entries_of-append key (marked count xs) (marked (count_after count xs) ys))
      (legal.keys key));
  looks =
      All-front (λ (e : Marked). LookStands e.0 e.1.deed e.1.reply) (marked count xs)
      (marked (count_after count xs) ys)
      (subst (AllByRecursion (λ (e : Marked). LookStands e.0 e.1.deed e.1.reply))
      (marked-append count xs ys) legal.looks);
}

-- whether the count rose at the place
abbrev pub rose_at : ℕ → List Entry → Entry → Bool
rose_at count before e = has_risen (count_after count before) e.faults

-- each deed of a legal history may be done where it stands
pub deed-stands : (profile : Profile) (opening : List ℕ → Option Item) (count : ℕ) (list : List
    Entry) (key : List ℕ)
    (before behind : List Entry) (e : Entry) → IsLegalIn profile opening count list
    → list ≡ before ++ e ∷ behind → is_deed_of key e.deed ≡ true
    → DeedStands profile (item_after_in profile opening count before key) (rose_at count before e)
    e.deed e
deed-stands profile opening count list key before behind e legal place same =
    let m : Marked = (rose_at count before e, e) in
    let parts : entries_of key (marked count list) ≡ entries_of key (marked count before) ++ m
    ∷ entries_of key (marked e.faults behind) =
    ap (λ es. entries_of key (marked count es)) place
    ∙ ap (entries_of key) (marked-append count before (e ∷ behind))
    ∙ entries_of-append key (marked count before) (marked (count_after count before) (e ∷ behind))
    ∙ ap (λ b. entries_of key (marked count before)
    ++ cond b (m ∷ entries_of key (marked e.faults behind))
    (entries_of key (marked e.faults behind))) same in
    (Lead-behind profile (opening key) (entries_of key (marked count before))
    (m ∷ entries_of key (marked e.faults behind))
    (subst (Lead profile (opening key)) parts (legal.keys key))).0

-- the rows of a key in a legal history
pub run-of_legal : (profile : Profile) (opening : List ℕ → Option Item) (count : ℕ) (list : List
    Entry) (key : List ℕ)
    → IsLegalIn profile opening count list
    → IsRun (λ es. item_after_in profile opening count es key) opening key list
run-of_legal profile opening count list key legal = record {
  first = refl;
  same = λ before behind e place same.
      subst (OneEntry (item_after_in profile opening count before key) e)
      (sym (item_after-same profile opening count before e key same))
      (one_entry profile (item_after_in profile opening count before key) e key (rose_at count
      before e) e.deed same
      (deed-stands profile opening count list key before behind e legal place same));
  other = λ before behind e place other. item_after-other profile opening count before e key other;
}

-- ---- each cookie is granted once

-- behind drawn cookies stands a greater one
draw-above : (above : ℕ) (xs ys : List Entry) (e : Entry) → DrawsRise above (xs ++ e ∷ ys)
    → 0 < e.drawn → above < e.drawn
draw-above above [] ys e p draw = elim p.0 [ inl none ↦ absurd (omega arith) | inr more ↦ more ]
draw-above above (x ∷ xs) ys e p draw = let more : max above x.drawn < e.drawn =
    draw-above (max above x.drawn) xs ys e p.1 draw in omega arith

-- one cookie is drawn at one place
one-draw : (above : ℕ) (xs us ys vs : List Entry) (e f : Entry) → DrawsRise above (xs ++ e ∷ ys)
    → xs ++ e ∷ ys ≡ us ++ f ∷ vs → 0 < e.drawn → e.drawn ≡ f.drawn → (xs ≡ us) × (e ≡ f)
one-draw above [] [] ys vs e f p is draw one = (refl, cc)
one-draw above [] (u ∷ us) ys vs e f p is draw one =
    let rest : ys ≡ us ++ f ∷ vs = cc in
    let more : max above e.drawn < f.drawn = draw-above (max above e.drawn) us vs f
    (subst (DrawsRise (max above e.drawn)) rest p.1) (omega arith) in absurd (omega arith)
one-draw above (x ∷ xs) [] ys vs e f p is draw one =
    let same : x ≡ f = cc in
    let same_draw : x.drawn ≡ f.drawn = ap (λ (g : Entry). g.drawn) same in
    let more : max above x.drawn < e.drawn = draw-above (max above x.drawn) xs ys e p.1 draw in
    absurd (omega arith)
one-draw above (x ∷ xs) (u ∷ us) ys vs e f p is draw one =
    let rest : xs ++ e ∷ ys ≡ us ++ f ∷ vs = cc in
    let same : x ≡ u = cc in
    let further = one-draw (max above x.drawn) xs us ys vs e f p.1 rest draw one in
    (cc (further.0, same), further.1)

pub All-at : {X : Type 0} (P : X → Type 0) (xs ys : List X) (x : X)
    → AllByRecursion P (xs ++ x ∷ ys) → P x
All-at P [] ys x all = all.0
All-at P (y ∷ xs) ys x all = All-at P xs ys x all.1

-- an item that stands for a grant is held under its cookie
held-cookie : (above : ℕ) (old : Option Item) (grant : Grant) → grant_of old ≡ Some grant
    → IsHeldBelow above old → grant.cookie < above
held-cookie above None grant is below = absurd (cc is)
held-cookie above (Some item) grant is below = under item.holder is below
  where
    under : (holder : Option Hold) → grant_under holder item ≡ Some grant
        → IfSome holder (λ h. h.cookie < above) → grant.cookie < above
    under None g b = absurd (cc g)
    under (Some hold) g b = let same : hold.cookie ≡ grant.cookie = grind arith in omega arith

-- how a grant came about
data Source (opening : List ℕ → Option Item) (key : List ℕ) (list until : List Entry)
    (grant : Grant) : Type 0 where
  at_first : until ≡ [] → grant_of (opening key) ≡ Some grant → Source opening key list until grant
  at_entry : (xs ys : List Entry) (e : Entry) → until ≡ xs ++ e ∷ [] → list ≡ xs ++ e ∷ ys
      → granted e.reply ≡ Some grant → e.drawn ≡ grant.cookie → 0 < e.drawn
      → Source opening key list until grant

source : (profile : Profile) (opening : List ℕ → Option Item) (count : ℕ) (list : List Entry) (key :
    List ℕ)
    (until behind : List Entry) (grant : Grant) → IsLegalIn profile opening count list
    → list ≡ until ++ behind → last_grant opening key until ≡ Some grant
    → Source opening key list until grant
source profile opening count list key until behind grant legal place is = elim (last_of until) [
  | inl none ↦ at_first none (sym (ap (last_grant opening key) none) ∙ is)
  | inr more ↦ by_entry more.0 more.1 more.2
]
  where
    by_entry : (xs : List Entry) (e : Entry) → until ≡ xs ++ e ∷ []
        → Source opening key list until grant
    by_entry xs e so = by_key (is_deed_of key e.deed) refl
      where
        ended : cond (is_deed_of key e.deed) (granted e.reply) None ≡ Some grant
        ended = sym (last_grant-push opening key xs e) ∙ sym (ap (last_grant opening key) so) ∙ is

        at : list ≡ xs ++ e ∷ behind
        at = place ∙ ap (λ es. es ++ behind) so ∙ append_assoc xs (e ∷ []) behind

        by_key : (b : Bool) → is_deed_of key e.deed ≡ b → Source opening key list until grant
        by_key true same =
            let given : granted e.reply ≡ Some grant =
            sym (ap (λ b. cond b (granted e.reply) None) same) ∙ ended in
            let gives = ((run-of_legal profile opening count list key legal).same xs behind e at
            same).gives
            grant given in
            at_entry xs behind e so at given gives.1 gives.2
        by_key false other =
            let nothing : None ≡ Some grant = sym (ap (λ b. cond b (granted e.reply) None) other)
            ∙ ended in absurd (cc nothing)

-- no item is held at the beginning under a cookie that is drawn
drawn-fresh : (profile : Profile) (opening : List ℕ → Option Item) (count : ℕ) (list : List Entry)
    (key : List ℕ)
    (xs ys : List Entry) (e : Entry) (grant : Grant) → IsLegalIn profile opening count list
    → list ≡ xs ++ e ∷ ys → 0 < e.drawn → grant_of (opening key) ≡ Some grant
    → grant.cookie < e.drawn
drawn-fresh profile opening count list key xs ys e grant legal place some is =
    held-cookie e.drawn (opening key) grant is
    (All-at (λ f. 0 < f.drawn → (k : List ℕ) → IsHeldBelow f.drawn (opening k)) xs ys e
    (subst (AllByRecursion (λ f. 0 < f.drawn → (k : List ℕ) → IsHeldBelow f.drawn (opening k)))
    place legal.fresh_draws) some key)

-- two grants of one cookie are one
one-source : (profile : Profile) (opening : List ℕ → Option Item) (count : ℕ) (list : List Entry)
    (key : List ℕ)
    (until other : List Entry) (grant granted_too : Grant) → IsLegalIn profile opening count list
    → grant.cookie ≡ granted_too.cookie → Source opening key list until grant
    → Source opening key list other granted_too → (until ≡ other) × (grant ≡ granted_too)
one-source profile opening count list key until other grant too legal same (at_first none is)
    (at_first nothing be) = (none ∙ sym nothing, cc)
one-source profile opening count list key until other grant too legal same (at_first none is)
    (at_entry xs ys e so place given drawn some) =
    absurd (let below : grant.cookie < e.drawn =
    drawn-fresh profile opening count list key xs ys e grant legal place some is in omega arith)
one-source profile opening count list key until other grant too legal same
    (at_entry xs ys e so place given drawn some) (at_first none is) =
    absurd (let below : too.cookie < e.drawn =
    drawn-fresh profile opening count list key xs ys e too legal place some is in omega arith)
one-source profile opening count list key until other grant too legal same
    (at_entry xs ys e so place given drawn some) (at_entry us vs f be there gave drew more) =
    let one : (xs ≡ us) × (e ≡ f) = one-draw 0 xs us ys vs e f
    (subst (DrawsRise 0) place legal.draws) (sym place ∙ there) some
    (drawn ∙ same ∙ sym drew) in
    let xs_same : xs ≡ us = one.0 in
    let e_same : e ≡ f = one.1 in
    let replies : granted e.reply ≡ granted f.reply = ap (λ (g : Entry). granted g.reply) e_same
    in (
      so ∙ ap (λ zs. zs ++ e ∷ []) xs_same ∙ ap (λ g. us ++ g ∷ []) e_same
          ∙ sym be,
      cc (given, gave, replies),
    )

pub one-grant : (profile : Profile) (opening : List ℕ → Option Item) (count : ℕ) (list : List Entry)
    (key : List ℕ)
    (before behind until since other later : List Entry) (grant too : Grant)
    → IsLegalIn profile opening count list → list ≡ before ++ behind → grant.cookie ≡ too.cookie
    → IsGranted opening key grant before until since
    → IsGranted opening key too before other later
    → (until ≡ other) × (grant ≡ too)
one-grant profile opening count list key before behind until since other later grant too legal place
    same
    one two =
    one-source profile opening count list key until other grant too legal same
    (source profile opening count list key until (since ++ behind) grant legal (at until since
    one.parts)
    one.granted)
    (source profile opening count list key other (later ++ behind) too legal (at other later
    two.parts)
    two.granted)
  where
    at : (xs ys : List Entry) → before ≡ xs ++ ys → list ≡ xs ++ (ys ++ behind)
    at xs ys parts = place ∙ ap (λ es. es ++ behind) parts ∙ append_assoc xs ys behind
