-- A history goes on by one entry.
use Rattle.std.proofs.Common.{zero, suc, inl, inr, arith, ◌≡◌, ℕ, ◌≤◌, ◌<◌, max, Bool, true, false, cond, List, [], ◌∷◌, ◌++◌, Option, refl, sym, ap, ◌∙◌, subst, append-nil}
use Rattle.std.specs.Prelude.{◌⊎◌}
use Rattle.std.specs.List.{AllByRecursion}
use Rattle.session_machine.specs.declared.entry.Entry.{Entry}
use Rattle.session_machine.specs.declared.item.Item.{Item}
use Rattle.session_machine.specs.declared.item.Profile.{Profile}
use Rattle.session_machine.specs.History.{Marked, has_risen, marked, is_deed_of, entries_of, after_entry, after_entries, DeedStands, Lead, CountsRise, DrawsRise, greatest_draw, IsHeldBelow, LookStands, IsFormed, IsLegalIn, IsFreshDraw, item_after_in, count_after}

pub All-push : {X : Type 0} (P : X → Type 0) (xs : List X) (x : X) → AllByRecursion P xs → P x
    → AllByRecursion P (xs ++ x ∷ [])
All-push P [] x all p = (p, tt)
All-push P (y ∷ ys) x all p = (all.0, All-push P ys x all.1 p)

marked-push : (count : ℕ) (es : List Entry) (e : Entry)
    → marked count (es ++ e ∷ []) ≡ marked count es
    ++ (has_risen (count_after count es) e.faults, e) ∷ []
marked-push count [] e = refl
marked-push count (f ∷ fs) e = ap (λ ms. (has_risen count f.faults, f) ∷ ms)
    (marked-push f.faults fs e)

cond-append : (b : Bool) (m : Marked) (xs ys : List Marked)
    → cond b (m ∷ (xs ++ ys)) (xs ++ ys) ≡ cond b (m ∷ xs) xs ++ ys
cond-append true m xs ys = refl
cond-append false m xs ys = refl

entries_of-append : (key : List ℕ) (ms ns : List Marked)
    → entries_of key (ms ++ ns) ≡ entries_of key ms ++ entries_of key ns
entries_of-append key [] ns = refl
entries_of-append key (m ∷ ms) ns =
    ap (λ es. cond (is_deed_of key m.1.deed) (m ∷ es) es) (entries_of-append key ms ns)
    ∙ cond-append (is_deed_of key m.1.deed) m (entries_of key ms) (entries_of key ns)

after_entries-append : (profile : Profile) (old : Option Item) (ms ns : List Marked)
    → after_entries profile old (ms ++ ns) ≡ after_entries profile (after_entries profile old ms) ns
after_entries-append profile old [] ns = refl
after_entries-append profile old (m ∷ ms) ns = after_entries-append profile (after_entry profile old
    m) ms ns

Lead-append : (profile : Profile) (old : Option Item) (ms ns : List Marked) → Lead profile old ms
    → Lead profile (after_entries profile old ms) ns → Lead profile old (ms ++ ns)
Lead-append profile old [] ns p q = q
Lead-append profile old (m ∷ ms) ns p q = (
  p.0,
  Lead-append profile (after_entry profile old m) ms
      ns p.1 q,
)

-- the entries of a key with one entry more
entries_of-push : (key : List ℕ) (count : ℕ) (es : List Entry) (e : Entry)
    → entries_of key (marked count (es ++ e ∷ [])) ≡ entries_of key (marked count es)
    ++ entries_of key ((has_risen (count_after count es) e.faults, e) ∷ [])
entries_of-push key count es e = ap (entries_of key) (marked-push count es e)
    ∙ entries_of-append key (marked count es) _

-- a key of which the entry is not stays as it is
pub item_after-other : (profile : Profile) (opening : List ℕ → Option Item) (count : ℕ) (es : List
    Entry) (e : Entry)
    (key : List ℕ) → is_deed_of key e.deed ≡ false
    → item_after_in profile opening count (es ++ e ∷ []) key ≡ item_after_in profile opening count
    es key
item_after-other profile opening count es e key other =
    ap (after_entries profile (opening key)) (entries_of-push key count es e
    ∙ ap (λ b. entries_of key (marked count es)
    ++ cond b ((has_risen (count_after count es) e.faults, e) ∷ []) []) other ∙ append-nil _)

-- a key of which it is goes on to its state after it
pub item_after-same : (profile : Profile) (opening : List ℕ → Option Item) (count : ℕ) (es : List
    Entry) (e : Entry)
    (key : List ℕ) → is_deed_of key e.deed ≡ true
    → item_after_in profile opening count (es ++ e ∷ []) key
    ≡ after_entry profile (item_after_in profile opening count es key)
    (has_risen (count_after count es) e.faults, e)
item_after-same profile opening count es e key same =
    ap (after_entries profile (opening key)) (entries_of-push key count es e
    ∙ ap (λ b. entries_of key (marked count es)
    ++ cond b ((has_risen (count_after count es) e.faults, e) ∷ []) []) same)
    ∙ after_entries-append profile (opening key) (entries_of key (marked count es)) _

CountsRise-push : (count : ℕ) (es : List Entry) (e : Entry) → CountsRise count es
    → count_after count es ≤ e.faults → CountsRise count (es ++ e ∷ [])
CountsRise-push count [] e p le = (le, tt)
CountsRise-push count (f ∷ fs) e p le = (p.0, CountsRise-push f.faults fs e p.1 le)

-- the count after one entry more is that entry's
pub count_after-push : (count : ℕ) (es : List Entry) (e : Entry)
    → count_after count (es ++ e ∷ []) ≡ e.faults
count_after-push count [] e = refl
count_after-push count (f ∷ fs) e = count_after-push f.faults fs e

-- so is the greatest cookie that of the draws with its own
pub greatest_draw-push : (above : ℕ) (es : List Entry) (e : Entry)
    → greatest_draw above (es ++ e ∷ []) ≡ max (greatest_draw above es) e.drawn
greatest_draw-push above [] e = refl
greatest_draw-push above (f ∷ fs) e = greatest_draw-push (max above f.drawn) fs e

DrawsRise-push : (above : ℕ) (es : List Entry) (e : Entry) → DrawsRise above es
    → (e.drawn ≡ 0) ⊎ (greatest_draw above es < e.drawn) → DrawsRise above (es ++ e ∷ [])
DrawsRise-push above [] e p draw = (draw, tt)
DrawsRise-push above (f ∷ fs) e p draw = (p.0, DrawsRise-push (max above f.drawn) fs e p.1 draw)

-- a fresh draw is greater than each before it
greatest_draw-lt : (above : ℕ) (es : List Entry) (drawn : ℕ) → above < drawn
    → AllByRecursion (λ e. e.drawn < drawn) es → greatest_draw above es < drawn
greatest_draw-lt above [] drawn low all = low
greatest_draw-lt above (e ∷ es) drawn low all =
    greatest_draw-lt (max above e.drawn) es drawn (omega (arith, low, all.0)) all.1

pub fresh-draws_rise : (opening : List ℕ → Option Item) (es : List Entry) (drawn : ℕ)
    → IsFreshDraw opening es drawn → (drawn ≡ 0) ⊎ (greatest_draw 0 es < drawn)
fresh-draws_rise opening es zero fresh = inl refl
fresh-draws_rise opening es (suc n) (inl none) = inl none
fresh-draws_rise opening es (suc n) (inr fresh) =
    inr (greatest_draw-lt 0 es (suc n) (omega arith) fresh.0)

pub fresh-held_below : (opening : List ℕ → Option Item) (es : List Entry) (drawn : ℕ)
    → IsFreshDraw opening es drawn → 0 < drawn → (key : List ℕ) → IsHeldBelow drawn (opening key)
fresh-held_below opening es drawn (inl none) some = absurd (omega (arith, none, some))
fresh-held_below opening es drawn (inr fresh) some = fresh.1

-- the entry may stand behind the history
pub record MayFollow (profile : Profile) (opening : List ℕ → Option Item) (count : ℕ) (list : List
    Entry) (e : Entry) :
    Type 0 where
  pub formed : IsFormed e
  pub counts : count_after count list ≤ e.faults
  pub draws : (e.drawn ≡ 0) ⊎ (greatest_draw 0 list < e.drawn)
  pub fresh_draws : 0 < e.drawn → (key : List ℕ) → IsHeldBelow e.drawn (opening key)
  pub keys : (key : List ℕ) → is_deed_of key e.deed ≡ true
      → DeedStands profile (item_after_in profile opening count list key) (has_risen (count_after
      count list) e.faults)
      e.deed e
  pub looks : LookStands (has_risen (count_after count list) e.faults) e.deed e.reply

last_lead : (profile : Profile) (b : Bool) (old : Option Item) (m : Marked)
    → (b ≡ true → DeedStands profile old m.0 m.1.deed m.1) → Lead profile old (cond b (m ∷ []) [])
last_lead profile true old m h = (h refl, tt)
last_lead profile false old m h = tt

pub IsLegal-push : (profile : Profile) (opening : List ℕ → Option Item) (count : ℕ) (list : List
    Entry) (e : Entry)
    → IsLegalIn profile opening count list → MayFollow profile opening count list e
    → IsLegalIn profile opening count (list ++ e ∷ [])
IsLegal-push profile opening count list e legal may = record {
  formed = All-push IsFormed list e legal.formed may.formed;
  counts = CountsRise-push count list e legal.counts may.counts;
  draws = DrawsRise-push 0 list e legal.draws may.draws;
  fresh_draws = All-push (λ f. 0 < f.drawn → (key : List ℕ) → IsHeldBelow f.drawn (opening key))
      list e legal.fresh_draws may.fresh_draws;
  keys = λ key.
      subst (Lead profile (opening key)) (sym (entries_of-push key count list e))
      (Lead-append profile (opening key) (entries_of key (marked count list)) _ (legal.keys key)
      (last_lead profile (is_deed_of key e.deed) (item_after_in profile opening count list key)
      (has_risen (count_after count list) e.faults, e) (may.keys key)));
  looks =
      subst (AllByRecursion (λ m. LookStands m.0 m.1.deed m.1.reply))
      (sym (marked-push count list e))
      (All-push (λ m. LookStands m.0 m.1.deed m.1.reply) (marked count list)
      (has_risen (count_after count list) e.faults, e) legal.looks may.looks);
}

-- ---- a history's parts

All-front : {X : Type 0} (P : X → Type 0) (xs ys : List X) → AllByRecursion P (xs ++ ys)
    → AllByRecursion P xs
All-front P [] ys all = tt
All-front P (x ∷ xs) ys all = (all.0, All-front P xs ys all.1)

All-behind : {X : Type 0} (P : X → Type 0) (xs ys : List X) → AllByRecursion P (xs ++ ys)
    → AllByRecursion P ys
All-behind P [] ys all = all
All-behind P (x ∷ xs) ys all = All-behind P xs ys all.1

marked-append : (count : ℕ) (es fs : List Entry)
    → marked count (es ++ fs) ≡ marked count es ++ marked (count_after count es) fs
marked-append count [] fs = refl
marked-append count (e ∷ es) fs = ap (λ ms. (has_risen count e.faults, e) ∷ ms)
    (marked-append e.faults es fs)

-- the entries of a key in two parts
entries_of-parts : (key : List ℕ) (count : ℕ) (es fs : List Entry)
    → entries_of key (marked count (es ++ fs)) ≡ entries_of key (marked count es)
    ++ entries_of key (marked (count_after count es) fs)
entries_of-parts key count es fs = ap (entries_of key) (marked-append count es fs)
    ∙ entries_of-append key (marked count es) _

CountsRise-front : (count : ℕ) (es fs : List Entry) → CountsRise count (es ++ fs)
    → CountsRise count es
CountsRise-front count [] fs p = tt
CountsRise-front count (e ∷ es) fs p = (p.0, CountsRise-front e.faults es fs p.1)

CountsRise-behind : (count : ℕ) (es fs : List Entry) → CountsRise count (es ++ fs)
    → CountsRise (count_after count es) fs
CountsRise-behind count [] fs p = p
CountsRise-behind count (e ∷ es) fs p = CountsRise-behind e.faults es fs p.1

DrawsRise-front : (above : ℕ) (es fs : List Entry) → DrawsRise above (es ++ fs) → DrawsRise above es
DrawsRise-front above [] fs p = tt
DrawsRise-front above (e ∷ es) fs p = (p.0, DrawsRise-front (max above e.drawn) es fs p.1)

DrawsRise-behind : (above : ℕ) (es fs : List Entry) → DrawsRise above (es ++ fs)
    → DrawsRise (greatest_draw above es) fs
DrawsRise-behind above [] fs p = p
DrawsRise-behind above (e ∷ es) fs p = DrawsRise-behind (max above e.drawn) es fs p.1

Lead-front : (profile : Profile) (old : Option Item) (ms ns : List Marked)
    → Lead profile old (ms ++ ns) → Lead profile old ms
Lead-front profile old [] ns p = tt
Lead-front profile old (m ∷ ms) ns p = (
  p.0,
  Lead-front profile (after_entry profile old m) ms ns
      p.1,
)

Lead-behind : (profile : Profile) (old : Option Item) (ms ns : List Marked)
    → Lead profile old (ms ++ ns)
    → Lead profile (after_entries profile old ms) ns
Lead-behind profile old [] ns p = p
Lead-behind profile old (m ∷ ms) ns p = Lead-behind profile (after_entry profile old m) ms ns p.1

-- each front of a legal history is legal
pub IsLegal-front : (profile : Profile) (opening : List ℕ → Option Item) (count : ℕ) (es fs : List
    Entry)
    → IsLegalIn profile opening count (es ++ fs) → IsLegalIn profile opening count es
IsLegal-front profile opening count es fs legal = record {
  formed = All-front IsFormed es fs legal.formed;
  counts = CountsRise-front count es fs legal.counts;
  draws = DrawsRise-front 0 es fs legal.draws;
  fresh_draws = All-front (λ f. 0 < f.drawn → (key : List ℕ) → IsHeldBelow f.drawn (opening key)) es
      fs legal.fresh_draws;
  keys = λ key. Lead-front profile (opening key) (entries_of key (marked count es)) _
      (subst (Lead profile (opening key)) (entries_of-parts key count es fs) (legal.keys key));
  looks = All-front (λ m. LookStands m.0 m.1.deed m.1.reply) (marked count es) _
      (subst (AllByRecursion (λ m. LookStands m.0 m.1.deed m.1.reply)) (marked-append count es fs)
      legal.looks);
}

first_leads : (profile : Profile) (b : Bool) (old : Option Item) (m : Marked) (ms : List Marked)
    → b ≡ true
    → Lead profile old (cond b (m ∷ ms) ms) → DeedStands profile old m.0 m.1.deed m.1
first_leads profile true old m ms is lead = lead.0
first_leads profile false old m ms is lead = absurd (cc is)

-- each entry of a legal history may stand where it stands
pub IsLegal-at : (profile : Profile) (opening : List ℕ → Option Item) (count : ℕ) (es fs : List
    Entry) (e : Entry)
    → IsLegalIn profile opening count (es ++ e ∷ fs) → MayFollow profile opening count es e
IsLegal-at profile opening count es fs e legal = record {
  formed = (All-behind IsFormed es (e ∷ fs) legal.formed).0;
  counts = (CountsRise-behind count es (e ∷ fs) legal.counts).0;
  draws = (DrawsRise-behind 0 es (e ∷ fs) legal.draws).0;
  fresh_draws = (All-behind (λ f. 0 < f.drawn → (key : List ℕ) → IsHeldBelow f.drawn (opening key))
      es (e ∷ fs) legal.fresh_draws).0;
  keys = λ key same.
      first_leads profile (is_deed_of key e.deed) (item_after_in profile opening count es key)
      (has_risen (count_after count es) e.faults, e) _ same
      (Lead-behind profile (opening key) (entries_of key (marked count es)) _
      (subst (Lead profile (opening key)) (entries_of-parts key count es (e ∷ fs)) (legal.keys
      key)));
  looks = (All-behind (λ m. LookStands m.0 m.1.deed m.1.reply) (marked count es) _
      (subst (AllByRecursion (λ m. LookStands m.0 m.1.deed m.1.reply))
      (marked-append count es (e ∷ fs)) legal.looks)).0;
}
