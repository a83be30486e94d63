-- The words of a history and the rows of its key say the same of the lock: which grant is in force,
-- and how long it lasts.
use Rattle.std.proofs.Common.{◌≡◌, ℕ, Bool, true, false, cond, List, [], ◌∷◌, ◌++◌, Some, None, Option, refl, sym, ap, ◌∙◌, subst, inl, inr, append_assoc, append-nil}
use Rattle.std.specs.Prelude.{◌⊎◌}
use Rattle.std.proofs.lemmas.List.Elements.{filter-append}
use Rattle.session_machine.specs.declared.entry.Entry.{Entry}
use Rattle.session_machine.specs.declared.item.Item.{Item}
use Rattle.session_machine.specs.History.{is_deed_of}
use Rattle.lock_laws.specs.InForce.{Grant, granted, grant_of, last_grant, IsGranted, on_key, Life, life_of, life_by, last_life, runs_out, ends, Lasts}
use Rattle.lock_laws.proofs.EntryLemmas.{OneEntry}

-- The rows of a key along a list: row has its item after each first part of the list.
pub record IsRun (row : List Entry → Option Item) (opening : List ℕ → Option Item) (key : List ℕ)
    (list : List Entry) : Type 0 where
  pub first : row [] ≡ opening key
  pub same : (before behind : List Entry) (e : Entry) → list ≡ before ++ e ∷ behind
      → is_deed_of key e.deed ≡ true → OneEntry (row before) e (row (before ++ e ∷ []))
  pub other : (before behind : List Entry) (e : Entry) → list ≡ before ++ e ∷ behind
      → is_deed_of key e.deed ≡ false → row (before ++ e ∷ []) ≡ row before

-- ---- lists

-- a list is empty, or has a last element
pub last_of : (es : List Entry) → (es ≡ []) ⊎ ((xs : List Entry) × (e : Entry)
    × (es ≡ xs ++ e ∷ []))
last_of [] = inl refl
last_of (e ∷ es) = elim (last_of es) [
  | inl none ↦ inr ([], e, ap (λ ys. e ∷ ys) none)
  | inr more ↦ inr (e ∷ more.0, more.1, ap (λ ys. e ∷ ys) more.2)
]

-- the place behind one more entry
pub on : (list before behind : List Entry) (e : Entry) → list ≡ before ++ e ∷ behind
    → list ≡ (before ++ e ∷ []) ++ behind
on list before behind e place = place ∙ sym (append_assoc before (e ∷ []) behind)

pub last_grant-push : (opening : List ℕ → Option Item) (key : List ℕ) (es : List Entry) (e : Entry)
    → last_grant opening key (es ++ e ∷ []) ≡ cond (is_deed_of key e.deed) (granted e.reply) None
last_grant-push opening key [] e = refl
last_grant-push opening key (f ∷ []) e = refl
last_grant-push opening key (f ∷ g ∷ fs) e = last_grant-push opening key (g ∷ fs) e

pub on_key-same : (key : List ℕ) (e : Entry) (es : List Entry) → is_deed_of key e.deed ≡ true
    → on_key key (e ∷ es) ≡ e ∷ on_key key es
on_key-same key e es same = ap (λ b. cond b (e ∷ on_key key es) (on_key key es)) same

pub on_key-other : (key : List ℕ) (e : Entry) (es : List Entry) → is_deed_of key e.deed ≡ false
    → on_key key (e ∷ es) ≡ on_key key es
on_key-other key e es other = ap (λ b. cond b (e ∷ on_key key es) (on_key key es)) other

last_life-append : (life : Life) (xs ys : List Entry)
    → last_life life (xs ++ ys) ≡ last_life (last_life life xs) ys
last_life-append life [] ys = refl
last_life-append life (x ∷ xs) ys = last_life-append (life_by life x) xs ys

Lasts-append : (grant : Grant) (life : Life) (xs ys : List Entry) → Lasts grant life xs
    → Lasts grant (last_life life xs) ys → Lasts grant life (xs ++ ys)
Lasts-append grant life [] ys p q = q
Lasts-append grant life (x ∷ xs) ys p q = (
  p.0,
  Lasts-append grant (life_by life x) xs ys
      p.1 q,
)

pub Lasts-split : (grant : Grant) (life : Life) (xs ys : List Entry)
    → Lasts grant life (xs ++ ys) → Lasts grant life xs
    × Lasts grant (last_life life xs) ys
Lasts-split grant life [] ys p = (tt, p)
Lasts-split grant life (x ∷ xs) ys p = let q = Lasts-split grant (life_by life x) xs ys p.1
    in ((p.0, q.0), q.1)

-- ---- from the words to the row

-- what was granted stands in the row
pub granted-locked : (row : List Entry → Option Item) (opening : List ℕ → Option Item)
    (key : List ℕ) (list until behind : List Entry) (grant : Grant) → IsRun row opening key list
    → list ≡ until ++ behind → last_grant opening key until ≡ Some grant
    → grant_of (row until) ≡ Some grant
granted-locked row opening key list until behind grant run place is = elim (last_of until) [
  | inl none ↦ at_first none
  | inr more ↦ at_last more.0 more.1 more.2
]
  where
    at_first : until ≡ [] → grant_of (row until) ≡ Some grant
    at_first none = ap (λ es. grant_of (row es)) none ∙ ap grant_of run.first
        ∙ sym (ap (last_grant opening key) none) ∙ is

    at_last : (xs : List Entry) (e : Entry) → until ≡ xs ++ e ∷ []
        → grant_of (row until) ≡ Some grant
    at_last xs e so = by_key (is_deed_of key e.deed) refl
      where
        ended : cond (is_deed_of key e.deed) (granted e.reply) None ≡ Some grant
        ended = sym (last_grant-push opening key xs e) ∙ sym (ap (last_grant opening key) so) ∙ is

        at : list ≡ xs ++ e ∷ behind
        at = place ∙ ap (λ es. es ++ behind) so ∙ append_assoc xs (e ∷ []) behind

        by_key : (b : Bool) → is_deed_of key e.deed ≡ b → grant_of (row until) ≡ Some grant
        by_key true same =
            let given : granted e.reply ≡ Some grant =
            sym (ap (λ b. cond b (granted e.reply) None) same) ∙ ended in
            ap (λ es. grant_of (row es)) so ∙ ((run.same xs behind e at same).gives grant given).0
        by_key false other =
            let nothing : None ≡ Some grant = sym (ap (λ b. cond b (granted e.reply) None) other)
            ∙ ended in absurd (cc nothing)

-- the row has the lock of the grant, and lives so long
abbrev pub Stands : Option Item → Grant → Life → Type 0
Stands old grant life = (grant_of old ≡ Some grant) × (life_of old ≡ life)

-- a grant that lasts stands in the row, as long as the words say
pub lasts-stands : (row : List Entry → Option Item) (opening : List ℕ → Option Item) (key : List ℕ)
    (list since until behind : List Entry) (grant : Grant) → IsRun row opening key list
    → list ≡ until ++ (since ++ behind) → grant_of (row until) ≡ Some grant
    → Lasts grant (life_of (row until)) (on_key key since)
    → Stands (row (until ++ since)) grant (last_life (life_of (row until)) (on_key key since))
lasts-stands row opening key list [] until behind grant run place there lasts =
    subst (λ es. Stands (row es) grant (life_of (row until))) (sym (append-nil until))
    (there, refl)
lasts-stands row opening key list (e ∷ es) until behind grant run place there lasts = by_key
    (lasts-stands row opening key list es (until ++ e ∷ []) behind grant run
    (on list until (es ++ behind) e place)) (is_deed_of key e.deed) refl
  where
    -- the entry has been passed
    passed : Stands (row ((until ++ e ∷ []) ++ es)) grant
        (last_life (life_of (row (until ++ e ∷ []))) (on_key key es))
        → Stands (row (until ++ e ∷ es)) grant
        (last_life (life_of (row (until ++ e ∷ []))) (on_key key es))
    passed = subst (λ fs. Stands (row fs) grant
        (last_life (life_of (row (until ++ e ∷ []))) (on_key key es)))
        (append_assoc until (e ∷ []) es)

    by_key : (grant_of (row (until ++ e ∷ [])) ≡ Some grant
        → Lasts grant (life_of (row (until ++ e ∷ []))) (on_key key es)
        → Stands (row ((until ++ e ∷ []) ++ es)) grant
        (last_life (life_of (row (until ++ e ∷ []))) (on_key key es)))
        → (b : Bool) → is_deed_of key e.deed ≡ b
        → Stands (row (until ++ e ∷ es)) grant
        (last_life (life_of (row until)) (on_key key (e ∷ es)))
    by_key next true same =
        let all : Lasts grant (life_of (row until)) (e ∷ on_key key es) =
        subst (Lasts grant (life_of (row until))) (on_key-same key e es same) lasts in
        let kept : Stands (row (until ++ e ∷ [])) grant (life_by (life_of (row until)) e) =
        (run.same until (es ++ behind) e place same).keeps grant there all.0 in
        let here = passed (next kept.0 (subst (λ t. Lasts grant t (on_key key es)) (sym kept.1)
        all.1)) in (
          here.0,
          here.1 ∙ ap (λ t. last_life t (on_key key es)) kept.1
              ∙ sym (ap (last_life (life_of (row until))) (on_key-same key e es same)),
        )
    by_key next false other =
        let stays : row (until ++ e ∷ []) ≡ row until =
        run.other until (es ++ behind) e place other in
        let rest : Lasts grant (life_of (row until)) (on_key key es) =
        subst (Lasts grant (life_of (row until))) (on_key-other key e es other) lasts in
        let here = passed (next (ap grant_of stays ∙ there)
        (subst (λ o. Lasts grant (life_of o) (on_key key es)) (sym stays) rest)) in (
          here.0,
          here.1 ∙ ap (λ o. last_life (life_of o) (on_key key es)) stays
              ∙ sym (ap (last_life (life_of (row until))) (on_key-other key e es other)),
        )

-- ---- from the row to the words

-- the words behind a lock that stands in the row
pub record IsHeld (row : List Entry → Option Item) (opening : List ℕ → Option Item) (key : List ℕ)
    (before : List Entry) (grant : Grant) : Type 0 where
  pub until : List Entry
  pub since : List Entry
  pub place : IsGranted opening key grant before until since
  pub lasts : Lasts grant (life_of (row until)) (on_key key since)
  pub last : life_of (row before) ≡ last_life (life_of (row until)) (on_key key since)

-- each lock in the row has such words
abbrev pub EachIsHeld : (List Entry → Option Item) → (List ℕ → Option Item) → List ℕ → List Entry
    → Type 0
EachIsHeld row opening key before = (grant : Grant) → grant_of (row before) ≡ Some grant
    → IsHeld row opening key before grant

held-first : (row : List Entry → Option Item) (opening : List ℕ → Option Item) (key : List ℕ)
    (list : List Entry) → IsRun row opening key list → EachIsHeld row opening key []
held-first row opening key list run grant is = record {
  until = [];
  since = [];
  place = record { parts = refl; granted = sym (ap grant_of run.first) ∙ is };
  lasts = tt;
  last = refl;
}

-- the words go on by one entry
held-on : (row : List Entry → Option Item) (opening : List ℕ → Option Item) (key : List ℕ)
    (before : List Entry) (e : Entry) (grant : Grant) (held : IsHeld row opening key before grant)
    → Lasts grant (life_of (row held.until)) (on_key key (held.since ++ e ∷ []))
    → life_of (row (before ++ e ∷ [])) ≡ last_life (life_of (row held.until))
    (on_key key (held.since ++ e ∷ [])) → IsHeld row opening key (before ++ e ∷ []) grant
held-on row opening key before e grant held lasts last = record {
  until = held.until;
  since = held.since ++ e ∷ [];
  place = record {
    parts = ap (λ es. es ++ e ∷ []) held.place.parts
        ∙ append_assoc held.until held.since (e ∷ []);
    granted = held.place.granted;
  };
  lasts = lasts;
  last = last;
}

held-next : (row : List Entry → Option Item) (opening : List ℕ → Option Item) (key : List ℕ)
    (list before behind : List Entry) (e : Entry) → IsRun row opening key list
    → list ≡ before ++ e ∷ behind → EachIsHeld row opening key before
    → EachIsHeld row opening key (before ++ e ∷ [])
held-next row opening key list before behind e run place each grant is =
    by_key (is_deed_of key e.deed) refl
  where
    by_key : (b : Bool) → is_deed_of key e.deed ≡ b
        → IsHeld row opening key (before ++ e ∷ []) grant
    by_key true same = elim (step.comes grant is)
        [ inl given ↦ by_grant given | inr stays ↦ by_staying stays.0 stays.1 ]
      where
        step : OneEntry (row before) e (row (before ++ e ∷ []))
        step = run.same before behind e place same

        by_grant : granted e.reply ≡ Some grant → IsHeld row opening key (before ++ e ∷ []) grant
        by_grant given = record {
          until = before ++ e ∷ [];
          since = [];
          place = record {
            parts = sym (append-nil (before ++ e ∷ []));
            granted = last_grant-push opening key before e
                ∙ ap (λ b. cond b (granted e.reply) None) same ∙ given;
          };
          lasts = tt;
          last = refl;
        }

        by_staying : grant_of (row before) ≡ Some grant
            → ends grant.cookie (runs_out grant (life_of (row before))) e ≡ false
            → IsHeld row opening key (before ++ e ∷ []) grant
        by_staying there stays =
            let held : IsHeld row opening key before grant = each grant there in
            let pushed : on_key key (held.since ++ e ∷ []) ≡ on_key key held.since ++ e ∷ [] =
            filter-append (λ f. is_deed_of key f.deed) held.since (e ∷ [])
            ∙ ap (λ es. on_key key held.since ++ es) (on_key-same key e [] same) in
            let kept : Stands (row (before ++ e ∷ [])) grant
            (life_by (life_of (row before)) e) = step.keeps grant there stays in
            held-on row opening key before e grant held
            (subst (Lasts grant (life_of (row held.until))) (sym pushed)
            (Lasts-append grant (life_of (row held.until)) (on_key key held.since) (e ∷ [])
            held.lasts
            (subst (λ t. ends grant.cookie (runs_out grant t) e ≡ false) held.last stays, tt)))
            (kept.1 ∙ ap (λ t. life_by t e) held.last
            ∙ sym (last_life-append (life_of (row held.until)) (on_key key held.since)
            (e ∷ []))
            ∙ sym (ap (last_life (life_of (row held.until))) pushed))
    by_key false other =
        let stays : row (before ++ e ∷ []) ≡ row before = run.other before behind e place other in
        let held : IsHeld row opening key before grant =
        each grant (sym (ap grant_of stays) ∙ is) in
        let pushed : on_key key (held.since ++ e ∷ []) ≡ on_key key held.since =
        filter-append (λ f. is_deed_of key f.deed) held.since (e ∷ [])
        ∙ ap (λ es. on_key key held.since ++ es) (on_key-other key e [] other)
        ∙ append-nil (on_key key held.since) in
        held-on row opening key before e grant held
        (subst (Lasts grant (life_of (row held.until))) (sym pushed) held.lasts)
        (ap life_of stays ∙ held.last ∙ sym
        (ap (last_life (life_of (row held.until))) pushed))

held-along : (row : List Entry → Option Item) (opening : List ℕ → Option Item) (key : List ℕ)
    (list rest before behind : List Entry) → IsRun row opening key list
    → list ≡ before ++ (rest ++ behind) → EachIsHeld row opening key before
    → EachIsHeld row opening key (before ++ rest)
held-along row opening key list [] before behind run place each =
    subst (EachIsHeld row opening key) (sym (append-nil before)) each
held-along row opening key list (e ∷ es) before behind run place each =
    subst (EachIsHeld row opening key) (append_assoc before (e ∷ []) es)
    (held-along row opening key list es (before ++ e ∷ []) behind run
    (on list before (es ++ behind) e place)
    (held-next row opening key list before (es ++ behind) e run place each))

-- a lock that stands in the row was granted, and has lasted since
pub locked-held : (row : List Entry → Option Item) (opening : List ℕ → Option Item) (key : List ℕ)
    (list before behind : List Entry) → IsRun row opening key list
    → list ≡ before ++ behind → EachIsHeld row opening key before
locked-held row opening key list before behind run place =
    held-along row opening key list before [] behind run place (held-first row opening key list run)
