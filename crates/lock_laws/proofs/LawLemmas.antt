-- What locks give, from the relation between the words of a history and the rows of its keys.
use Rattle.std.proofs.Common.{◌≡◌, ℕ, ◌<◌, false, List, [], ◌∷◌, ◌++◌, Some, None, Option, sym, ap, ◌∙◌, subst, inl, inr, append_assoc}
use Rattle.std.proofs.lemmas.List.Elements.{filter-append}
use Rattle.std.proofs.lemmas.List.{append_cancel_left}
use Rattle.session_machine.specs.declared.entry.Entry.{Entry}
use Rattle.session_machine.specs.declared.item.Item.{Item}
use Rattle.session_machine.specs.declared.item.Profile.{Profile}
use Rattle.session_machine.specs.declared.item.Hold.{Hold}
use Rattle.session_machine.specs.History.{is_deed_of, IsLegal, IsLegalIn, item_after_in}
use Rattle.session_machine.specs.Profiles.{newest}
use Rattle.lock_laws.specs.InForce.{Grant, granted, grant_under, grant_of, last_grant, IsGranted, on_key, life_of, last_life, runs_out, ends, Lasts, IsInForce}
use Rattle.lock_laws.specs.Laws.{StandsAt, named_by, content_with_minutes, ActsOnlyInForce, InForceIsDone, NoUpdateIsLost, Changes, NobodyElse, LocksHold, LocksHoldIn}
use Rattle.lock_laws.proofs.EntryLemmas.{OneEntry}
use Rattle.lock_laws.proofs.WordsLemmas.{IsHeld, Stands, on_key-same, Lasts-split, granted-locked, lasts-stands, locked-held}
use Rattle.lock_laws.proofs.LegalLemmas.{run-of_legal, one-grant}

-- what the entry at a place does
step : (profile : Profile) (opening : List ℕ → Option Item) (count : ℕ) (list : List Entry) (key :
    List ℕ)
    (before : List Entry) (e : Entry) → IsLegalIn profile opening count list
    → StandsAt list key before e
    → OneEntry (item_after_in profile opening count before key) e
    (item_after_in profile opening count (before ++ e ∷ []) key)
step profile opening count list key before e legal at =
    (run-of_legal profile opening count list key legal).same before at.behind e at.place at.on_key

-- a lock that stands in the row was granted, and has lasted since
held : (profile : Profile) (opening : List ℕ → Option Item) (count : ℕ) (list : List Entry) (key :
    List ℕ)
    (before : List Entry) (e : Entry) → IsLegalIn profile opening count list
    → StandsAt list key before e
    → (grant : Grant) → grant_of (item_after_in profile opening count before key) ≡ Some grant
    → IsHeld (λ es. item_after_in profile opening count es key) opening key before grant
held profile opening count list key before e legal at =
    locked-held (λ es. item_after_in profile opening count es key) opening key list before (e ∷
    at.behind)
    (run-of_legal profile opening count list key legal) at.place

-- a grant that has lasted stands in the row
stands : (profile : Profile) (opening : List ℕ → Option Item) (count : ℕ) (list : List Entry) (key :
    List ℕ)
    (until since behind : List Entry) (grant : Grant) → IsLegalIn profile opening count list
    → list ≡ until ++ (since ++ behind) → last_grant opening key until ≡ Some grant
    → Lasts grant (life_of (item_after_in profile opening count until key)) (on_key key since)
    → Stands (item_after_in profile opening count (until ++ since) key) grant
    (last_life (life_of (item_after_in profile opening count until key)) (on_key key since))
stands profile opening count list key until since behind grant legal place granted lasts =
    let run = run-of_legal profile opening count list key legal in
    lasts-stands (λ es. item_after_in profile opening count es key) opening key list since until
    behind grant
    run place
    (granted-locked (λ es. item_after_in profile opening count es key) opening key list until (since
    ++ behind)
    grant run place granted) lasts

-- the parts of a list at a place
parted : (list before until since : List Entry) (e : Entry) (behind : List Entry)
    → list ≡ before ++ e ∷ behind → before ≡ until ++ since → list ≡ until ++ (since ++ e ∷ behind)
parted list before until since e behind place parts = place ∙ ap (λ es. es ++ e ∷ behind) parts
    ∙ append_assoc until since (e ∷ behind)

-- what is in force stands in the row, and has not run out
pub in_force-stands : (profile : Profile) (opening : List ℕ → Option Item) (count : ℕ) (list : List
    Entry)
    (key : List ℕ) (before : List Entry) (e : Entry) (cookie : ℕ)
    → IsLegalIn profile opening count list
    → StandsAt list key before e → (force : IsInForce profile opening count key cookie before
    e.moment)
    → (grant_of (item_after_in profile opening count before key) ≡ Some force.grant)
    × (e.moment < runs_out force.grant (life_of (item_after_in profile opening count before key)))
in_force-stands profile opening count list key before e cookie legal at force =
    let there : Stands (item_after_in profile opening count (force.until
    ++ force.since) key) force.grant
    (last_life (life_of (item_after_in profile opening count force.until key))
    (on_key key force.since)) =
    stands profile opening count list key force.until force.since (e ∷ at.behind) force.grant legal
    (parted list before force.until force.since e at.behind at.place force.place.parts)
    force.place.granted force.lasts in
    let here : Stands (item_after_in profile opening count before key) force.grant
    (last_life (life_of (item_after_in profile opening count force.until key))
    (on_key key force.since)) =
    subst (λ es. Stands (item_after_in profile opening count es key) force.grant
    (last_life (life_of (item_after_in profile opening count force.until key))
    (on_key key force.since))) (sym force.place.parts) there in
    (here.0, subst (λ life. e.moment < runs_out force.grant life) (sym here.1) force.in_time)

-- what stands in the row, and has not run out, is in force
pub stands-in_force : (profile : Profile) (opening : List ℕ → Option Item) (count : ℕ) (list : List
    Entry)
    (key : List ℕ) (before : List Entry) (e : Entry) (cookie : ℕ)
    → IsLegalIn profile opening count list
    → StandsAt list key before e → (grant : Grant)
    → grant_of (item_after_in profile opening count before key) ≡ Some grant → grant.cookie ≡ cookie
    → e.moment < runs_out grant (life_of (item_after_in profile opening count before key))
    → IsInForce profile opening count key cookie before e.moment
stands-in_force profile opening count list key before e cookie legal at grant there same time =
    let words = held profile opening count list key before e legal at grant there in
    record {
      grant = grant;
      until = words.until;
      since = words.since;
      place = words.place;
      by_cookie = same;
      lasts = words.lasts;
      in_time = subst (λ life. e.moment < runs_out grant life) words.last time;
    }

pub acts_only_in_force : (profile : Profile) (opening : List ℕ
    → Option Item) (count : ℕ) (list : List Entry)
    → IsLegalIn profile opening count list → ActsOnlyInForce profile opening count list
acts_only_in_force profile opening count list legal key before e cookie at named acts =
    elim ((step profile opening count list key before e legal at).stale cookie named) [
      | inl same ↦ absurd (acts same)
      | inr lock ↦ stands-in_force profile opening count list key before e cookie legal at lock.0
          lock.1
          lock.2
          lock.3
    ]

pub in_force_is_done : (profile : Profile) (opening : List ℕ → Option Item) (count : ℕ) (list : List
    Entry)
    → IsLegalIn profile opening count list → InForceIsDone profile opening count list
in_force_is_done profile opening count list legal key before e cookie at named force =
    let there = in_force-stands profile opening count list key before e cookie legal at force in
    (step profile opening count list key before e legal at).answers force.grant there.0 there.1
    (named ∙ ap Some (sym force.by_cookie))

-- the content and the minutes of a grant
abbrev told : Option Grant → Option (List ℕ × ℕ)
told None = None
told (Some grant) = Some (grant.body, grant.minutes)

-- an item has the content of the grant that it stands for
locked-content : (old : Option Item) (grant : Grant) → grant_of old ≡ Some grant
    → content_with_minutes old ≡ Some (grant.body, grant.minutes)
locked-content None grant is = absurd (cc is)
locked-content (Some item) grant is = under item.holder is
  where
    under : (holder : Option Hold) → grant_under holder item ≡ Some grant
        → content_with_minutes (Some item) ≡ told (Some grant)
    under None g = absurd (cc g)
    under (Some hold) g = ap told g

pub no_update_is_lost : (profile : Profile) (opening : List ℕ
    → Option Item) (count : ℕ) (list : List Entry)
    → IsLegalIn profile opening count list → NoUpdateIsLost profile opening count list
no_update_is_lost profile opening count list legal key before e grant until since at write named
    acts
    place =
    elim ((step profile opening count list key before e legal at).stale grant.cookie named) [
      | inl same ↦ absurd (acts same)
      | inr lock ↦ by_lock lock.0 lock.1 lock.2
    ]
  where
    by_lock : (other : Grant) → grant_of (item_after_in profile opening count before key)
        ≡ Some other
        → other.cookie ≡ grant.cookie
        → content_with_minutes (item_after_in profile opening count before key) ≡ Some (
          grant.body,
          grant.minutes,
        )
    by_lock other there same =
        let words = held profile opening count list key before e legal at other there in
        let one = one-grant profile opening count list key before (e ∷ at.behind) words.until
        words.since
        until since other grant legal at.place same words.place place in
        locked-content (item_after_in profile opening count before key) grant (there
        ∙ ap Some one.1)

-- the grant of a cookie in force has lasted, wherever it is found
lasted : (profile : Profile) (opening : List ℕ → Option Item) (count : ℕ) (list : List Entry) (key :
    List ℕ)
    (before : List Entry) (e : Entry) (grant : Grant) (until since : List Entry)
    → IsLegalIn profile opening count list
    → StandsAt list key before e → (force : IsInForce profile opening count key grant.cookie before
    e.moment) → IsGranted opening key grant before until since
    → (force.grant ≡ grant) × Lasts grant (life_of (item_after_in profile opening count until key))
    (on_key key since)
lasted profile opening count list key before e grant until since legal at force place =
    let one : (force.until ≡ until) × (force.grant ≡ grant) =
    one-grant profile opening count list key before (e ∷ at.behind) force.until force.since until
    since
    force.grant grant legal at.place force.by_cookie force.place place in
    let rest : force.since ≡ since = append_cancel_left until force.since since
    (sym (ap (λ es. es ++ force.since) one.0) ∙ sym force.place.parts ∙ place.parts) in (
      one.1,
      subst (λ es. Lasts grant (life_of (item_after_in profile opening count until key)) (on_key key
          es))
          rest
          (subst (λ es. Lasts grant (life_of (item_after_in profile opening count es key))
          (on_key key force.since)) one.0
          (subst (λ g. Lasts g (life_of (item_after_in profile opening count force.until key))
          (on_key key force.since)) one.1 force.lasts)),
    )

-- the words that hold between a grant that has lasted and a place, of an entry on the key there
pub record IsBetween (profile : Profile) (opening : List ℕ → Option Item) (count : ℕ) (key : List ℕ)
    (grant : Grant)
    (before : List Entry) (f : Entry) : Type 0 where
  pub does : OneEntry (item_after_in profile opening count before key) f
      (item_after_in profile opening count (before ++ f ∷ []) key)
  pub there : grant_of (item_after_in profile opening count before key) ≡ Some grant
  pub stays : ends grant.cookie (runs_out grant (life_of (item_after_in profile opening count before
      key)))
      f ≡ false

between : (profile : Profile) (opening : List ℕ → Option Item) (count : ℕ) (list : List Entry) (key
    : List ℕ)
    (before : List Entry) (e : Entry) (grant : Grant) (until since : List Entry)
    → IsLegalIn profile opening count list
    → StandsAt list key before e → IsGranted opening key grant before until since
    → Lasts grant (life_of (item_after_in profile opening count until key)) (on_key key since)
    → (middle : List Entry) (f : Entry) → StandsAt since key middle f
    → IsBetween profile opening count key grant (until ++ middle) f
between profile opening count list key before e grant until since legal at place lasts middle f
    within =
    record {
      does = step profile opening count list key (until ++ middle) f legal here;
      there = there.0;
      stays = subst (λ t. ends grant.cookie (runs_out grant t) f ≡ false) (sym there.1) split.1.0;
    }
  where
    parts : on_key key since ≡ on_key key middle ++ f ∷ on_key key within.behind
    parts =
        ap (on_key key) within.place ∙ filter-append (λ g. is_deed_of key g.deed) middle
        (f ∷ within.behind)
        ∙ ap (λ es. on_key key middle ++ es) (on_key-same key f within.behind within.on_key)

    split : Lasts grant (life_of (item_after_in profile opening count until key)) (on_key key
        middle)
        × Lasts grant (last_life (life_of (item_after_in profile opening count until key))
        (on_key key middle)) (f ∷ on_key key within.behind)
    split = Lasts-split grant (life_of (item_after_in profile opening count until key)) (on_key key
        middle)
        (f ∷ on_key key within.behind)
        (subst (Lasts grant (life_of (item_after_in profile opening count until key))) parts lasts)

    whole : list ≡ until ++ (middle ++ f ∷ (within.behind ++ e ∷ at.behind))
    whole =
        parted list before until since e at.behind at.place place.parts
        ∙ ap (λ es. until ++ (es ++ e ∷ at.behind)) within.place
        ∙ ap (λ es. until ++ es) (append_assoc middle (f ∷ within.behind) (e ∷ at.behind))

    there : Stands (item_after_in profile opening count (until ++ middle) key) grant
        (last_life (life_of (item_after_in profile opening count until key)) (on_key key middle))
    there = stands profile opening count list key until middle (f ∷ (within.behind
        ++ e ∷ at.behind)) grant
        legal whole place.granted split.0

    here : StandsAt list key (until ++ middle) f
    here = record {
      behind = within.behind ++ e ∷ at.behind;
      place = whole
          ∙ sym (append_assoc until middle (f ∷ (within.behind ++ e ∷ at.behind)));
      on_key =
          within.on_key;
    }

-- an entry that does not end the lock changes nothing
unchanging : (profile : Profile) (opening : List ℕ → Option Item) (count : ℕ) (key : List ℕ) (grant
    : Grant)
    (before : List Entry) (f : Entry) → IsBetween profile opening count key grant before f
    → Changes profile opening count key before f → ⊥
unchanging profile opening count key grant before f held change =
    elim (held.does.others grant held.there change.kind) [
      | inl same ↦ change.acts same
      | inr ended ↦ absurd (cc (ended.0, held.stays))
    ]

pub nobody_else : (profile : Profile) (opening : List ℕ → Option Item) (count : ℕ) (list : List
    Entry)
    → IsLegalIn profile opening count list → NobodyElse profile opening count list
nobody_else profile opening count list legal key before e grant until since at force place =
    let has = lasted profile opening count list key before e grant until since legal at force place
    in
    let inside = between profile opening count list key before e grant until since legal at place
    has.1 in
    record {
      nobody_acquired = λ middle f within. (inside middle f within).does.refuses grant
          (inside middle f within).there;
      nobody_changed = λ middle f within. unchanging profile opening count key grant (until
          ++ middle) f
          (inside middle f within);
      acquires_nothing = does.refuses force.grant there.0;
      changes_by_cookie = λ change. here (subst (λ es. Changes profile opening count key es e)
          (sym place.parts) change);
    }
  where
    there : (grant_of (item_after_in profile opening count before key) ≡ Some force.grant)
        × (e.moment < runs_out force.grant (life_of (item_after_in profile opening count before
        key)))
    there = in_force-stands profile opening count list key before e grant.cookie legal at force

    does : OneEntry (item_after_in profile opening count before key) e
        (item_after_in profile opening count (before ++ e ∷ []) key)
    does = step profile opening count list key before e legal at

    here : Changes profile opening count key before e → named_by e.deed ≡ Some grant.cookie
    here change = elim (does.others force.grant there.0 change.kind) [
      | inl same ↦ absurd (change.acts same)
      | inr ended ↦ ended.1 there.1 ∙ ap Some force.by_cookie
    ]

-- What locks give holds of every legal history.
pub LocksHoldIn-of_legal : (profile : Profile) (opening : List ℕ
    → Option Item) (count : ℕ) (list : List Entry)
    → IsLegalIn profile opening count list → LocksHoldIn profile opening count list
LocksHoldIn-of_legal profile opening count list legal = record {
  acts_only_in_force = acts_only_in_force profile opening count list legal;
  in_force_is_done = in_force_is_done profile opening count list legal;
  no_update_is_lost = no_update_is_lost profile opening count list legal;
  nobody_else = nobody_else profile opening count list legal;
}

-- and so of those of the newest profile
pub LocksHold-of_legal : (opening : List ℕ → Option Item) (count : ℕ) (list : List Entry)
    → IsLegal opening count list → LocksHold opening count list
LocksHold-of_legal opening count list legal = LocksHoldIn-of_legal newest opening count list legal
