-- No more items expire in a legal history than requests stand in it: each that expires was there,
-- and only a request makes one.
use Rattle.std.proofs.Common.{◌≡◌, ℕ, ◌+◌, ◌<◌, ◌≤◌, Bool, true, false, cond, List, [], ◌∷◌, ◌++◌, length, Option, Some, None, refl, sym, ap, ◌∙◌, arith, subst}
use Rattle.std.specs.Prelude.{◌≢◌, ◌||◌}
use Rattle.std.specs.List.{AllByRecursion}
use Rattle.std.specs.Str.{bytes_eq}
use Rattle.keeper.proofs.PairLemmas.{bytes_eq-same, bytes_eq-refl}
use Rattle.session_machine.specs.declared.entry.Entry.{Entry}
use Rattle.session_machine.specs.declared.entry.Deed.{Deed}
use Rattle.session_machine.specs.declared.entry.Deed.TheVariants.{Asked, Expired, Looked}
use Rattle.session_machine.specs.declared.item.Item.{Item}
use Rattle.session_machine.specs.Profiles.{newest}
use Rattle.session_machine.specs.History.{Marked, marked, has_risen, is_deed_of, entries_of, after_deed, after_entry, DeedStands, IsDead, Lead, nothing}
use Rattle.shard_core.specs.ShardStands.{TellsAfter}
use Rattle.load_generator.specs.Load.{Generating, AreMade, generator_after, next_request}
use Rattle.load_generator.specs.LoadRun.{IsExpiry, IsLastRemoval}
use Rattle.plain_desk.specs.Draws.{draws}

-- ---- keys

-- the key is one of these
abbrev is_among : List ℕ → List (List ℕ) → Bool
is_among key [] = false
is_among key (k ∷ ks) = bytes_eq key k || is_among key ks

-- these without the key, once
abbrev without : List ℕ → List (List ℕ) → List (List ℕ)
without key [] = []
without key (k ∷ ks) = cond (bytes_eq key k) ks (k ∷ without key ks)

length-without : (key : List ℕ) (ks : List (List ℕ)) → is_among key ks ≡ true
    → length (without key ks) + 1 ≡ length ks
length-without key [] among = cc
length-without key (k ∷ ks) among = by_test (bytes_eq key k) among (λ h. length-without key ks h)
  where
    by_test : (b : Bool) → (b || is_among key ks) ≡ true
        → (is_among key ks ≡ true → length (without key ks) + 1 ≡ length ks)
        → length (cond b ks (k ∷ without key ks)) + 1 ≡ length (k ∷ ks)
    by_test true h rest = omega arith
    by_test false h rest = let fewer = rest h in omega (arith, fewer)

among-without : (key other : List ℕ) (ks : List (List ℕ)) → bytes_eq other key ≡ false
    → is_among other ks ≡ true → is_among other (without key ks) ≡ true
among-without key other [] apart among = cc
among-without key other (k ∷ ks) apart among =
    by_test (bytes_eq key k) refl (λ h. among-without key other ks apart h)
  where
    tail : (b : Bool) → (b || is_among other ks) ≡ true
        → (is_among other ks ≡ true → is_among other (without key ks) ≡ true)
        → (b || is_among other (without key ks)) ≡ true
    tail true h rest = refl
    tail false h rest = rest h

    by_test : (b : Bool) → bytes_eq key k ≡ b
        → (is_among other ks ≡ true → is_among other (without key ks) ≡ true)
        → is_among other (cond b ks (k ∷ without key ks)) ≡ true
    by_test true is rest =
        let not_k : bytes_eq other k ≡ false = ap (bytes_eq other) (sym (bytes_eq-same key k is))
        ∙ apart in
        ap (λ b. b || is_among other ks) (sym not_k) ∙ among
    by_test false is rest = tail (bytes_eq other k) among rest

-- ---- items

-- each key that has an item is one of these
abbrev Covers : List (List ℕ) → (List ℕ → Option Item) → Type 0
Covers ks items = (key : List ℕ) → items key ≢ None → is_among key ks ≡ true

-- the items after an entry
abbrev next_items : (List ℕ → Option Item) → Marked → List ℕ → Option Item
next_items items m key = cond (is_deed_of key m.1.deed) (after_entry newest (items key) m) (items
    key)

-- how many deeds are requests, and how many are expiries
abbrev asks : Deed → ℕ
asks (Asked request) = 1
asks (Expired key) = 0
asks Looked = 0

abbrev expiries : Deed → ℕ
expiries (Asked request) = 0
expiries (Expired key) = 1
expiries Looked = 0

abbrev asked : List Entry → ℕ
asked [] = 0
asked (e ∷ es) = asks e.deed + asked es

abbrev expired : List Entry → ℕ
expired [] = 0
expired (e ∷ es) = expiries e.deed + expired es

dead_is_there : (item : Option Item) (t : ℕ) → IsDead item t → item ≢ None
dead_is_there None t dead = absurd dead
dead_is_there (Some item) t dead = λ none. cc

cond_some : (b : Bool) (x y : Option Item) → (b ≡ true → x ≡ None) → cond b x y ≢ None → b ≡ false
cond_some true x y none some = absurd (some (none refl))
cond_some false x y none some = refl

-- the keys with an item after an entry, of which those before are among ks
covered : (items : List ℕ → Option Item) (ks : List (List ℕ)) (m : Marked) (deed : Deed)
    → m.1.deed ≡ deed → Covers ks items
    → ((key : List ℕ) → is_deed_of key deed ≡ true → DeedStands newest (items key) m.0 m.1.deed m.1)
    → (ks' : List (List ℕ)) × Covers ks' (next_items items m)
    × (length ks' + expiries deed ≤ length ks + asks deed)
covered items ks m (Asked request) is covers stands = (request.key ∷ ks, cover, omega arith)
  where
    by_test : (key : List ℕ) (b : Bool) → is_deed_of key m.1.deed ≡ b → bytes_eq key request.key ≡ b
        → cond b (after_entry newest (items key) m) (items key) ≢ None
        → (bytes_eq key request.key || is_among key ks) ≡ true
    by_test key true at same some = ap (λ b. b || is_among key ks) same
    by_test key false at same some = ap (λ b. b || is_among key ks) same ∙ covers key some

    cover : Covers (request.key ∷ ks) (next_items items m)
    cover key some = by_test key (is_deed_of key m.1.deed) refl (sym (ap (is_deed_of key) is)) some
covered items ks m (Expired gone) is covers stands = (without gone ks, cover, omega (arith, fewer))
  where
    there : items gone ≢ None
    there = dead_is_there (items gone) m.1.moment
        (subst (λ d. DeedStands newest (items gone) m.0 d m.1) is (stands gone (bytes_eq-refl
        gone))).0

    fewer : length (without gone ks) + 1 ≡ length ks
    fewer = length-without gone ks (covers gone there)

    now_none : (key : List ℕ) → after_entry newest (items key) m ≡ None
    now_none key = ap (λ d. after_deed newest (items key) d m.1) is

    other : (key : List ℕ) → next_items items m key ≢ None → bytes_eq key gone ≡ false
    other key some = sym (ap (is_deed_of key) is)
        ∙ cond_some (is_deed_of key m.1.deed) (after_entry newest (items key) m) (items key)
        (λ _. now_none key) some

    kept : (key : List ℕ) → bytes_eq key gone ≡ false → next_items items m key ≡ items key
    kept key apart = ap (λ b. cond b (after_entry newest (items key) m) (items key))
        (ap (is_deed_of key) is ∙ apart)

    cover : Covers (without gone ks) (next_items items m)
    cover key some =
        let apart = other key some in
        among-without gone key ks apart (covers key (λ none. some (kept key apart ∙ none)))
covered items ks m Looked is covers stands = (ks, cover, omega arith)
  where
    cover : Covers ks (next_items items m)
    cover key some = covers key (λ none. some
        (ap (λ b. cond b (after_entry newest (items key) m) (items key)) (ap (is_deed_of key) is) ∙
        none))

lead_on : (b : Bool) (item : Option Item) (m : Marked) (ms : List Marked)
    → Lead newest item (cond b (m ∷ ms) ms)
    → (b ≡ true → DeedStands newest item m.0 m.1.deed m.1) × Lead newest (cond b (after_entry newest
    item m) item) ms
lead_on true item m ms lead = (λ _. lead.0, lead.1)
lead_on false item m ms lead = (λ is. cc, lead)

-- items that are covered by so many keys expire at most so often, and once more for each request
few_expire : (items : List ℕ → Option Item) (ks : List (List ℕ)) (count : ℕ) (es : List Entry)
    → Covers ks items
    → ((key : List ℕ) → Lead newest (items key) (entries_of key (marked count es)))
    → expired es ≤ length ks + asked es
few_expire items ks count [] covers leads = omega arith
few_expire items ks count (e ∷ es) covers leads =
    let m : Marked = (has_risen count e.faults, e) in
    let each = λ (key : List ℕ). lead_on (is_deed_of key e.deed) (items key) m
    (entries_of key (marked e.faults es)) (leads key) in
    let next = covered items ks m e.deed refl covers (λ key is. (each key).0 is) in
    let rest = few_expire (next_items items m) next.0 e.faults es next.1 (λ key. (each key).1) in
    omega (arith, next.2, rest)

-- ---- a load

asked-append : (es fs : List Entry) → asked (es ++ fs) ≡ asked es + asked fs
asked-append [] fs = omega arith
asked-append (e ∷ es) fs = let rest = asked-append es fs in omega (arith, rest)

expired-append : (es fs : List Entry) → expired (es ++ fs) ≡ expired es + expired fs
expired-append [] fs = omega arith
expired-append (e ∷ es) fs = let rest = expired-append es fs in omega (arith, rest)

made_are_asked : (g : Generating) (j : ℕ) (es : List Entry) → AreMade g j es → asked es ≡ length es
made_are_asked g j [] made = refl
made_are_asked g j (e ∷ es) made =
    let one : asks e.deed ≡ 1 = ap asks made.2 in
    let rest = made_are_asked (generator_after g e.reply) (j + draws (next_request g).ask) es
    made.4 in
    omega (arith, one, rest)

removal_expires : (deed : Deed) → IsExpiry deed → (asks deed ≡ 0) × (expiries deed ≡ 1)
removal_expires (Asked request) is = absurd is
removal_expires (Expired key) is = (refl, refl)
removal_expires Looked is = absurd is

removals_expire : (es : List Entry) → AllByRecursion IsLastRemoval es
    → (asked es ≡ 0) × (expired es ≡ length es)
removals_expire [] all = (refl, refl)
removals_expire (e ∷ es) all =
    let one = removal_expires e.deed all.0.0 in
    let rest = removals_expire es all.1 in
    (omega (arith, one.0, rest.0), omega (arith, one.1, rest.1))

-- Over a keeper that tells its items no more are removed than requests were made.
pub few_removed : (g : Generating) (requests removals : List Entry)
    (told : Option (List ℕ → Option Item)) → AreMade g 0 requests
    → AllByRecursion IsLastRemoval removals
    → TellsAfter nothing 0 (requests ++ removals) told → length requests < length removals
    → told ≡ None
few_removed g requests removals None made gone after more = refl
few_removed g requests removals (Some items) made gone after more =
    let bound = few_expire nothing [] 0 (requests ++ removals) (λ key some. absurd (some refl))
    after.0.keys in
    let a = asked-append requests removals in
    let x = expired-append requests removals in
    let all_asked = made_are_asked g 0 requests made in
    let all_gone = removals_expire removals gone in
    absurd (omega (arith, bound, a, x, all_asked, all_gone.0, all_gone.1, more))
