-- The pages of a script and those of the world, place by place.
use Rattle.std.proofs.Common.{zero, suc, ◌≡◌, ◌≢◌, ℕ, ◌+◌, ◌<◌, false, cond, List, [], ◌∷◌, ◌++◌, length, get_or, set, refl, sym, ap, ◌∙◌, arith, subst, append-nil}
use Rattle.std.specs.Prelude.{◌==◌, ◌↔◌, map, IsTrue, MatchOption, Option, Some, None, is_some}
use Rattle.std.specs.List.{AllByRecursion}
use Rattle.std.proofs.lemmas.Bool.Decides.{nat_tests}
use Rattle.std.proofs.lemmas.List.Elements.{filter-append}
use Rattle.page_script.specs.declared.script_page.ScriptPage.{ScriptPage}
use Rattle.page_script.specs.PagePlaces.{IsUnused, IsIndexOf}
use Rattle.page_script.specs.World.{Page, WorldTurn, event_of, turns_of, HasName}
use Rattle.page_script.specs.ScriptStands.{PageStands, PagesStand}

-- ---- lists

pub All-append : {X : Type 0} (P : X → Type 0) (xs ys : List X) → AllByRecursion P xs
    → AllByRecursion P ys → AllByRecursion P (xs ++ ys)
All-append P [] ys all more = more
All-append P (x ∷ xs) ys all more = (all.0, All-append P xs ys all.1 more)

pub All-more : {X : Type 0} (P Q : X → Type 0) (xs : List X) → ((x : X) → P x → Q x)
    → AllByRecursion P xs → AllByRecursion Q xs
All-more P Q [] more all = tt
All-more P Q (x ∷ xs) more all = (more x all.0, All-more P Q xs more all.1)

pub All-at : {X : Type 0} (P : X → Type 0) (xs ys : List X) (x : X)
    → AllByRecursion P (xs ++ x ∷ ys) → P x
All-at P [] ys x all = all.0
All-at P (y ∷ xs) ys x all = All-at P xs ys x all.1

-- ---- the turns of other pages

is-own : (m number : ℕ) → m ≢ number → (m == number) ≡ false
is-own m number apart = grind (arith, nat_tests)

-- turns that are all of another page are none of this one
pub turns_of-none : (number : ℕ) (turns : List WorldTurn)
    → AllByRecursion (λ (turn : WorldTurn). turn.page ≢ number) turns → turns_of number turns ≡ []
turns_of-none number [] all = refl
turns_of-none number (turn ∷ turns) all =
    ap (λ b. cond b (turn ∷ turns_of number turns) (turns_of number turns))
    (is-own turn.page number all.0) ∙ turns_of-none number turns all.1

pub turns_of-other : (number m : ℕ) (turns asked : List WorldTurn) → m ≢ number
    → AllByRecursion (λ (turn : WorldTurn). turn.page ≡ m) asked
    → turns_of number (turns ++ asked) ≡ turns_of number turns
turns_of-other number m turns asked apart own =
    filter-append (λ (turn : WorldTurn). turn.page == number) turns asked
    ∙ ap (λ more. turns_of number turns ++ more)
    (turns_of-none number asked (All-more (λ (turn : WorldTurn). turn.page ≡ m)
    (λ (turn : WorldTurn). turn.page ≢ number) asked (λ turn is e. apart (sym is ∙ e)) own))
    ∙ append-nil (turns_of number turns)

-- a page that asks nothing goes on standing
PageStands-other : (turns asked : List WorldTurn) (number m : ℕ) (live : ScriptPage) (page : Page)
    → m ≢ number → AllByRecursion (λ (turn : WorldTurn). turn.page ≡ m) asked
    → PageStands turns number live page → PageStands (turns ++ asked) number live page
PageStands-other turns asked number m live page apart own stands = record {
  name = stands.name;
  terms = stands.terms;
  past = stands.past;
  ending = stands.ending;
  own = stands.own ∙ ap (map event_of) (sym (turns_of-other number m turns asked apart own));
}

PagesStand-other : (turns asked : List WorldTurn) (number m : ℕ) (lives : List ScriptPage)
    (pages : List Page) → m < number → AllByRecursion (λ (turn : WorldTurn). turn.page ≡ m) asked
    → PagesStand turns number lives pages → PagesStand (turns ++ asked) number lives pages
PagesStand-other turns asked number m [] [] below own stand = tt
PagesStand-other turns asked number m [] (page ∷ pages) below own stand = absurd stand
PagesStand-other turns asked number m (live ∷ lives) [] below own stand = absurd stand
PagesStand-other turns asked number m (live ∷ lives) (page ∷ pages) below own stand = (
  PageStands-other turns asked number m live page (λ e. absurd (omega arith)) own stand.0,
  PagesStand-other turns asked (number + 1) m lives pages (omega arith) own stand.1,
)

-- ---- places

pub PagesStand-length : (turns : List WorldTurn) (number : ℕ) (lives : List ScriptPage)
    (pages : List Page) → PagesStand turns number lives pages → length lives ≡ length pages
PagesStand-length turns number [] [] stand = refl
PagesStand-length turns number [] (page ∷ pages) stand = absurd stand
PagesStand-length turns number (live ∷ lives) [] stand = absurd stand
PagesStand-length turns number (live ∷ lives) (page ∷ pages) stand = let rest =
    PagesStand-length turns (number + 1) lives pages stand.1 in omega arith

-- The page of the world at a place, for which the page of the script there stands; and what stands
-- where both have changed.
pub record IsFound (turns : List WorldTurn) (first : ℕ) (lives : List ScriptPage)
    (pages : List Page)
    (n number : ℕ) (live : ScriptPage) : Type 0 where
  pub before : List Page
  pub page : Page
  pub behind : List Page
  pub place : pages ≡ before ++ page ∷ behind
  pub count : length before ≡ n
  pub stands : PageStands turns number live page
  pub goes_on : (live' : ScriptPage) (page' : Page) (asked : List WorldTurn)
      → AllByRecursion (λ (turn : WorldTurn). turn.page ≡ number) asked
      → PageStands (turns ++ asked) number live' page'
      → PagesStand (turns ++ asked) first (set lives n live') (before ++ page' ∷ behind)

pub found : (turns : List WorldTurn) (first : ℕ) (lives : List ScriptPage) (pages : List Page)
    (n number : ℕ) (live : ScriptPage) → PagesStand turns first lives pages → n < length lives
    → live ≡ get_or lives n live → first + n ≡ number
    → IsFound turns first lives pages n number live
found turns first [] pages n number live stand inside is at = absurd (omega arith)
found turns first (h ∷ hs) [] n number live stand inside is at = absurd stand
found turns first (h ∷ hs) (p ∷ ps) zero number live stand inside is at =
    let here : first ≡ number = omega arith in record {
      before = [];
      page = p;
      behind = ps;
      place = refl;
      count = refl;
      stands = subst (λ k. PageStands turns k live p) here
          (subst (λ x. PageStands turns first x p) (sym is) stand.0);
      goes_on = λ live' page' asked own new. (
        subst (λ k. PageStands (turns ++ asked) k live' page') (sym here) new,
        PagesStand-other turns asked (first + 1) number hs ps (omega arith) own stand.1,
      );
    }
found turns first (h ∷ hs) (p ∷ ps) (suc n) number live stand inside is at =
    let rest = found turns (first + 1) hs ps n number live stand.1 (omega arith) is (omega arith) in
    record {
      before = p ∷ rest.before;
      page = rest.page;
      behind = rest.behind;
      place = ap (λ pages. p ∷ pages) rest.place;
      count = (let count = rest.count in omega arith);
      stands = rest.stands;
      goes_on = λ live' page' asked own new. (
        PageStands-other turns asked first number h p (λ e. absurd (omega arith)) own stand.0,
        rest.goes_on live' page' asked own new,
      );
    }

-- a page more, behind the others
pub PagesStand-push : (turns : List WorldTurn) (first number : ℕ) (lives : List ScriptPage)
    (pages : List Page) (live : ScriptPage) (page : Page) → PagesStand turns first lives pages
    → first + length lives ≡ number → PageStands turns number live page
    → PagesStand turns first (lives ++ live ∷ []) (pages ++ page ∷ [])
PagesStand-push turns first number [] [] live page stand at new =
    let here : number ≡ first = omega arith in
    (subst (λ k. PageStands turns k live page) here new, tt)
PagesStand-push turns first number [] (p ∷ ps) live page stand at new = absurd stand
PagesStand-push turns first number (h ∷ hs) [] live page stand at new = absurd stand
PagesStand-push turns first number (h ∷ hs) (p ∷ ps) live page stand at new =
    (stand.0, PagesStand-push turns (first + 1) number hs ps live page stand.1 (omega arith) new)

-- the page of the script that stands for a page of the world
pub live-at : (turns : List WorldTurn) (first number : ℕ) (lives : List ScriptPage)
    (before : List Page)
    (page : Page) (behind : List Page) → PagesStand turns first lives (before ++ page ∷ behind)
    → first + length before ≡ number → (live : ScriptPage) × PageStands turns number live page
live-at turns first number [] [] page behind stand at = absurd stand
live-at turns first number [] (p ∷ before) page behind stand at = absurd stand
live-at turns first number (h ∷ hs) [] page behind stand at =
    let here : first ≡ number = omega arith in
    (h, subst (λ k. PageStands turns k h page) here stand.0)
live-at turns first number (h ∷ hs) (p ∷ before) page behind stand at =
    live-at turns (first + 1) number hs before page behind stand.1 (omega arith)

-- ---- names

names-apart : (turns : List WorldTurn) (first : ℕ) (lives : List ScriptPage) (pages : List Page)
    (name : List ℕ) → PagesStand turns first lives pages → IsUnused lives name
    → AllByRecursion (λ (page : Page). page.name ≢ name) pages
names-apart turns first [] [] name stand unused = tt
names-apart turns first [] (p ∷ ps) name stand unused = absurd stand
names-apart turns first (h ∷ hs) [] name stand unused = absurd stand
names-apart turns first (h ∷ hs) (p ∷ ps) name stand unused =
    (λ is. unused.0 (stand.0.name ∙ is), names-apart turns (first + 1) hs ps name stand.1 unused.1)

pub unused-no_name : (turns : List WorldTurn) (first : ℕ) (lives : List ScriptPage)
    (pages : List Page)
    (name : List ℕ) → PagesStand turns first lives pages → IsUnused lives name
    → HasName pages name → ⊥
unused-no_name turns first lives pages name stand unused has =
    All-at (λ (page : Page). page.name ≢ name) has.0 has.2 has.1
    (subst (AllByRecursion (λ (page : Page). page.name ≢ name)) has.3
    (names-apart turns first lives pages name stand unused)) has.4

pub place-has_name : (turns : List WorldTurn) (lives : List ScriptPage) (pages : List Page)
    (name : List ℕ) (n : ℕ) → PagesStand turns 0 lives pages → IsIndexOf lives name n
    → HasName pages name
place-has_name turns lives pages name n stand place =
    let at : 0 + n ≡ n = omega arith in
    let there = found turns 0 lives pages n n place.page stand place.inside place.there at in
    (there.before, there.page, there.behind, there.place, sym there.stands.name ∙ place.named)

-- a name that no page has is that of no page of the script
pub no_name-unused : (turns : List WorldTurn) (first : ℕ) (lives : List ScriptPage)
    (pages : List Page)
    (name : List ℕ) → PagesStand turns first lives pages → (HasName pages name → ⊥)
    → IsUnused lives name
no_name-unused turns first [] [] name stand none = tt
no_name-unused turns first [] (p ∷ ps) name stand none = absurd stand
no_name-unused turns first (h ∷ hs) [] name stand none = absurd stand
no_name-unused turns first (h ∷ hs) (p ∷ ps) name stand none = (
  λ is. none ([], p, ps, refl, sym stand.0.name ∙ is),
  no_name-unused turns (first + 1) hs ps name stand.1
      (λ has. none (p ∷ has.0, has.1, has.2, ap (λ pages. p ∷ pages) has.3, has.4)),
)

-- an element does not depend on the default
pub get_or-same : {X : Type 0} (xs : List X) (n : ℕ) (x y : X) → n < length xs
    → get_or xs n x ≡ get_or xs n y
get_or-same [] n x y inside = absurd (omega arith)
get_or-same (z ∷ xs) zero x y inside = refl
get_or-same (z ∷ xs) (suc n) x y inside = get_or-same xs n x y (omega arith)

-- the page at the place of a name
pub place-named : (lives : List ScriptPage) (name : List ℕ) (n : ℕ) (live : ScriptPage)
    → IsIndexOf lives name n → live ≡ get_or lives n live → live.name ≡ name
place-named lives name n live place is =
    ap (λ (h : ScriptPage). h.name) (is ∙ get_or-same lives n live place.page place.inside
    ∙ sym place.there) ∙ place.named

-- a name at a place is in use
unused-at : (lives : List ScriptPage) (name : List ℕ) (n : ℕ) (live : ScriptPage) → n < length lives
    → IsUnused lives name → live ≡ get_or lives n live → live.name ≢ name
unused-at [] name n live inside unused is = absurd (omega arith)
unused-at (h ∷ hs) name zero live inside unused is =
    λ e. unused.0 (ap (λ (x : ScriptPage). x.name) (sym is) ∙ e)
unused-at (h ∷ hs) name (suc n) live inside unused is =
    unused-at hs name n live (omega arith) unused.1 is

pub place-used : (lives : List ScriptPage) (name : List ℕ) (n : ℕ) → IsIndexOf lives name n
    → IsUnused lives name → ⊥
place-used lives name n place unused = unused-at lives name n place.page place.inside unused
    place.there place.named

no_truth : {P : Type 0} → IsTrue false → P
no_truth so = cc

-- a name at a place, where there is one, is that of a page of the world
pub place-has : (turns : List WorldTurn) (lives : List ScriptPage) (pages : List Page)
    (name : List ℕ) (place : Option ℕ) → PagesStand turns 0 lives pages
    → MatchOption place (IsUnused lives name) (IsIndexOf lives name)
    → IsTrue (is_some place) ↔ HasName pages name
place-has turns lives pages name None stand unused = (
  λ test. no_truth test,
  λ has. absurd (unused-no_name turns 0 lives pages name stand unused has),
)
place-has turns lives pages name (Some n) stand place = (
  λ test. place-has_name turns lives pages name n stand place,
  λ has. refl,
)
