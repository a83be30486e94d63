-- The homes of the names of a farm, and the pages of its servers.
use Rattle.std.proofs.Common.{◌≡◌, ◌≢◌, ℕ, ◌+◌, ◌<◌, ◌≤◌, Bool, true, false, cond, List, [], ◌∷◌, ◌++◌, length, Option, Some, None, refl, sym, ap, ◌∙◌, arith, subst, inl, inr, length-append}
use Rattle.std.specs.Prelude.{◌⊎◌, ◌↔◌, ⊤}
use Rattle.std.specs.Str.{bytes_eq}
use Rattle.std.proofs.lemmas.Slice.Eq.{bytes_eq-Decides}
use Rattle.std.proofs.lemmas.Bool.Decides.{not_from_Decides}
use Rattle.placement.specs.Placement.{server_of_key}
use Rattle.page_script.specs.declared.line.Line.{Line}
use Rattle.page_script.specs.declared.line.Line.TheVariants as lines
use Rattle.page_script.specs.declared.line.PageLine.{PageLine}
use Rattle.page_script.specs.World.{Page, World, HasName, new_page}
use Rattle.partition.specs.Farm.{FarmRun}
use Rattle.partition.specs.FarmStands.{NamesStand, OwnPages}
use Rattle.partition.specs.Shares.{home_of, page_count}
use Rattle.partition.proofs.ScriptLemmas.{put, put-same, put-other, same_or_other}
use Rattle.partition.proofs.ShareLemmas.{cond_none}

-- ---- names in a list of pages

-- a page of the list has the name
abbrev pub has : List Page → List ℕ → Type 0
has [] name = ⊥
has (page ∷ pages) name = (page.name ≡ name) ⊎ has pages name

has-at : (before : List Page) (page : Page) (behind : List Page) (name : List ℕ)
    → page.name ≡ name → has (before ++ page ∷ behind) name
has-at [] page behind name is = inl is
has-at (p ∷ before) page behind name is = inr (has-at before page behind name is)

pub has-from : (pages : List Page) (name : List ℕ) → HasName pages name → has pages name
has-from pages name named =
    subst (λ (ps : List Page). has ps name) (sym named.3)
    (has-at named.0 named.1 named.2 name named.4)

pub has-to : (pages : List Page) (name : List ℕ) → has pages name → HasName pages name
has-to [] name is = absurd is
has-to (page ∷ pages) name (inl is) = ([], page, pages, refl, is)
has-to (page ∷ pages) name (inr is) =
    let rest = has-to pages name is in
    (page ∷ rest.0, rest.1, rest.2, ap (λ ps. page ∷ ps) rest.3, rest.4)

has-behind : (pages : List Page) (page : Page) (name : List ℕ) → has (pages ++ page ∷ []) name
    → has pages name ⊎ (page.name ≡ name)
has-behind [] page name (inl is) = inr is
has-behind [] page name (inr is) = absurd is
has-behind (p ∷ pages) page name (inl is) = inl (inl is)
has-behind (p ∷ pages) page name (inr is) = of (has-behind pages page name is)
  where
    of : has pages name ⊎ (page.name ≡ name) → has (p ∷ pages) name ⊎ (page.name ≡ name)
    of (inl has) = inl (inr has)
    of (inr is) = inr is

has-before : (pages : List Page) (page : Page) (name : List ℕ) → has pages name
    → has (pages ++ page ∷ []) name
has-before [] page name is = absurd is
has-before (p ∷ pages) page name (inl is) = inl is
has-before (p ∷ pages) page name (inr is) = inr (has-before pages page name is)

-- ---- pages that differ in their pasts alone

abbrev pub Alike : List Page → List Page → Type 0
Alike [] [] = ⊤
Alike [] (page ∷ pages) = ⊥
Alike (page ∷ pages) [] = ⊥
Alike (page ∷ pages) (page' ∷ pages') = (page.name ≡ page'.name) × (page.terms ≡ page'.terms)
    × Alike pages pages'

pub Alike-same : (pages : List Page) → Alike pages pages
Alike-same [] = tt
Alike-same (page ∷ pages) = (refl, refl, Alike-same pages)

pub Alike-at : (before : List Page) (page page' : Page) (behind : List Page)
    → page.name ≡ page'.name → page.terms ≡ page'.terms
    → Alike (before ++ page ∷ behind) (before ++ page' ∷ behind)
Alike-at [] page page' behind name terms = (name, terms, Alike-same behind)
Alike-at (p ∷ before) page page' behind name terms =
    (refl, refl, Alike-at before page page' behind name terms)

Alike-swap : (pages pages' : List Page) → Alike pages pages' → Alike pages' pages
Alike-swap [] [] alike = tt
Alike-swap [] (page ∷ pages) alike = absurd alike
Alike-swap (page ∷ pages) [] alike = absurd alike
Alike-swap (page ∷ pages) (page' ∷ pages') alike =
    (sym alike.0, sym alike.1, Alike-swap pages pages' alike.2)

Alike-has : (pages pages' : List Page) (name : List ℕ) → Alike pages pages' → has pages name
    → has pages' name
Alike-has [] pages' name alike is = absurd is
Alike-has (page ∷ pages) [] name alike is = absurd alike
Alike-has (page ∷ pages) (page' ∷ pages') name alike (inl is) = inl (sym alike.0 ∙ is)
Alike-has (page ∷ pages) (page' ∷ pages') name alike (inr is) =
    inr (Alike-has pages pages' name alike.2 is)

Alike-length : (pages pages' : List Page) → Alike pages pages' → length pages' ≡ length pages
Alike-length [] [] alike = refl
Alike-length [] (page ∷ pages) alike = absurd alike
Alike-length (page ∷ pages) [] alike = absurd alike
Alike-length (page ∷ pages) (page' ∷ pages') alike =
    let rest = Alike-length pages pages' alike.2 in omega arith

Alike-own : (n server : ℕ) (pages pages' : List Page) → Alike pages pages'
    → OwnPages n server pages → OwnPages n server pages'
Alike-own n server [] [] alike own = tt
Alike-own n server [] (page ∷ pages) alike own = absurd alike
Alike-own n server (page ∷ pages) [] alike own = absurd alike
Alike-own n server (page ∷ pages) (page' ∷ pages') alike own = (
  ap (λ terms. server_of_key terms.key n) (sym alike.1) ∙ own.0,
  Alike-own n server pages pages' alike.2 own.1,
)

own-push : (n server : ℕ) (pages : List Page) (page : Page) → OwnPages n server pages
    → server_of_key page.terms.key n ≡ server → OwnPages n server (pages ++ page ∷ [])
own-push n server [] page own is = (is, tt)
own-push n server (p ∷ pages) page own is = (own.0, own-push n server pages page own.1 is)

pub own-at : (n server : ℕ) (before : List Page) (page : Page) (behind : List Page)
    → OwnPages n server (before ++ page ∷ behind) → server_of_key page.terms.key n ≡ server
own-at n server [] page behind own = own.0
own-at n server (p ∷ before) page behind own = own-at n server before page behind own.1

-- ---- homes

pub count-more : (script more : List Line)
    → page_count (script ++ more) ≡ page_count script + page_count more
count-more [] more = omega arith
count-more (lines.Limits limits ∷ script) more = count-more script more
count-more (lines.Page page ∷ script) more =
    let rest = count-more script more in omega arith
count-more (lines.Step moment name ∷ script) more = count-more script more

pub count-none : (script more : List Line) → page_count more ≡ 0
    → page_count (script ++ more) ≡ page_count script
count-none script more none = let count = count-more script more in omega arith

cond-swap : (one other : Bool) (s t : Option ℕ) (rest : Option ℕ)
    → (one ≡ true → other ≡ true → ⊥)
    → cond one s (cond other t rest) ≡ cond other t (cond one s rest)
cond-swap true true s t rest apart = absurd (apart refl refl)
cond-swap true false s t rest apart = refl
cond-swap false true s t rest apart = refl
cond-swap false false s t rest apart = refl

module _ (n : ℕ) where
  -- no page more, no home more
  pub home-silent : (script more : List Line) (name : List ℕ) → home_of n more name ≡ None
      → home_of n (script ++ more) name ≡ home_of n script name
  home-silent [] more name silent = silent
  home-silent (lines.Limits limits ∷ script) more name silent = home-silent script more name silent
  home-silent (lines.Page page ∷ script) more name silent =
      ap (λ (rest : Option ℕ). cond (bytes_eq page.name name) (Some (server_of_key page.key n)) rest)
      (home-silent script more name silent)
  home-silent (lines.Step moment other ∷ script) more name silent =
      home-silent script more name silent

  -- a page more
  pub home-push : (script : List Line) (page : PageLine) (name : List ℕ)
      → home_of n script page.name ≡ None
      → home_of n (script ++ lines.Page page ∷ []) name
      ≡ cond (bytes_eq page.name name) (Some (server_of_key page.key n)) (home_of n script name)
  home-push [] page name none = refl
  home-push (lines.Limits limits ∷ script) page name none = home-push script page name none
  home-push (lines.Page p ∷ script) page name none =
      let parts = cond_none (bytes_eq p.name page.name) (server_of_key p.key n)
      (home_of n script page.name) none in
      ap (λ (rest : Option ℕ). cond (bytes_eq p.name name) (Some (server_of_key p.key n)) rest)
      (home-push script page name parts.1)
      ∙ cond-swap (bytes_eq p.name name) (bytes_eq page.name name)
      (Some (server_of_key p.key n)) (Some (server_of_key page.key n)) (home_of n script name)
      (λ one other. not_from_Decides (bytes_eq p.name page.name) (bytes_eq-Decides p.name page.name)
      parts.0 ((bytes_eq-Decides p.name name).0 one ∙ sym ((bytes_eq-Decides page.name name).0 other)))
  home-push (lines.Step moment other ∷ script) page name none = home-push script page name none

  -- ---- the names after a line

  -- lines without a page change pasts alone
  pub NamesStand-alike : (run run' : FarmRun) (more : List Line) → NamesStand n run
      → run'.script ≡ run.script ++ more
      → ((name : List ℕ) → home_of n more name ≡ None) → page_count more ≡ 0
      → ((server : ℕ) → server < n → Alike (run.worlds server).pages (run'.worlds server).pages)
      → NamesStand n run'
  NamesStand-alike run run' more names script silent none alike = record {
    homes = λ server below name. (
      λ named. home name ∙ (names.homes server below name).0
          (has-to (run.worlds server).pages name
          (Alike-has (run'.worlds server).pages (run.worlds server).pages name
          (Alike-swap (run.worlds server).pages (run'.worlds server).pages (alike server below))
          (has-from (run'.worlds server).pages name named))),
      λ is. has-to (run'.worlds server).pages name
          (Alike-has (run.worlds server).pages (run'.worlds server).pages name (alike server below)
          (has-from (run.worlds server).pages name
          ((names.homes server below name).1 (sym (home name) ∙ is)))),
    );
    inside = λ name server is. names.inside name server (sym (home name) ∙ is);
    few = λ server below.
        subst (λ (k : ℕ). length (run'.worlds server).pages ≤ k) (sym count)
        (subst (λ (k : ℕ). k ≤ page_count run.script)
        (sym (Alike-length (run.worlds server).pages (run'.worlds server).pages (alike server below)))
        (names.few server below));
    own = λ server below. Alike-own n server (run.worlds server).pages (run'.worlds server).pages
        (alike server below) (names.own server below);
  }
    where
      home : (name : List ℕ) → home_of n run'.script name ≡ home_of n run.script name
      home name = ap (λ (s : List Line). home_of n s name) script
          ∙ home-silent run.script more name (silent name)

      count : page_count run'.script ≡ page_count run.script
      count = let more' = count-more run.script more in
          ap page_count script ∙ omega arith

  -- the run with a page more, on the server of its key, where the world of that server is this
  abbrev pub page_run : FarmRun → PageLine → World → FarmRun
  page_run run page world = record {
    script = run.script ++ lines.Page page ∷ [];
    worlds = put run.worlds (server_of_key page.key n) world;
    printed = run.printed;
  }

  module _ (run : FarmRun) (page : PageLine) (world : World) (names : NamesStand n run)
      (below : server_of_key page.key n < n) (free : home_of n run.script page.name ≡ None)
      (after : world.pages ≡ (run.worlds (server_of_key page.key n)).pages
      ++ new_page (run.worlds (server_of_key page.key n)).limits page ∷ [])
    where
      abbrev here : ℕ
      here = server_of_key page.key n

      abbrev added : Page
      added = new_page (run.worlds here).limits page

      abbrev now : FarmRun
      now = page_run run page world

      -- the pages of a server after the line
      pages-cases : (server : ℕ)
          → ((server ≡ here) × ((now.worlds server).pages ≡ (run.worlds server).pages ++ added ∷ []))
          ⊎ ((server ≢ here) × ((now.worlds server).pages ≡ (run.worlds server).pages))
      pages-cases server = of (same_or_other server here)
        where
          of : (server ≡ here) ⊎ (server ≢ here)
              → ((server ≡ here)
              × ((now.worlds server).pages ≡ (run.worlds server).pages ++ added ∷ []))
              ⊎ ((server ≢ here) × ((now.worlds server).pages ≡ (run.worlds server).pages))
          of (inl same) = inl (
            same,
            ap (λ (k : ℕ). (now.worlds k).pages) same
                ∙ ap (λ (w : World). w.pages) (put-same run.worlds here world) ∙ after
                ∙ ap (λ (k : ℕ). (run.worlds k).pages ++ added ∷ []) (sym same),
          )
          of (inr apart) = inr (
            apart,
            ap (λ (w : World). w.pages) (put-other run.worlds here server world apart),
          )

      some-same : (a b : ℕ) → Some a ≡ Some b → a ≡ b
      some-same a b is = cc

      homes-of : (server : ℕ) → server < n → (name : List ℕ) (test : Bool)
          → bytes_eq page.name name ≡ test
          → ((server ≡ here) × ((now.worlds server).pages ≡ (run.worlds server).pages ++ added ∷ []))
          ⊎ ((server ≢ here) × ((now.worlds server).pages ≡ (run.worlds server).pages))
          → has (now.worlds server).pages name
          ↔ (cond test (Some here) (home_of n run.script name) ≡ Some server)
      homes-of server inside name true is (inl (same, pages)) = (
        λ named. ap Some (sym same),
        λ home. subst (λ (ps : List Page). has ps name) (sym pages)
            (has-at (run.worlds server).pages added [] name
            ((bytes_eq-Decides page.name name).0 is)),
      )
      homes-of server inside name true is (inr (apart, pages)) = (
        λ named. absurd (taken named),
        λ home. absurd (apart (sym (some-same here server home))),
      )
        where
          taken : has (now.worlds server).pages name → ⊥
          taken named =
              let home = (names.homes server inside name).0 (has-to (run.worlds server).pages name
              (subst (λ (ps : List Page). has ps name) pages named)) in
              let none = subst (λ (t : List ℕ). home_of n run.script t ≡ None)
              ((bytes_eq-Decides page.name name).0 is) free in
              let e : Some server ≡ None = sym home ∙ none in cc
      homes-of server inside name false is (inl (same, pages)) = (
        λ named. old (has-behind (run.worlds server).pages added name
            (subst (λ (ps : List Page). has ps name) pages named)),
        λ home. subst (λ (ps : List Page). has ps name) (sym pages)
            (has-before (run.worlds server).pages added name
            (has-from (run.worlds server).pages name ((names.homes server inside name).1 home))),
      )
        where
          old : has (run.worlds server).pages name ⊎ (page.name ≡ name)
              → home_of n run.script name ≡ Some server
          old (inl named) =
              (names.homes server inside name).0 (has-to (run.worlds server).pages name named)
          old (inr same) = absurd (not_from_Decides (bytes_eq page.name name)
              (bytes_eq-Decides page.name name) is same)
      homes-of server inside name false is (inr (apart, pages)) = (
        λ named. (names.homes server inside name).0 (has-to (run.worlds server).pages name
            (subst (λ (ps : List Page). has ps name) pages named)),
        λ home. subst (λ (ps : List Page). has ps name) (sym pages)
            (has-from (run.worlds server).pages name ((names.homes server inside name).1 home)),
      )

      home-inside : (test : Bool) (home : Option ℕ) (server : ℕ)
          → ((k : ℕ) → home ≡ Some k → k < n) → cond test (Some here) home ≡ Some server
          → server < n
      home-inside true home server old is =
          subst (λ (k : ℕ). k < n) (some-same here server is) below
      home-inside false home server old is = old server is

      few-of : (server : ℕ) → server < n
          → ((server ≡ here) × ((now.worlds server).pages ≡ (run.worlds server).pages ++ added ∷ []))
          ⊎ ((server ≢ here) × ((now.worlds server).pages ≡ (run.worlds server).pages))
          → length (now.worlds server).pages ≤ page_count now.script
      few-of server inside (inl (same, pages)) =
          let few = names.few server inside in
          let count = count-more run.script (lines.Page page ∷ []) in
          let long = ap length pages in
          omega (arith, length-append (run.worlds server).pages (added ∷ []))
      few-of server inside (inr (apart, pages)) =
          let few = names.few server inside in
          let count = count-more run.script (lines.Page page ∷ []) in
          let long = ap length pages in
          omega arith

      own-of : (server : ℕ) → server < n
          → ((server ≡ here) × ((now.worlds server).pages ≡ (run.worlds server).pages ++ added ∷ []))
          ⊎ ((server ≢ here) × ((now.worlds server).pages ≡ (run.worlds server).pages))
          → OwnPages n server (now.worlds server).pages
      own-of server inside (inl (same, pages)) =
          subst (OwnPages n server) (sym pages)
          (own-push n server (run.worlds server).pages added (names.own server inside) (sym same))
      own-of server inside (inr (apart, pages)) =
          subst (OwnPages n server) (sym pages) (names.own server inside)

      pub NamesStand-page : NamesStand n now
      NamesStand-page = record {
        homes = λ server inside name.
            let both = homes-of server inside name (bytes_eq page.name name) refl
            (pages-cases server) in
            let home = home-push run.script page name free in (
              λ named. home ∙ both.0 (has-from (now.worlds server).pages name named),
              λ is. has-to (now.worlds server).pages name (both.1 (sym home ∙ is)),
            );
        inside = λ name server is.
            home-inside (bytes_eq page.name name) (home_of n run.script name) server
            (names.inside name) (sym (home-push run.script page name free) ∙ is);
        few = λ server inside. few-of server inside (pages-cases server);
        own = λ server inside. own-of server inside (pages-cases server);
      }
