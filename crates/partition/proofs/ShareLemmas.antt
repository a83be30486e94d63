-- The script of a farm and one line more: whose the lines are.
use Rattle.std.proofs.Common.{◌≡◌, ◌≢◌, ℕ, Bool, true, false, cond, List, [], ◌∷◌, ◌++◌, Option, Some, None, refl, sym, ap, ◌∙◌, subst, append_assoc, append-nil}
use Rattle.std.specs.Prelude.{filter, ⊤}
use Rattle.std.specs.List.{AllByRecursion}
use Rattle.std.specs.Str.{bytes_eq}
use Rattle.std.proofs.lemmas.List.Elements.{filter-append}
use Rattle.placement.specs.Placement.{server_of_key}
use Rattle.page_script.specs.declared.line.Line.{Line}
use Rattle.page_script.specs.declared.line.Line.TheVariants as lines
use Rattle.partition.specs.Shares.{home_of, MayFollow, EachFollows, is_home, is_for, share, homes_in}

pub cond_none : (b : Bool) (s : ℕ) (rest : Option ℕ) → cond b (Some s) rest ≡ None
    → (b ≡ false) × (rest ≡ None)
cond_none true s rest none = cc
cond_none false s rest none = (refl, none)

cond_some : (b : Bool) (s t : ℕ) (rest rest' : Option ℕ) → cond b (Some s) rest ≡ Some t
    → (rest ≡ Some t → rest' ≡ Some t) → cond b (Some s) rest' ≡ Some t
cond_some true s t rest rest' is follows = is
cond_some false s t rest rest' is follows = follows is

is_some : (o : Option ℕ) → o ≢ None → (s : ℕ) × (o ≡ Some s)
is_some (Some s) some = (s, refl)
is_some None some = absurd (some refl)

filter-same : {X : Type 0} (p q : X → Bool) (xs : List X) → AllByRecursion (λ x. p x ≡ q x) xs
    → filter p xs ≡ filter q xs
filter-same p q [] same = refl
filter-same p q (x ∷ xs) same =
    ap (λ b. cond b (x ∷ filter p xs) (filter p xs)) same.0
    ∙ ap (λ ys. cond (q x) (x ∷ ys) ys) (filter-same p q xs same.1)

module _ (n : ℕ) where
  -- ---- homes

  pub home-none : (script more : List Line) (name : List ℕ) → home_of n script name ≡ None
      → home_of n (script ++ more) name ≡ home_of n more name
  home-none [] more name none = refl
  home-none (lines.Limits limits ∷ script) more name none = home-none script more name none
  home-none (lines.Page page ∷ script) more name none =
      let parts = cond_none (bytes_eq page.name name) (server_of_key page.key n)
      (home_of n script name) none in
      ap (λ b. cond b (Some (server_of_key page.key n)) (home_of n (script ++ more) name)) parts.0
      ∙ home-none script more name parts.1
  home-none (lines.Step moment name' ∷ script) more name none = home-none script more name none

  pub home-some : (script more : List Line) (name : List ℕ) (s : ℕ)
      → home_of n script name ≡ Some s → home_of n (script ++ more) name ≡ Some s
  home-some [] more name s is = cc
  home-some (lines.Limits limits ∷ script) more name s is = home-some script more name s is
  home-some (lines.Page page ∷ script) more name s is =
      cond_some (bytes_eq page.name name) (server_of_key page.key n) s (home_of n script name)
      (home_of n (script ++ more) name) is (home-some script more name s)
  home-some (lines.Step moment name' ∷ script) more name s is = home-some script more name s is

  pub home-same : (script more : List Line) (name : List ℕ) → home_of n script name ≢ None
      → home_of n (script ++ more) name ≡ home_of n script name
  home-same script more name some =
      let has = is_some (home_of n script name) some in
      home-some script more name has.0 has.1 ∙ sym has.1

  -- a step is of a page of the script
  abbrev pub IsHomed : List Line → Line → Type 0
  IsHomed script (lines.Limits limits) = ⊤
  IsHomed script (lines.Page page) = ⊤
  IsHomed script (lines.Step moment name) = home_of n script name ≢ None

  IsHomed-may : (script more : List Line) (line : Line) → MayFollow n script line
      → IsHomed (script ++ more) line
  IsHomed-may script more (lines.Limits limits) may = tt
  IsHomed-may script more (lines.Page page) may = tt
  IsHomed-may script more (lines.Step moment name) may =
      λ none. may (sym (home-same script more name may) ∙ none)

  pub each-homed : (before script : List Line) → EachFollows n before script
      → AllByRecursion (IsHomed (before ++ script)) script
  each-homed before [] follow = tt
  each-homed before (line ∷ script) follow = (
    IsHomed-may before (line ∷ script) line follow.0,
    subst (λ whole. AllByRecursion (IsHomed whole) script)
        (append_assoc before (line ∷ []) script)
        (each-homed (before ++ line ∷ []) script follow.1),
  )

  pub EachFollows-push : (before script : List Line) (line : Line) → EachFollows n before script
      → MayFollow n (before ++ script) line → EachFollows n before (script ++ line ∷ [])
  EachFollows-push before [] line follow may =
      (subst (λ s. MayFollow n s line) (append-nil before) may, tt)
  EachFollows-push before (l ∷ script) line follow may = (
    follow.0,
    EachFollows-push (before ++ l ∷ []) script line follow.1
        (subst (λ s. MayFollow n s line) (sym (append_assoc before (l ∷ []) script)) may),
  )

  -- ---- shares

  is_for-same : (script more : List Line) (server : ℕ) (line : Line) → IsHomed script line
      → is_for n (script ++ more) server line ≡ is_for n script server line
  is_for-same script more server (lines.Limits limits) homed = refl
  is_for-same script more server (lines.Page page) homed = refl
  is_for-same script more server (lines.Step moment name) homed =
      ap (λ home. is_home n home server) (home-same script more name homed)

  each-same : (script more some : List Line) (server : ℕ) → AllByRecursion (IsHomed script) some
      → AllByRecursion (λ line. is_for n (script ++ more) server line ≡ is_for n script server line)
      some
  each-same script more [] server homed = tt
  each-same script more (line ∷ some) server homed =
      (is_for-same script more server line homed.0, each-same script more some server homed.1)

  -- the share of a server with one line more, if that is for it
  pub share-push : (script : List Line) (line : Line) (server : ℕ) → EachFollows n [] script
      → share n (script ++ line ∷ []) server
      ≡ share n script server ++ cond (is_for n (script ++ line ∷ []) server line) (line ∷ []) []
  share-push script line server follow =
      filter-append (is_for n (script ++ line ∷ []) server) script (line ∷ [])
      ∙ ap (λ front. front ++ cond (is_for n (script ++ line ∷ []) server line) (line ∷ []) [])
      (filter-same (is_for n (script ++ line ∷ []) server) (is_for n script server) script
      (each-same script (line ∷ []) script server (each-homed [] script follow)))

  -- ---- the order of the steps

  homes_in-same : (script more some : List Line) → AllByRecursion (IsHomed script) some
      → homes_in n (script ++ more) some ≡ homes_in n script some
  homes_in-same script more [] homed = refl
  homes_in-same script more (lines.Limits limits ∷ some) homed =
      homes_in-same script more some homed.1
  homes_in-same script more (lines.Page page ∷ some) homed =
      homes_in-same script more some homed.1
  homes_in-same script more (lines.Step moment name ∷ some) homed =
      ap (λ home. home ∷ homes_in n (script ++ more) some) (home-same script more name homed.0)
      ∙ ap (λ homes. home_of n script name ∷ homes) (homes_in-same script more some homed.1)

  homes_in-append : (whole some more : List Line)
      → homes_in n whole (some ++ more) ≡ homes_in n whole some ++ homes_in n whole more
  homes_in-append whole [] more = refl
  homes_in-append whole (lines.Limits limits ∷ some) more = homes_in-append whole some more
  homes_in-append whole (lines.Page page ∷ some) more = homes_in-append whole some more
  homes_in-append whole (lines.Step moment name ∷ some) more =
      ap (λ homes. home_of n whole name ∷ homes) (homes_in-append whole some more)

  pub homes_in-push : (script : List Line) (line : Line) → EachFollows n [] script
      → homes_in n (script ++ line ∷ []) (script ++ line ∷ [])
      ≡ homes_in n script script ++ homes_in n (script ++ line ∷ []) (line ∷ [])
  homes_in-push script line follow =
      homes_in-append (script ++ line ∷ []) script (line ∷ [])
      ∙ ap (λ homes. homes ++ homes_in n (script ++ line ∷ []) (line ∷ []))
      (homes_in-same script (line ∷ []) script (each-homed [] script follow))
