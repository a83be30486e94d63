-- The scripts of a farm and the worlds of its servers, place by place.
use Rattle.std.proofs.Common.{◌≡◌, ◌≢◌, ℕ, ◌+◌, ◌<◌, ◌≤◌, List, [], ◌∷◌, ◌++◌, length, get_or, set, refl, sym, ap, ◌∙◌, arith, subst, inl, inr, length-append, cond, true, false, Bool, zero, suc, take, Option, Some, None}
use Rattle.std.specs.Prelude.{◌==◌, ◌⊎◌, MatchOption, is_some}
use Rattle.std.proofs.lemmas.Bool.Decides.{nat_tests}
use Rattle.std.proofs.lemmas.List.{get_or-set_same, get_or-set_other, get_or_append_left, length-set, set-get_or}
use Rattle.std.proofs.Math.Seq.{get_or-append_seam}
use Rattle.keeper.specs.declared.keeping.Keeper.{Ghosts}
use Rattle.visit_core.specs.declared.visit_terms.Limits.{Limits}
use Rattle.page_script.specs.declared.line.Line.TheVariants as lines
use Rattle.page_script.specs.declared.script.Script.{Script}
use Rattle.page_script.specs.World.{World}
use Rattle.page_script.specs.ScriptStands.{ScriptStands, EachWorldTakes}
use Rattle.partition.specs.FarmStands.{ScriptsStand}
use Rattle.partition.specs.Limited.{limited}

-- ---- numbers

pub same_number : (a b : ℕ) → (a == b) ≡ true → a ≡ b
same_number a b is = grind (arith, nat_tests)

pub other_number : (a b : ℕ) → (a == b) ≡ false → a ≢ b
other_number a b is = λ e. grind (arith, nat_tests)

pub is_number : (a : ℕ) → (a == a) ≡ true
is_number a = grind (arith, nat_tests)

pub is_other : (a b : ℕ) → a ≢ b → (a == b) ≡ false
is_other a b apart = grind (arith, nat_tests)

pub same_or_other : (a b : ℕ) → (a ≡ b) ⊎ (a ≢ b)
same_or_other a b = of (a == b) refl
  where
    of : (test : Bool) → (a == b) ≡ test → (a ≡ b) ⊎ (a ≢ b)
    of true is = inl (same_number a b is)
    of false is = inr (other_number a b is)

-- ---- one world more

-- the worlds with this one in the place of that of the server
abbrev pub put : (ℕ → World) → ℕ → World → ℕ → World
put worlds server world other = cond (other == server) world (worlds other)

pub put-same : (worlds : ℕ → World) (server : ℕ) (world : World)
    → put worlds server world server ≡ world
put-same worlds server world =
    ap (λ (test : Bool). cond test world (worlds server)) (is_number server)

pub put-other : (worlds : ℕ → World) (server other : ℕ) (world : World) → other ≢ server
    → put worlds server world other ≡ worlds other
put-other worlds server other world apart =
    ap (λ (test : Bool). cond test world (worlds other)) (is_other other server apart)

-- an element that is there is there whatever stands for one that is not
pub there-same : {X : Type 0} (xs : List X) (n : ℕ) (x y : X) → x ≡ get_or xs n y → n < length xs
    → x ≡ get_or xs n x
there-same [] n x y is inside = absurd (omega arith)
there-same (z ∷ xs) zero x y is inside = is
there-same (z ∷ xs) (suc n) x y is inside = there-same xs n x y is (omega arith)

-- the element at a place, in its place
pub set-stays : {X : Type 0} (xs : List X) (n : ℕ) (x y : X) → y ≡ x → x ≡ get_or xs n x
    → set xs n y ≡ xs
set-stays xs n x y same is = ap (λ z. set xs n z) (same ∙ is) ∙ set-get_or xs n x

take-front : (xs ys : List ℕ) → take (length xs) (xs ++ ys) ≡ xs
take-front [] ys = refl
take-front (x ∷ xs) ys = ap (λ l. x ∷ l) (take-front xs ys)

-- what was appended is taken off again
pub cut-back : (len : ℕ) (old numbered stepped cut number : List ℕ) → len ≡ length old
    → numbered ≡ old ++ number → stepped ≡ numbered → cut ≡ take len stepped → cut ≡ old
cut-back len old numbered stepped cut number len-is is same cuts =
    cuts ∙ ap (λ (n : ℕ). take n stepped) len-is ∙ ap (λ t. take (length old) t) (same ∙ is)
    ∙ take-front old number

-- ---- what was found

pub found-some : (P P' : Type 0) (Q Q' : ℕ → Type 0) (found : Option ℕ) (answer : Bool)
    → answer ≡ is_some found → answer ≡ true → MatchOption found P Q → MatchOption found P' Q'
    → (server : ℕ) × Q server × Q' server
found-some P P' Q Q' None answer is so holds inside = absurd (none (sym so ∙ is))
  where
    none : true ≡ false → ⊥
    none e = cc
found-some P P' Q Q' (Some server) answer is so holds inside = (server, holds, inside)

pub found-none : (P : Type 0) (Q : ℕ → Type 0) (found : Option ℕ) (answer : Bool)
    → answer ≡ is_some found → answer ≡ false → MatchOption found P Q → P
found-none P Q None answer is not holds = holds
found-none P Q (Some server) answer is not holds = absurd (some (sym not ∙ is))
  where
    some : false ≡ true → ⊥
    some e = cc

module _ {K : Type 0} (G : Ghosts K) where
  -- the script of one server has changed
  pub ScriptsStand-set : (scripts : List (Script K)) (worlds : ℕ → World) (server : ℕ)
      (script' : Script K) (world' : World) → ScriptsStand G scripts worlds
      → server < length scripts → ScriptStands G script' world'
      → ScriptsStand G (set scripts server script') (put worlds server world')
  ScriptsStand-set scripts worlds server script' world' stand inside new other script below is =
      of (same_or_other other server)
    where
      of : (other ≡ server) ⊎ (other ≢ server)
          → ScriptStands G script (put worlds server world' other)
      of (inl same) =
          subst (λ (n : ℕ). ScriptStands G script (put worlds server world' n)) (sym same)
          (subst (ScriptStands G script) (sym (put-same worlds server world'))
          (subst (λ (s : Script K). ScriptStands G s world') (sym (is
          ∙ ap (λ (n : ℕ). get_or (set scripts server script') n script) same
          ∙ get_or-set_same scripts server script' script inside)) new))
      of (inr apart) =
          subst (ScriptStands G script) (sym (put-other worlds server other world' apart))
          (stand other script (omega (arith, below, length-set scripts server script'))
          (is ∙ get_or-set_other scripts server other script' script apart))

  -- the script of one server stands for another world
  pub ScriptsStand-stays : (scripts : List (Script K)) (worlds : ℕ → World) (server : ℕ)
      (script' : Script K) → ScriptsStand G scripts worlds
      → server < length scripts → ScriptStands G script' (worlds server)
      → ScriptsStand G (set scripts server script') worlds
  ScriptsStand-stays scripts worlds server script' stand inside new other script below is =
      of (same_or_other other server)
    where
      of : (other ≡ server) ⊎ (other ≢ server) → ScriptStands G script (worlds other)
      of (inl same) =
          subst (λ (n : ℕ). ScriptStands G script (worlds n)) (sym same)
          (subst (λ (s : Script K). ScriptStands G s (worlds server)) (sym (is
          ∙ ap (λ (n : ℕ). get_or (set scripts server script') n script) same
          ∙ get_or-set_same scripts server script' script inside)) new)
      of (inr apart) =
          stand other script (omega (arith, below, length-set scripts server script'))
          (is ∙ get_or-set_other scripts server other script' script apart)

  -- a script more, behind the others
  pub ScriptsStand-push : (scripts : List (Script K)) (worlds : ℕ → World) (script' : Script K)
      → ScriptsStand G scripts worlds → ScriptStands G script' (worlds (length scripts))
      → ScriptsStand G (scripts ++ script' ∷ []) worlds
  ScriptsStand-push scripts worlds script' stand new other script below is =
      of (same_or_other other (length scripts))
    where
      of : (other ≡ length scripts) ⊎ (other ≢ length scripts)
          → ScriptStands G script (worlds other)
      of (inl same) =
          subst (λ (n : ℕ). ScriptStands G script (worlds n)) (sym same)
          (subst (λ (s : Script K). ScriptStands G s (worlds (length scripts))) (sym (is
          ∙ ap (λ (n : ℕ). get_or (scripts ++ script' ∷ []) n script) same
          ∙ get_or-append_seam scripts script' [] script)) new)
      of (inr apart) =
          let inside : other < length scripts =
          omega (arith, below, length-append scripts (script' ∷ []), apart) in
          stand other script inside (is ∙ get_or_append_left scripts (script' ∷ []) script other inside)

  -- ---- limits for each

  -- the scripts before the place stand for worlds with the limits, and the others for those of old
  pub record LimitedUpTo (limits : Limits) (worlds : ℕ → World) (place : ℕ)
      (scripts : List (Script K)) : Type 0 where
    pub before : (server : ℕ) (script : Script K) → server < place → server < length scripts
        → script ≡ get_or scripts server script → ScriptStands G script (limited limits (worlds server))
    pub behind : (server : ℕ) (script : Script K) → place ≤ server → server < length scripts
        → script ≡ get_or scripts server script → ScriptStands G script (worlds server)

  pub LimitedUpTo-more : (limits : Limits) (worlds : ℕ → World) (place : ℕ)
      (scripts : List (Script K)) (old new : Script K) → place < length scripts
      → old ≡ get_or scripts place old
      → EachWorldTakes G old new (lines.Limits limits) (λ printed. printed ≡ [])
      → LimitedUpTo limits worlds place scripts
      → LimitedUpTo limits worlds (place + 1) (set scripts place new)
  LimitedUpTo-more limits worlds place scripts old new inside is takes up = record {
    before = λ server script below within at. before server script below within at
        (same_or_other server place);
    behind = λ server script above within at. up.behind server script (omega arith)
        (omega (arith, within, length-set scripts place new))
        (at ∙ get_or-set_other scripts place server new script (λ e. omega arith));
  }
    where
      took : ScriptStands G new (limited limits (worlds place))
      took =
          let takes = takes (worlds place) (up.behind place old (omega arith) inside is) in
          subst (ScriptStands G new) takes.step.0 takes.stands

      before : (server : ℕ) (script : Script K) → server < place + 1
          → server < length (set scripts place new)
          → script ≡ get_or (set scripts place new) server script
          → (server ≡ place) ⊎ (server ≢ place)
          → ScriptStands G script (limited limits (worlds server))
      before server script below within at (inl same) =
          subst (λ (n : ℕ). ScriptStands G script (limited limits (worlds n))) (sym same)
          (subst (λ (s : Script K). ScriptStands G s (limited limits (worlds place))) (sym (at
          ∙ ap (λ (n : ℕ). get_or (set scripts place new) n script) same
          ∙ get_or-set_same scripts place new script inside)) took)
      before server script below within at (inr apart) =
          up.before server script (omega (arith, below, apart))
          (omega (arith, within, length-set scripts place new))
          (at ∙ get_or-set_other scripts place server new script apart)
