-- How the lines of a head lead to its end.
use Rattle.std.proofs.Common.{◌≡◌, ℕ, ◌<◌, ◌==◌, Bool, true, false, cond, List, [], ◌∷◌, ◌++◌, Option, Some, None, refl, sym, ap, ◌∙◌, arith, append_assoc}
use Rattle.std.specs.Prelude.{IsTrue, All, ◌||◌}
use Rattle.std.specs.List.{flat_map}
use Rattle.std.proofs.lemmas.Bool.Decides.{nat_tests}
use Rattle.std.proofs.lemmas.List.Elements.{All-head, All-tail}
use Rattle.httparse.specs.Ascii.{colon}
use Rattle.httparse.specs.Grammar.{AllPass, is_token_byte, is_value_byte, LineEnd, crlf, lf, print_end, print_blank, Field, print_field, IsField, IsToken, print_section}
use Rattle.message_framing.specs.declared.head.Phase.{Phase}
use Rattle.message_framing.specs.declared.head.Phase.TheVariants.{Blank, Line, Feed, Return}
use Rattle.message_framing.specs.HeadEnd.{after, phase_after, EndsHead}
use Rattle.message_framing.proofs.EndLemmas.{phase_after-more}

-- one part after another
pub then : (p q r : Phase) (xs ys : List ℕ) → phase_after p xs ≡ Some q → phase_after q ys ≡ Some r
    → phase_after p (xs ++ ys) ≡ Some r
then p q r xs ys e f = phase_after-more p q xs ys e ∙ f

-- a byte that passes a test which a line feed doesn't pass
pub no-feed : (test : ℕ → Bool) (b : ℕ) → test 10 ≡ false → IsTrue (test b) → (b == 10) ≡ false
no-feed test b fails passes = by_test (b == 10) refl
  where
    by_test : (t : Bool) → (b == 10) ≡ t → (b == 10) ≡ false
    by_test false e = e
    by_test true e =
        let same : b ≡ 10 = grind (arith, nat_tests) in
        let clash : ◌≡◌ {A = Bool} true false = sym passes ∙ ap test same ∙ fails in
        cc

pub one-line : (b : ℕ) → (b == 10) ≡ false → after Line b ≡ Some Line
one-line b e = ap (λ t. cond t (Some Feed) (Some Line)) e

-- bytes that stay in a line
pub in-line : (test : ℕ → Bool) (xs : List ℕ) → test 10 ≡ false → AllPass test xs
    → phase_after Line xs ≡ Some Line
in-line test [] fails all = refl
in-line test (x ∷ xs) fails all =
    ap (λ o. elim o as (λ _. Option Phase) [ None ↦ None | Some n ↦ phase_after n xs ])
    (one-line x (no-feed test x fails (All-head (λ b. IsTrue (test b)) x xs all)))
    ∙ in-line test xs fails (All-tail (λ b. IsTrue (test b)) x xs all)

-- a byte above those that end lines
pub in-line-one : (b : ℕ) → 13 < b → phase_after Line (b ∷ []) ≡ Some Line
in-line-one b high =
    ap (λ o. elim o as (λ _. Option Phase) [ None ↦ None | Some n ↦ Some n ])
    (one-line b (let e : (b == 10) ≡ false = grind (arith, nat_tests) in e))

-- the end of a line
pub end-line : (e : LineEnd) → phase_after Line (print_end e) ≡ Some Feed
end-line crlf = refl
end-line lf = refl

-- a token begins a line
pub token-line : (p : Phase) (xs : List ℕ) → ((b : ℕ) → (b == 10) ≡ false → (b == 13) ≡ false
    → after p b ≡ Some Line) → IsToken xs → phase_after p xs ≡ Some Line
unfolding is_token_byte
token-line p [] first token = absurd (let fails : ⊥ = omega (arith, token.0) in fails)
token-line p (x ∷ xs) first token =
    ap (λ o. elim o as (λ _. Option Phase) [ None ↦ None | Some n ↦ phase_after n xs ])
    (first x (no-feed is_token_byte x refl (All-head (λ b. IsTrue (is_token_byte b)) x xs token.1))
    (no-return x (All-head (λ b. IsTrue (is_token_byte b)) x xs token.1)))
    ∙ in-line is_token_byte xs refl (All-tail (λ b. IsTrue (is_token_byte b)) x xs token.1)
  where
    no-return : (b : ℕ) → IsTrue (is_token_byte b) → (b == 13) ≡ false
    no-return b passes = by_test (b == 13) refl
      where
        by_test : (t : Bool) → (b == 13) ≡ t → (b == 13) ≡ false
        by_test false e = e
        by_test true e =
            let same : b ≡ 13 = grind (arith, nat_tests) in
            let clash : ◌≡◌ {A = Bool} true false = sym passes ∙ ap is_token_byte same in
            cc

pub feed-line : (b : ℕ) → (b == 10) ≡ false → (b == 13) ≡ false → after Feed b ≡ Some Line
feed-line b e f = ap (λ t. cond t None (cond (b == 13) (Some Return) (Some Line))) e
    ∙ ap (λ t. cond t (Some Return) (Some Line)) f

pub blank-line : (b : ℕ) → (b == 10) ≡ false → (b == 13) ≡ false → after Blank b ≡ Some Line
blank-line b e f = ap (λ t. cond (t || (b == 10)) (Some Blank) (Some Line)) f
    ∙ ap (λ t. cond t (Some Blank) (Some Line)) e

-- a field line
pub field-line : (f : Field) → IsField f → phase_after Feed (print_field f) ≡ Some Feed
field-line f is =
    then Feed Line Feed (f.name ++ colon ∷ f.raw) (print_end f.end)
    (then Feed Line Line f.name (colon ∷ f.raw) (token-line Feed f.name feed-line is.name)
    (in-line is_value_byte f.raw refl is.raw))
    (end-line f.end)

pub field-lines : (fields : List Field) → All IsField fields
    → phase_after Feed (flat_map print_field fields) ≡ Some Feed
field-lines [] all = refl
field-lines (f ∷ fs) all = then Feed Feed Feed (print_field f) (flat_map print_field fs)
    (field-line f (All-head IsField f fs all)) (field-lines fs (All-tail IsField f fs all))

-- the empty lines before a head
pub blank-lines : (ends : List LineEnd) → phase_after Blank (print_blank ends) ≡ Some Blank
blank-lines [] = refl
blank-lines (crlf ∷ ends) = blank-lines ends
blank-lines (lf ∷ ends) = blank-lines ends

-- a section of fields ends a head
pub section-ends : (before : List ℕ) (fields : List Field) (last : LineEnd)
    → phase_after Blank before ≡ Some Feed → All IsField fields
    → EndsHead (before ++ print_section fields last)
section-ends before fields crlf led all = record {
  front = (before ++ flat_map print_field fields) ++ 13 ∷ [];
  phase = Return;
  last = 10;
  bytes_are = sym (append_assoc (before ++ flat_map print_field fields) (13 ∷ []) (10 ∷ [])
      ∙ append_assoc before (flat_map print_field fields) (13 ∷ 10 ∷ []));
  open_before = then Blank Feed Return (before ++ flat_map print_field fields) (13 ∷ [])
      (then Blank Feed Feed before (flat_map print_field fields) led (field-lines fields all)) refl;
  ends = refl;
}
section-ends before fields lf led all = record {
  front = before ++ flat_map print_field fields;
  phase = Feed;
  last = 10;
  bytes_are = sym (append_assoc before (flat_map print_field fields) (10 ∷ []));
  open_before = then Blank Feed Feed before (flat_map print_field fields) led
      (field-lines fields all);
  ends = refl;
}
