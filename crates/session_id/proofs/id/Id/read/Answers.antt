use Rattle.std.proofs.Common.{◌≡◌, ◌<◌, List, ℕ, map, true, Some, All, sym, ap, ◌∙◌, subst}
use Rattle.std.proofs.lemmas.Option.{none-some, same_Some}
use Rattle.session_id.specs.Identifiers.{digit_of, digits, is_text, number, IsTextOf}
use Rattle.session_id.proofs.IdentifierLemmas.{All-digit_of, exact-none, exact-some, IsTextOf-digits}
use Rattle.session_id.proofs.id.Id.read.Goals as goal

pub returns-in_err-digits-clause-exact : goal.returns-in_err-digits-clause-exact
returns-in_err-digits-clause-exact c =
    rw c.from_residual.ensures (λ id ok. (
      λ e. absurd (none-some id e),
      λ e. absurd (exact-none c.args.text.now id c.in_err-digits.ensures.found ok e),
    ))

pub number_of_digits-requires-clause-below : goal.number_of_digits-requires-clause-below
number_of_digits-requires-clause-below c =
    subst (All (λ d. d < 32)) (sym c.in_ok-digits.ensures.value)
    (All-digit_of c.args.text.now (sym c.in_ok-digits.ensures.found))

reads : (text ds bytes : List ℕ) (n : ℕ) → true ≡ is_text text → ds ≡ map digit_of text
    → n ≡ number 32 ds
    → bytes ≡ digits 256 15 n → IsTextOf bytes text
reads text ds bytes n is mapped value written =
    let same : bytes ≡ digits 256 15 (number 32 (map digit_of text)) =
    written ∙ ap (digits 256 15) (value ∙ ap (number 32) mapped) in
    subst (λ (b : List ℕ). IsTextOf b text) (sym same) (IsTextOf-digits text (sym is))

pub returns-clause-value : goal.returns-clause-value
returns-clause-value c =
    reads c.args.text.now c.in_ok-digits.digits c.write_digits.new.digits c.number_of_digits.result
    c.in_ok-digits.ensures.found c.in_ok-digits.ensures.value c.number_of_digits.ensures
    c.write_digits.ensures

pub returns-clause-exact : goal.returns-clause-exact
returns-clause-exact c id ok =
    let both = exact-some c.write_digits.new.digits c.args.text.now id (returns-clause-value c)
    ok in (
      λ e. both.0 (same_Some c.write_digits.new.digits id e),
      λ e. ap Some (both.1 e),
    )
