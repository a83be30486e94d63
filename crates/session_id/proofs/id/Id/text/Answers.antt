use Rattle.std.proofs.Common.{◌≡◌, ◌<◌, List, ℕ, length, get_or, map, All, arith, sym, ap, ◌∙◌, subst}
use Rattle.std.proofs.lemmas.List.Elements.{All-get_or}
use Rattle.session_id.specs.Identifiers.{character_of, digits, number, text_of, IsId, IsTextOf}
use Rattle.session_id.proofs.NumberLemmas.{map-from_each}
use Rattle.session_id.proofs.IdentifierLemmas.{All-digits, length-digits, IsTextOf-text_of}
use Rattle.session_id.proofs.id.Id.text.Goals as goal

pub bounds-digits : goal.bounds-digits
bounds-digits c =
    let ds = c.write_digits.new.digits in
    let below : All (λ d. d < 32) ds =
    subst (All (λ d. d < 32)) (sym c.write_digits.ensures)
    (All-digits 32 24 c.number_of_bytes.result (omega arith)) in
    let size : length ds ≡ 24 = ap length c.write_digits.ensures
    ∙ length-digits 32 24 c.number_of_bytes.result in
    All-get_or (λ d. d < 32) ds c.loop-i.i 0 (omega arith) below

written : (text ds bytes now : List ℕ) (n : ℕ) → length text ≡ 24
    → ((k : ℕ) → k < 24 → get_or text k 0 ≡ character_of (get_or ds k 0))
    → ds ≡ digits 32 24 n → n ≡ number 256 bytes → bytes ≡ now → text ≡ text_of now
unfolding text_of
written text ds bytes now n size each is value view =
    let count : length ds ≡ 24 = ap length is ∙ length-digits 32 24 n in
    let mapped = map-from_each character_of ds text (size ∙ sym count)
    (λ k lt. each k (omega arith)) in
    let same : ds ≡ digits 32 24 (number 256 now) = is
    ∙ ap (digits 32 24) (value ∙ ap (number 256) view) in
    mapped ∙ ap (map character_of) same

pub returns-clause-value : goal.returns-clause-value
returns-clause-value c =
    written c.loop-i.text c.write_digits.new.digits c.self.inside.bytes c.args.self.now
    c.number_of_bytes.result
    c.loop-i.invariant.size (λ k lt. c.loop-i.invariant.written k (omega arith))
    c.write_digits.ensures c.number_of_bytes.ensures.number c.self.view_is

pub returns-clause-written : goal.returns-clause-written
returns-clause-written c =
    let value = returns-clause-value c in
    let inside : IsId c.self.inside.bytes = record {
      length = c.self.told;
      range =
          c.number_of_bytes.ensures.range;
    } in
    let id : IsId c.args.self.now = subst IsId c.self.view_is inside in
    subst (IsTextOf c.args.self.now) (sym value) (IsTextOf-text_of c.args.self.now id)
