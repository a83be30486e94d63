use Rattle.std.proofs.Common.{◌≡◌, ℕ, List, suc, ◌+◌, sym, ap, ◌∙◌, arith, subst}
use Rattle.std.specs.Str.{bytes_eq}
use Rattle.session_machine.specs.declared.item.Item.{Item}
use Rattle.keeper.specs.Pairs.{IsPlaceOf}
use Rattle.keeper.proofs.PairLemmas.{place_here, place_later, item_at-later}
use Rattle.keeper.proofs.pairs.place.Goals as goal

pub returns-then-eq : goal.returns-then-eq
returns-then-eq c =
    let pairs = c.args.pairs.now in
    let key = c.args.key.now in
    let i = c.loop-i.i in
    let pair = c.index-pairs-i.result in
    let found = c.loop-i.invariant.place 0 (place_here pairs key i pair c.loop-i-test.true
    (ap (λ (p : List ℕ × Item). bytes_eq key p.0) (sym c.index-pairs-i.is)
    ∙ sym c.if-eq.ensures)) in
    let at : i + 0 ≡ i = omega arith in
    subst (IsPlaceOf pairs key) at found

pub loop-i-preserved : goal.loop-i-preserved
loop-i-preserved c =
    let pairs = c.args.pairs.now in
    let key = c.args.key.now in
    let i = c.loop-i.i in
    let pair = c.index-pairs-i.result in
    let other = ap (λ (p : List ℕ × Item). bytes_eq key p.0) (sym c.index-pairs-i.is)
    ∙ sym c.if-eq.ensures in
    record {
      rest = c.loop-i.invariant.rest ∙ item_at-later pairs key i pair c.loop-i-test.true other;
      place = λ n later.
          let at : i + suc n ≡ i + 1 + n = omega arith in
          subst (IsPlaceOf pairs key) at (c.loop-i.invariant.place (suc n)
          (place_later pairs key i pair n c.loop-i-test.true other later));
    }
