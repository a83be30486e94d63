use Rattle.std.proofs.Common.{◌≡◌, ◌+◌, ◌++◌, ◌∷◌, [], List, ℕ, sym, ap, ◌∙◌, subst, take, option_copied}
use Rattle.std.proofs.lemmas.List.{take_more}
use Rattle.session_machine.specs.declared.item.Item.{Item}
use Rattle.keeper.specs.Pairs.{IsFirstOf}
use Rattle.keeper.proofs.DueLemmas.{IsFirstOf-fits}
use Rattle.keeper.proofs.pairs_due.first_due.Goals as goal

pub loop-pair-preserved : goal.loop-pair-preserved
loop-pair-preserved c =
    let pairs = c.args.pairs.now in
    let i = c.loop-pair.pair-index in
    let pair = c.pair-item.result in
    let more : take (i + 1) pairs ≡ take i pairs ++ pair ∷ [] =
    take_more pairs i pair c.loop-pair-test.true
    ∙ ap (λ (p : List ℕ × Item). take i pairs ++ p ∷ []) (sym c.pair-item.is) in
    subst (λ front. IsFirstOf front c.args.t (option_copied c.sooner-soonest.result)) (sym more)
    (c.sooner-soonest.ensures (take i pairs) c.loop-pair.invariant)

pub sooner-soonest-requires-clause-soonest : goal.sooner-soonest-requires-clause-soonest
sooner-soonest-requires-clause-soonest c =
    IsFirstOf-fits c.args.pairs.now c.loop-pair.pair-index c.args.t
    (option_copied c.loop-pair.soonest) c.requires c.loop-pair.invariant
