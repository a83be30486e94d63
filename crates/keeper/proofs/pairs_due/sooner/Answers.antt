use Rattle.std.proofs.Common.{subst, option_copied}
use Rattle.keeper.specs.Pairs.{IsFirstOf}
use Rattle.keeper.proofs.DueLemmas.{IsFirstPair-none, IsFirstPair-new, expired_if, not_by_test}
use Rattle.keeper.proofs.pairs_due.sooner.Goals as goal
use Rattle.keeper.proofs.pairs_due.sooner.Goals.{in_default-via-in-Some+else-comes_before, in_default-via-in_default}

pub returns-in_default : goal.returns-in_default
returns-in_default c =
    let t = c.args.t in
    let pair = c.args.pair.now in
    let expired = expired_if pair.1 t c.if-live.ensures in
    elim c.in_default.branch [
      | in_default-via-in-Some+else-comes_before w ↦ (λ before was.
          IsFirstPair-new before t w.in-Some.best.now pair
          (subst (λ f. IsFirstOf before t (option_copied f)) w.in-Some.is was) expired
          (not_by_test w.comes_before.result w.comes_before.ensures w.if-comes_before.false))
      | in_default-via-in_default w ↦ (λ before was. IsFirstPair-none before t pair
          (subst (λ f. IsFirstOf before t (option_copied f)) w.in_default.is was) expired)
    ]
