use Rattle.std.proofs.Common.{sym, subst}
use Rattle.std.specs.Prelude.{IfSome, Option}
use Rattle.session_machine.specs.declared.item.Item.{Item}
use Rattle.session_machine.specs.Liveness.{ItemFits}
use Rattle.keeper.proofs.MapLemmas.{item_at-fits}
use Rattle.keeper.proofs.pairs.get.Goals as goal

pub returns-in_ok-share-in-Some-clause-fits : goal.returns-in_ok-share-in-Some-clause-fits
returns-in_ok-share-in-Some-clause-fits c =
    let there = subst (λ (o : Option Item). IfSome o ItemFits) (sym c.in-Some.ensures)
    (item_at-fits c.args.pairs.now c.args.key.now c.requires) in
    subst ItemFits (sym c.in_ok-share-in-Some.ensures) there
