use Rattle.std.proofs.Common.{sym, subst}
use Rattle.page_script.specs.World.{PagesForceOldLocks}
use Rattle.page_script.specs.ScriptStands.{IfTold}
use Rattle.page_script.proofs.LawfulLemmas.{lawful, forced}
use Rattle.page_script.proofs.script.Script.into_keeper.Goals as goal

pub returns-clause-lawful : goal.returns-clause-lawful
returns-clause-lawful g c world stands = lawful g.K.Keeper c.args.self world stands

pub returns-clause-forced : goal.returns-clause-forced
returns-clause-forced g c world stands =
    subst (λ k. IfTold (g.K.Keeper.told k) (PagesForceOldLocks world)) (sym c.into_keeper.ensures)
    (forced g.K.Keeper c.args.self world stands)
