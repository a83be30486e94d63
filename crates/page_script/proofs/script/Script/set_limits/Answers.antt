use Rattle.std.proofs.Common.{refl}
use Rattle.page_script.proofs.WorldLemmas.{limits-set}
use Rattle.page_script.proofs.script.Script.set_limits.Goals as goal

pub returns-clause-takes : goal.returns-clause-takes
returns-clause-takes g c world stands =
    limits-set g.K.Keeper c.args.self.now _ world stands c.args.limits refl refl refl
