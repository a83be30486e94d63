use Rattle.std.proofs.Common.{◌++◌, Result, Ok, Err, refl, inl}
use Rattle.std.specs.Prelude.{OnErr}
use Rattle.farm_command.proofs.RunLemmas.{HasFarmRun-fed}
use Rattle.farm_command.proofs.driver.FarmDriverConsumer.feed.Goals as goal

on_err : {T E : Type 0} {P Q : Type 0} (r : Result T E) → OnErr r P → (P → Q) → OnErr r Q
on_err (Ok x) on follows = tt
on_err (Err e) on follows = follows on

pub returns-clause-err : goal.returns-clause-err
returns-clause-err g c = on_err c.feed.result c.feed.ensures.err (λ same first taken due went. (
  went.1,
  (
    c.args.self.now.held ++ c.args.piece.now,
    inl (HasFarmRun-fed g.K.Keeper c.args.self.now.scripts taken c.args.self.now.held
        (c.args.self.now.held ++ c.args.piece.now) c.args.piece.now due went.0 refl),
  ),
))
