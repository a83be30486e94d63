use Rattle.std.proofs.Common.{◌≡◌, subst}
use Rattle.page_script.specs.World.{MayStandNext}
use Rattle.page_script.proofs.ReadingLemmas.{one_line_each}
use Rattle.page_script.proofs.LawfulLemmas.{lawful, forced}
use Rattle.page_script.proofs.script.Script.line.Goals as goal

pub returns-in-Ok-Some-clause-not_a_line : goal.returns-in-Ok-Some-clause-not_a_line
returns-in-Ok-Some-clause-not_a_line g c end line is_line world stands follows =
    let read = rw c.in-Ok-Some.field-0-is at c.in-Ok-Some.ensures in
    let same : line ≡ c.in-Ok-Some.line = one_line_each c.args.text.now line c.in-Ok-Some.line
    is_line read.line in
    c.run.ensures.not_a_line end world stands (subst (MayStandNext world) same follows)

pub returns-then-self-clause-lawful : goal.returns-then-self-clause-lawful
returns-then-self-clause-lawful g c world stands =
    lawful g.K.Keeper c.args.self.now world stands

pub returns-then-self-clause-forced : goal.returns-then-self-clause-forced
returns-then-self-clause-forced g c world stands =
    forced g.K.Keeper c.args.self.now world stands

pub returns-in-Ok-Some-clause-lawful : goal.returns-in-Ok-Some-clause-lawful
returns-in-Ok-Some-clause-lawful g c world stands =
    lawful g.K.Keeper c.args.self.now world stands

pub returns-in-Ok-Some-clause-forced : goal.returns-in-Ok-Some-clause-forced
returns-in-Ok-Some-clause-forced g c world stands =
    forced g.K.Keeper c.args.self.now world stands

pub returns-in-Ok-None-clause-lawful : goal.returns-in-Ok-None-clause-lawful
returns-in-Ok-None-clause-lawful g c world stands =
    lawful g.K.Keeper c.args.self.now world stands

pub returns-in-Ok-None-clause-forced : goal.returns-in-Ok-None-clause-forced
returns-in-Ok-None-clause-forced g c world stands =
    forced g.K.Keeper c.args.self.now world stands

pub returns-in-Err-clause-lawful : goal.returns-in-Err-clause-lawful
returns-in-Err-clause-lawful g c world stands =
    lawful g.K.Keeper c.args.self.now world stands

pub returns-in-Err-clause-forced : goal.returns-in-Err-clause-forced
returns-in-Err-clause-forced g c world stands =
    forced g.K.Keeper c.args.self.now world stands
