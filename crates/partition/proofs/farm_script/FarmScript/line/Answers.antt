use Rattle.std.proofs.Common.{◌≡◌, subst}
use Rattle.page_script.proofs.ReadingLemmas.{one_line_each}
use Rattle.partition.specs.FarmStands.{servers_of}
use Rattle.partition.specs.Shares.{MayFollow}
use Rattle.partition.proofs.farm_script.FarmScript.line.Goals as goal

pub returns-in-Ok-Some-clause-not_a_line : goal.returns-in-Ok-Some-clause-not_a_line
returns-in-Ok-Some-clause-not_a_line g c end line is_line run stands may =
    let read = rw c.in-Ok-Some.field-0-is at c.in-Ok-Some.ensures in
    let same : line ≡ c.in-Ok-Some.line = one_line_each c.args.text.now line c.in-Ok-Some.line
    is_line read.line in
    c.run-end.ensures.not_a_line end run stands
    (subst (MayFollow (servers_of c.args.self.now) run.script) same may)
