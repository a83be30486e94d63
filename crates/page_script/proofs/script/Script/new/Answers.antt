use Rattle.std.proofs.Common.{◌∙◌, ap, subst}
use Rattle.asp_messages.specs.Fields.{most_cookie}
use Rattle.plain_desk.specs.Openings.{Opening, opening_with}
use Rattle.plain_desk.proofs.OpeningLemmas.{fresh-empty, opening-empty}
use Rattle.page_script.specs.World.{world_from}
use Rattle.page_script.specs.ScriptStands.{ScriptStands}
use Rattle.page_script.proofs.script.Script.new.Goals as goal

pub over-requires : goal.over-requires
over-requires g c =
    fresh-empty g.K.Keeper c.args.keeper c.new.result c.requires.empty

pub returns-clause-stands : goal.returns-clause-stands
returns-clause-stands g c =
    subst (λ (o : Opening). ScriptStands g.K.Keeper c.over.result (world_from o))
    (opening-empty g.K.Keeper c.args.keeper c.new.result c.requires.empty c.requires.no_faults
    ∙ ap (λ k. let o : Opening = record (opening_with 1 most_cookie) { cookies = k } in o)
    c.new.ensures)
    c.over.ensures.stands
