use Rattle.std.proofs.Common.{arith}
use Rattle.plain_desk.specs.DeskStands.{desk_state}
use Rattle.page_script.specs.World.{history}
use Rattle.page_script.proofs.DeskLemmas.{DeskHasTurns-push}
use Rattle.page_script.proofs.page_request.answer.Goals as goal

pub returns-clause-answers : goal.returns-clause-answers
returns-clause-answers g c number opening turns stands =
    DeskHasTurns-push g.K.Keeper.can_count (desk_state g.K.Keeper c.args.desk.now)
    (desk_state g.K.Keeper c.act.new.self) opening turns number c.args.t
    c.act.result.drawn c.args.request c.act.result.reply stands c.act.ensures.last
    (λ so_far. c.act.ensures.stands opening.cookies.next 0 opening.items opening.count
    (history turns) (omega arith) so_far)
