use Rattle.std.proofs.Common.{sym, arith}
use Rattle.plain_desk.specs.DeskStands.{desk_state}
use Rattle.session_machine.specs.History.{nothing}
use Rattle.page_visit.proofs.AskedLemmas.{DeskDoes-one}
use Rattle.page_visit.proofs.TurnLemmas.{went-sent}
use Rattle.page_visit.proofs.open_page.OpenPage.send.Goals as goal

pub returns-clause-on : goal.returns-clause-on
returns-clause-on g c =
    went-sent g.K.Keeper.can_count c.args.self.now (desk_state g.K.Keeper c.args.desk.now)
    c.heard.new.self (desk_state g.K.Keeper c.act-reply.new.self) c.args.request c.act-reply.result.reply
    c.heard.ensures.terms
    (λ past stands. c.heard.ensures.past past c.args.request stands (c.requires.acts past stands))
    c.heard.ensures.steps
    (λ past stands. sym (c.requires.acts past stands))
    (DeskDoes-one g.K.Keeper.can_count (desk_state g.K.Keeper c.args.desk.now)
    (desk_state g.K.Keeper c.act-reply.new.self) c.args.self.now.moment c.act-reply.result.drawn c.args.request
    c.act-reply.result.reply c.act-reply.ensures.last
    (λ list has. c.act-reply.ensures.stands 1 0 nothing 0 list (omega arith) has))
