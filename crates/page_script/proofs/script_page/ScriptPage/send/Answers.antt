use Rattle.std.proofs.Common.{refl, inr}
use Rattle.page_script.proofs.StepLemmas.{on_ok, on_err, sent, turn-joined}
use Rattle.plain_desk.specs.DeskStands.{desk_state}
use Rattle.page_script.proofs.script_page.ScriptPage.send.Goals as goal

pub returns-clause-ok : goal.returns-clause-ok
returns-clause-ok g c =
    on_ok c.push_reply-written.result
    (λ is. sent g.K.Keeper.can_count c.args.t c.args.self.now _
    (desk_state g.K.Keeper c.args.desk.now)
    (desk_state g.K.Keeper c.answer-reply.new.desk) c.args.request
    c.answer-reply.result _ c.heard.ensures.terms c.requires.will_send
    c.heard.ensures.past refl refl c.answer-reply.ensures.fits c.answer-reply.ensures.answers
    (turn-joined c.args.out.now.items c.push_ask.new.out.items c.push_reply-written.new.out.items _
    _ c.in_ok-push_ask.ensures.ok is))
    c.push_reply-written.ensures.ok

pub returns-clause-err : goal.returns-clause-err
returns-clause-err g c =
    on_err c.push_reply-written.result
    (λ at stands desk_stands. inr
    (sent g.K.Keeper.can_count c.args.t c.args.self.now _
    (desk_state g.K.Keeper c.args.desk.now)
    (desk_state g.K.Keeper c.answer-reply.new.desk) c.args.request
    c.answer-reply.result _ c.heard.ensures.terms c.requires.will_send
    c.heard.ensures.past refl refl c.answer-reply.ensures.fits c.answer-reply.ensures.answers tt
    at stands desk_stands))
