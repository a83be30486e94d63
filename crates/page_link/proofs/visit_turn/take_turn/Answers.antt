use Rattle.std.proofs.Common.{◌≡◌, true, false, refl, sym, ◌∙◌, ap, subst}
use Rattle.std.specs.Prelude.{IsSome}
use Rattle.visit_core.specs.declared.outcome.Outcome.TheVariants.{LinkFault}
use Rattle.visit_core.specs.Acts.{IsToRun, over}
use Rattle.asp_messages.specs.RequestText.{request_text}
use Rattle.page_link.specs.Exchanges.{AsksInVain}
use Rattle.page_link.proofs.RuleLemmas.{no_fault}
use Rattle.page_link.proofs.TurnLemmas.{asks-fits, went-paused, went-ran, went-asked, ended-over, ended-lost, ended-bad, ended-no_memory}
use Rattle.page_link.proofs.visit_turn.take_turn.Goals as goal

pub returns-in-Over-clause-end : goal.returns-in-Over-clause-end
returns-in-Over-clause-end g c page before run =
    let may = c.requires.may_turn in
    let acts = c.in-Over.ensures.act in
    ended-over page before c.args.visit.now c.args.visit.now (g.L.Link.told c.args.link.now)
    (g.L.Link.told c.args.link.now) (g.L.Link.pauses c.args.link.now) (g.L.Link.pauses
    c.args.link.now)
    (g.C.Clock.told c.args.clock.now)
    (g.C.Clock.told c.now-now.new.self) c.args.ending.now c.args.client.now.reader.bytes.held
    c.now-now.result
    run refl c.now-now.ensures.gives c.in-Over.outcome.now
    (λ fault. no_fault c.args.visit.now.terms may.past c.now-now.result may.linked
    (sym (acts may.past may.stands) ∙ ap over fault)) acts

pub returns-in-Over-clause-lost : goal.returns-in-Over-clause-lost
returns-in-Over-clause-lost g c fault =
    let may = c.requires.may_turn in
    let same : c.in-Over.outcome.now ≡ LinkFault = cc in
    absurd (no_fault c.args.visit.now.terms may.past c.now-now.result may.linked
    (sym (c.in-Over.ensures.act may.past may.stands) ∙ ap over same))

pub unreachable-requires : goal.unreachable-requires
unreachable-requires g c =
    let may = c.requires.may_turn in
    let some = may.left (c.in-Run.ensures.unended tt may.past may.stands) in
    let none : false ≡ true = subst IsSome (sym c.take.ensures.value ∙ c.in_default.is) some in
    cc

pub heard-requires-clause-fits : goal.heard-requires-clause-fits
heard-requires-clause-fits g c =
    asks-fits (g.L.Link.told c.args.link.now) (g.L.Link.told c.ask.new.link) _
    c.args.client.now.reader.bytes.held c.ask.new.client.reader.bytes.held c.in-Ok.heard
    c.in-Ok.ensures.heard

pub returns-in-Err-BadReply-clause-end : goal.returns-in-Err-BadReply-clause-end
returns-in-Err-BadReply-clause-end g c page before run =
    ended-bad page before c.args.visit.now c.args.visit.now (g.L.Link.told c.args.link.now)
    (g.L.Link.told c.ask.new.link) (g.L.Link.pauses c.args.link.now) (g.L.Link.pauses
    c.ask.new.link)
    (g.C.Clock.told c.args.clock.now)
    (g.C.Clock.told c.now-now.new.self) c.args.ending.now c.args.client.now.reader.bytes.held
    c.now-now.result
    run c.ask.ensures.pauses c.now-now.ensures.gives c.in-Send.request.now
    (subst (AsksInVain (g.L.Link.told c.args.link.now) (g.L.Link.told c.ask.new.link)
    (request_text c.in-Send.request.now) c.args.client.now.reader.bytes.held)
    c.in-Err-BadReply.field-0-is c.in-Err-BadReply.ensures.none)
    c.in-Send.ensures.act

pub returns-in-Err-NoMemory-clause-end : goal.returns-in-Err-NoMemory-clause-end
returns-in-Err-NoMemory-clause-end g c page before run =
    ended-no_memory page before c.args.visit.now c.args.visit.now (g.L.Link.told c.args.link.now)
    (g.L.Link.told c.ask.new.link) (g.L.Link.pauses c.args.link.now) (g.L.Link.pauses
    c.ask.new.link)
    (g.C.Clock.told c.args.clock.now)
    (g.C.Clock.told c.now-now.new.self) c.args.ending.now c.args.client.now.reader.bytes.held
    c.now-now.result
    run c.ask.ensures.pauses c.now-now.ensures.gives c.in-Send.request.now
    (subst (AsksInVain (g.L.Link.told c.args.link.now) (g.L.Link.told c.ask.new.link)
    (request_text c.in-Send.request.now) c.args.client.now.reader.bytes.held)
    c.in-Err-NoMemory.field-0-is c.in-Err-NoMemory.ensures.none)
    c.in-Send.ensures.act

pub returns-in-Err-LinkFault-clause-end : goal.returns-in-Err-LinkFault-clause-end
returns-in-Err-LinkFault-clause-end g c page before run =
    ended-lost page before c.args.visit.now c.lost_link.new.self (g.L.Link.told c.args.link.now)
    (g.L.Link.told c.ask.new.link) (g.L.Link.pauses c.args.link.now) (g.L.Link.pauses
    c.ask.new.link)
    (g.C.Clock.told c.args.clock.now)
    (g.C.Clock.told c.now-now.new.self) c.args.ending.now c.args.client.now.reader.bytes.held
    c.now-now.result
    run c.ask.ensures.pauses c.now-now.ensures.gives c.in-Send.request.now
    (subst (AsksInVain (g.L.Link.told c.args.link.now) (g.L.Link.told c.ask.new.link)
    (request_text c.in-Send.request.now) c.args.client.now.reader.bytes.held)
    c.in-Err-LinkFault.field-0-is c.in-Err-LinkFault.ensures.none)
    c.in-Send.ensures.act c.lost_link.ensures.terms c.lost_link.ensures.past

pub returns-in-WaitUntil-clause-on : goal.returns-in-WaitUntil-clause-on
returns-in-WaitUntil-clause-on g c page before run =
    went-paused page before c.args.visit.now c.args.visit.now (g.L.Link.told c.args.link.now)
    (g.L.Link.told c.pause.new.self) (g.L.Link.pauses c.args.link.now) (g.L.Link.pauses
    c.pause.new.self)
    (g.C.Clock.told c.args.clock.now)
    (g.C.Clock.told c.now-now.new.self) c.args.ending.now c.args.ending.now
    c.args.client.now.reader.bytes.held c.args.client.now.reader.bytes.held c.now-now.result
    run c.now-now.ensures.gives c.in-WaitUntil.until c.pause.ensures.told c.pause.ensures.pauses
    c.in-WaitUntil.ensures.act

pub returns-in-Some-clause-on : goal.returns-in-Some-clause-on
returns-in-Some-clause-on g c page before run =
    rw c.take.ensures.after
    (went-ran page before c.args.visit.now c.finish.new.self (g.L.Link.told c.args.link.now)
    (g.L.Link.told c.args.link.now) (g.L.Link.pauses c.args.link.now) (g.L.Link.pauses
    c.args.link.now)
    (g.C.Clock.told c.args.clock.now)
    (g.C.Clock.told c.now-now.new.self) c.args.ending.now c.args.ending.now
    c.args.client.now.reader.bytes.held c.args.client.now.reader.bytes.held c.now-now.result
    run c.now-now.ensures.gives c.in-Some.ending (sym c.in-Some.is
    ∙ c.take.ensures.value) c.finish.ensures.terms c.finish.ensures.past c.finish.ensures.steps
    (λ past stands. subst IsToRun (c.in-Run.ensures.act past stands) tt))

pub returns-in-Ok-clause-on : goal.returns-in-Ok-clause-on
returns-in-Ok-clause-on g c page before run =
    went-asked page before c.args.visit.now c.heard.new.self (g.L.Link.told c.args.link.now)
    (g.L.Link.told c.ask.new.link) (g.L.Link.pauses c.args.link.now) (g.L.Link.pauses
    c.ask.new.link)
    (g.C.Clock.told c.args.clock.now)
    (g.C.Clock.told c.now-now.new.self) c.args.ending.now c.args.ending.now
    c.args.client.now.reader.bytes.held c.ask.new.client.reader.bytes.held c.now-now.result
    run c.now-now.ensures.gives c.in-Send.request.now c.in-Ok.heard c.in-Ok.ensures.heard
    c.ask.ensures.pauses c.heard.ensures.terms
    (λ past stands. c.heard.ensures.past past c.in-Send.request.now stands
    (sym (c.in-Send.ensures.act past stands))) c.heard.ensures.steps c.in-Send.ensures.act

pub returns-in-WaitUntil-clause-read : goal.returns-in-WaitUntil-clause-read
returns-in-WaitUntil-clause-read g c = (c.now-now.result, c.now-now.ensures.gives)

pub returns-in-Some-clause-read : goal.returns-in-Some-clause-read
returns-in-Some-clause-read g c = (c.now-now.result, c.now-now.ensures.gives)

pub returns-in-Ok-clause-read : goal.returns-in-Ok-clause-read
returns-in-Ok-clause-read g c = (c.now-now.result, c.now-now.ensures.gives)
