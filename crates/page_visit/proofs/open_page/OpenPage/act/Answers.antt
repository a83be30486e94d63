use Rattle.std.proofs.Common.{◌+◌, refl, sym, ap, ◌∙◌, subst}
use Rattle.plain_desk.specs.DeskStands.{desk_state}
use Rattle.visit_core.specs.Acts.{run}
use Rattle.page_visit.specs.declared.open_page.OpenPage.{OpenPage}
use Rattle.page_visit.specs.Underway.{Underway}
use Rattle.page_visit.proofs.TurnLemmas.{went-ran, went-waited}
use Rattle.page_visit.proofs.open_page.OpenPage.act.Goals as goal

pub returns-in-WaitUntil-clause-on : goal.returns-in-WaitUntil-clause-on
returns-in-WaitUntil-clause-on g c =
    went-waited g.K.Keeper.can_count c.args.self.now (desk_state g.K.Keeper c.args.desk.now)
    c.args.self.now.visit c.in-WaitUntil.moment c.requires.poll c.in-WaitUntil.ensures.act
    (c.in-WaitUntil.ensures.waits c.in-WaitUntil.moment refl)

pub returns-in_ok-content-in-Run-clause-on : goal.returns-in_ok-content-in-Run-clause-on
returns-in_ok-content-in-Run-clause-on g c start acts so =
    subst (λ (p : OpenPage). Underway g.K.Keeper.can_count start (acts + 1) p
    (desk_state g.K.Keeper c.args.desk.now)) (sym c.finish.ensures.same)
    (went-ran g.K.Keeper.can_count c.args.self.now (desk_state g.K.Keeper c.args.desk.now)
    c.finish.new.self.visit c.in_ok-content-in-Run.content c.in-Run.first c.finish.ensures.ending
    c.finish.ensures.told c.finish.ensures.terms c.finish.ensures.past c.finish.ensures.fewer
    (λ past stands. ap (λ k. run k c.in-Run.first) c.in_ok-content-in-Run.ensures
    ∙ c.in-Run.ensures.act past stands) start acts so)
