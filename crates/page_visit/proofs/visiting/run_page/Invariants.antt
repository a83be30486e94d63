use Rattle.std.proofs.Common.{◌≡◌, ℕ}
use Rattle.plain_desk.specs.DeskStands.{desk_state}
use Rattle.visit_core.specs.Stages.{steps_left}
use Rattle.page_visit.specs.Runs.{page_terms}
use Rattle.page_visit.specs.Underway.{Underway}
use Rattle.page_visit.proofs.visiting.run_page.Given as goal

abbrev pub invariant-acts : goal.invariant-acts
invariant-acts g l = ((acts : ℕ) × Underway g.K.Keeper.can_count (record {
  terms = page_terms l.fn.key l.fn.need;
  ending = l.fn.ending;
  moment = l.fn.moment;
  desk = desk_state g.K.Keeper l.fn.desk;
}) acts l.page (desk_state g.K.Keeper l.desk))
    × (g.K.Keeper.floor l.desk.keeper ≡ g.K.Keeper.floor l.fn.desk.keeper)

abbrev pub decreases-acts : goal.decreases-acts
decreases-acts g l = steps_left l.page.visit l.page.moment
