use Rattle.std.proofs.Common.{ℕ, ◌+◌, ◌*◌, ◌≤◌, Result, Ok, Err, refl, sym, ap, ◌∙◌, subst, arith}
use Rattle.std.specs.Prelude.{OnErr}
use Rattle.plain_desk.specs.DeskStands.{DeskOf, desk_state}
use Rattle.visit_core.specs.declared.visit_terms.Limits.{Limits}
use Rattle.visit_core.specs.Stages.{steps_left}
use Rattle.visit_core.specs.Terms.{VisitTerms}
use Rattle.page_visit.specs.declared.open_page.OpenPage.{OpenPage}
use Rattle.page_visit.specs.Runs.{page_terms}
use Rattle.page_visit.specs.Underway.{PageComesTo, PageIsCut, PageStart}
use Rattle.page_visit.proofs.TurnLemmas.{begun, came, may_turn, was-cut}
use Rattle.page_visit.proofs.visiting.run_page.Goals as goal

on_err : {T E : Type 0} {P : Type 0} (r : Result T E) → P → OnErr r P
on_err (Ok x) holds = tt
on_err (Err e) holds = holds

pub acts-init : goal.acts-init
acts-init g c = (
  (
    0,
    begun g.K.Keeper.can_count (record {
      terms = page_terms c.args.key c.args.need;
      ending = c.args.ending;
      moment = c.args.moment;
      desk = desk_state g.K.Keeper c.args.desk.now;
    }) _ c.new.ensures.past (c.new.ensures.terms
        ∙ ap (λ (l : Limits). let t : VisitTerms = record {
          key = c.args.key;
          need = c.args.need;
          limits = l;
        } in t) c.default.ensures)
        (subst (λ (l : Limits). (t : ℕ) → steps_left c.new.result t ≤ 3 * l.polls + 2)
        c.default.ensures c.new.ensures.steps) refl refl refl (omega (arith, c.requires.moment)),
  ),
  refl,
)

pub act-requires : goal.act-requires
act-requires g c =
    let (acts, so) = c.acts.invariant.0 in
    may_turn g.K.Keeper.can_count (record {
      terms = page_terms c.args.key c.args.need;
      ending = c.args.ending;
      moment = c.args.moment;
      desk = desk_state g.K.Keeper c.args.desk.now;
    }) acts c.acts.page (desk_state g.K.Keeper c.acts.desk) so c.requires.ending (omega arith)

pub acts-preserved : goal.acts-preserved
acts-preserved g c =
    let (acts, so) = c.acts.invariant.0 in (
      (acts + 1, (rw c.in_default.is at c.in_ok-outcome.ensures.on) _ acts so),
      c.act.ensures.floor ∙ c.acts.invariant.1,
    )

pub returns-in_err-outcome-clause-cut : goal.returns-in_err-outcome-clause-cut
returns-in_err-outcome-clause-cut g c =
    let start : PageStart = record {
      terms = page_terms c.args.key c.args.need;
      ending = c.args.ending;
      moment = c.args.moment;
      desk = desk_state g.K.Keeper c.args.desk.now;
    } in
    let (acts, so) = c.acts.invariant.0 in
    on_err c.from_residual.result
    (subst (λ (d : DeskOf _). PageIsCut g.K.Keeper.can_count start (desk_state g.K.Keeper d))
    (sym c.in_err-outcome.ensures.err.1)
    (was-cut g.K.Keeper.can_count start acts c.acts.page (desk_state g.K.Keeper c.acts.desk) so
    c.requires.ending))

pub returns-in_err-outcome-clause-floor : goal.returns-in_err-outcome-clause-floor
returns-in_err-outcome-clause-floor g c = c.act.ensures.floor ∙ c.acts.invariant.1

pub returns-in-Some-clause-comes : goal.returns-in-Some-clause-comes
returns-in-Some-clause-comes g c =
    let start : PageStart = record {
      terms = page_terms c.args.key c.args.need;
      ending = c.args.ending;
      moment = c.args.moment;
      desk = desk_state g.K.Keeper c.args.desk.now;
    } in
    let (acts, so) = c.acts.invariant.0 in
    let same = rw c.in-Some.is at c.in_ok-outcome.ensures.same in
    subst (λ (d : DeskOf _). PageComesTo g.K.Keeper.can_count start (desk_state g.K.Keeper d)
    c.in-Some.outcome c.act.new.self.content) (sym same.1)
    (subst (λ (p : OpenPage). PageComesTo g.K.Keeper.can_count start (desk_state g.K.Keeper c.acts.desk)
    c.in-Some.outcome p.content) (sym same.0)
    (came g.K.Keeper.can_count start acts c.acts.page (desk_state g.K.Keeper c.acts.desk) so
    c.in-Some.outcome (rw c.in-Some.is at c.in_ok-outcome.ensures.over)))

pub returns-in-Some-clause-floor : goal.returns-in-Some-clause-floor
returns-in-Some-clause-floor g c = c.act.ensures.floor ∙ c.acts.invariant.1
