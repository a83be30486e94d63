use Rattle.std.proofs.Common.{subst, sym}
use Rattle.journal_text.specs.JudgingChecker.{Checked, HasTaken}
use Rattle.journal_text.specs.JudgingObjections.{ObjectsTo}
use Rattle.journal_text.proofs.TakingLemmas.{taken-behind, taken-next, told_illegal, told_none}
use Rattle.journal_text.proofs.judging.checker.Checker.take_telling.Goals as goal

pub returns-in-Some-clause-taken : goal.returns-in-Some-clause-taken
returns-in-Some-clause-taken c = λ list has.
    let inside : Checked = record {
      first_place = c.self.inside.first_place;
      taken = c.self.inside.taken;
      verdict = c.self.inside.verdict;
      known = c.self.inside.standing;
    } in
    let told = subst (ObjectsTo c.self.inside.verdict) c.in-Some.is c.in_ok-objection.ensures.ok in
    taken-behind inside list c.args.entry c.in-Some.objection.place c.in-Some.objection.why
    (told_illegal c.self.inside.verdict c.in-Some.objection told)
    (subst (λ k. HasTaken k list) (sym c.self.view_is) has)

pub returns-clause-taken : goal.returns-clause-taken
returns-clause-taken c = λ list has.
    let inside : Checked = record {
      first_place = c.self.inside.first_place;
      taken = c.self.inside.taken;
      verdict = c.self.inside.verdict;
      known = c.self.inside.standing;
    } in
    taken-next inside list c.args.entry c.judge.new.self c.in_ok-verdict.verdict
    (told_none c.self.inside.verdict c.in_ok-objection.field-0 c.in_ok-objection.ensures.ok
    (λ x is. c.in_default.not-Some x is))
    c.in_ok-verdict.ensures.judged c.judge.ensures.profile
    (subst (λ k. HasTaken k list) (sym c.self.view_is) has)
