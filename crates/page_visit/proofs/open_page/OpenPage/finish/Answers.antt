use Rattle.std.proofs.Common.{◌≡◌, false, true, refl, sym, ◌∙◌, subst}
use Rattle.std.specs.Prelude.{IsSome}
use Rattle.visit_core.specs.Acts.{IsToRun}
use Rattle.visit_core.proofs.EventLemmas.{runs-unended}
use Rattle.page_visit.proofs.open_page.OpenPage.finish.Goals as goal

pub unreachable-requires : goal.unreachable-requires
unreachable-requires c =
    let may = c.requires.may in
    let (first, acts) = c.requires.acts in
    let runs = subst IsToRun (sym (acts may.past may.stands)) tt in
    let some = may.left (runs-unended c.args.self.now.visit.terms may.past c.args.self.now.moment
    runs) in
    let none : false ≡ true = subst IsSome (sym c.take.ensures.value ∙ c.in_default.is) some in
    cc

pub returns : goal.returns
returns c = record {
  ending = c.in-Some.ending;
  told = sym c.take.ensures.value ∙ c.in-Some.is;
  same = rw c.take.ensures.after refl;
  terms = c.finish.ensures.terms;
  past = c.finish.ensures.past;
  fewer = c.finish.ensures.steps;
}
