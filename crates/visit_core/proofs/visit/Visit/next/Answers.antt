use Rattle.std.proofs.Common.{◌∙◌, ap, sym}
use Rattle.visit_core.specs.Acts.{wait_until}
use Rattle.visit_core.specs.Stages.{VisitState}
use Rattle.visit_core.proofs.EventLemmas.{asking-within, running-unended, within-is}
use Rattle.visit_core.proofs.visit.Visit.next.Goals as goal

pub returns-in-Asking-clause-until : goal.returns-in-Asking-clause-until
returns-in-Asking-clause-until c u until past stands =
    let stage = sym (ap (λ (v : VisitState). v.stage) c.self.view_is) ∙ c.in-Asking.is in
    let within = asking-within c.args.self.now past c.args.t c.in-Asking.from stands stage
    c.if-t-from.true in
    within-is _ u (wait_until c.in-Asking.from) until within

pub returns-in-Running-clause-unended : goal.returns-in-Running-clause-unended
returns-in-Running-clause-unended c runs past stands =
    let stage = sym (ap (λ (v : VisitState). v.stage) c.self.view_is) ∙ c.in-Running.is in
    running-unended c.args.self.now past c.in-Running.content c.in-Running.first c.in-Running.cookie
    stands stage
