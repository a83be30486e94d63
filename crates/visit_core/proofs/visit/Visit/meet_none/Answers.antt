use Rattle.std.proofs.Common.{ℕ, sym, subst}
use Rattle.std.specs.Prelude.{Some, None}
use Rattle.asp_messages.specs.declared.request.Ask.{Ask}
use Rattle.asp_messages.specs.declared.request.Ask.TheVariants.{Read, Acquire, Release, Write, Remove, Reset}
use Rattle.asp_messages.specs.declared.reply.Reply.TheVariants.{Found, Done, Missing}
use Rattle.visit_core.specs.declared.act.Heard.{Heard}
use Rattle.visit_core.specs.declared.act.Heard.TheVariants.{Reply, Strange}
use Rattle.visit_core.specs.Terms.{HeardFits}
use Rattle.visit_core.specs.Stages.{StageFits}
use Rattle.visit_core.specs.Tables.{answered, refused_stage}
use Rattle.visit_core.proofs.visit.Visit.meet_none.Goals as goal

refused_stage-fits : (locked polls : ℕ) (answer : Heard)
    → StageFits locked polls (refused_stage answer)
refused_stage-fits locked polls (Reply reply) = tt
refused_stage-fits locked polls (Strange status) = tt

-- a page that an answer lets run has content in its range
answered-fits : (locked polls : ℕ) (ask : Ask) (answer : Heard) → HeardFits answer
    → StageFits locked polls (answered ask answer)
answered-fits locked polls Acquire (Reply (Found body minutes None first)) fits = tt
answered-fits locked polls Acquire (Reply (Found body minutes (Some cookie) first)) fits =
    (fits.0, fits.2)
answered-fits locked polls Acquire (Reply Missing) fits = (tt, tt)
answered-fits locked polls Acquire answer fits = refused_stage-fits locked polls answer
answered-fits locked polls Read (Reply (Found body minutes cookie first)) fits = (fits.0, tt)
answered-fits locked polls Read (Reply Missing) fits = (tt, tt)
answered-fits locked polls Read answer fits = refused_stage-fits locked polls answer
answered-fits locked polls Reset (Reply Done) fits = tt
answered-fits locked polls Reset (Reply Missing) fits = tt
answered-fits locked polls Reset answer fits = refused_stage-fits locked polls answer
answered-fits locked polls (Release cookie) answer fits = refused_stage-fits locked polls answer
answered-fits locked polls (Write body minutes fresh cookie) answer fits =
    refused_stage-fits locked polls answer
answered-fits locked polls (Remove cookie) answer fits = refused_stage-fits locked polls answer

pub invariant_of-self : goal.invariant_of-self
invariant_of-self c = record {
  request_fits = c.self.invariant.request_fits;
  limits_fit = c.self.invariant.limits_fit;
  stage_fits = subst (StageFits c.self.inside.locked c.self.inside.limits.polls)
      (sym c.answered.ensures)
      (answered-fits c.self.inside.locked c.self.inside.limits.polls c.self.inside.request.ask
      c.args.answer c.requires);
}
