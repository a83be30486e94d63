use Rattle.std.proofs.Common.{◌≡◌, ◌+◌, refl, sym, ap, ◌∙◌, subst, inl, inr}
use Rattle.page_link.specs.Visits.{TellsReplies}
use Rattle.visit_core.specs.declared.visit_terms.Limits.{Limits}
use Rattle.visit_core.specs.Terms.{VisitTerms, default_limits, most_requests}
use Rattle.visit_command.specs.Top.{enough_replies}
use Rattle.visit_command.proofs.visit_outcome.visit.Goals as goal

-- the replies that are enough by the default limits are so by those of a visit that has them
enough : (terms terms' : VisitTerms) (limits : Limits) → terms ≡ terms' → terms'.limits ≡ limits
    → limits ≡ default_limits → enough_replies ≡ most_requests terms.limits + 1
enough terms terms' limits same its default =
    sym (ap (λ (l : Limits). most_requests l + 1) (ap (λ (t : VisitTerms). t.limits) same
    ∙ its ∙ default))

pub returns-in-Over-clause-complete : goal.returns-in-Over-clause-complete
returns-in-Over-clause-complete g c = λ replies linked written.
    let terms = c.new-visit.ensures.terms in
    let many : enough_replies ≡ most_requests c.new-visit.result.terms.limits + 1 =
    enough _ _ _ terms refl c.default.ensures in
    let ends = c.in-Over.ensures.complete
    (subst (TellsReplies (g.L.Link.told c.args.link.now)) many replies) linked in
    elim c.write_outcome.ensures.writes [
      | inl good ↦ inr (inr (c.in-Over.outcome, ends, good.0))
      | inr bad ↦ absurd (written (c.write_outcome.ensures.fault bad.0))
    ]

pub returns-in-BadReply-clause-complete : goal.returns-in-BadReply-clause-complete
returns-in-BadReply-clause-complete g c = λ replies linked written.
    let terms = c.new-visit.ensures.terms in
    let many : enough_replies ≡ most_requests c.new-visit.result.terms.limits + 1 =
    enough _ _ _ terms refl c.default.ensures in
    absurd (c.in-BadReply.ensures.complete
    (subst (TellsReplies (g.L.Link.told c.args.link.now)) many replies) linked)
