use Rattle.visit_core.proofs.PastLemmas.{HasPast-heard}
use Rattle.visit_core.proofs.StepLemmas.{hears-steps}
use Rattle.visit_core.proofs.visit.Visit.heard.Goals as goal

pub returns-clause-past : goal.returns-clause-past
returns-clause-past c = λ past request h e. rw c.hear.ensures.hears
    (HasPast-heard _ _ _ _ _ _ _ _ c.requires.fits h e)

pub returns-clause-steps : goal.returns-clause-steps
returns-clause-steps c = λ u. rw c.hear.ensures.hears
    (hears-steps c.args.self.now c.args.t u c.args.self.now.stage c.args.answer c.hear.ensures.sound
    c.requires.sends)
