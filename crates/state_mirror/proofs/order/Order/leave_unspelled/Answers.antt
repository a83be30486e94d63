use Rattle.std.proofs.Common.{◌++◌, ◌∷◌, [], sym, ◌∙◌, ap, subst}
use Rattle.state_mirror.specs.declared.order.Stop.TheVariants as stops
use Rattle.state_mirror.specs.Ordering.{HasOrdered, handed_with}
use Rattle.state_mirror.proofs.OrderLemmas.{handed_stopped, stopped, unspelled}
use Rattle.state_mirror.proofs.order.Order.leave_unspelled.Goals as goal

pub returns-clause-handed : goal.returns-clause-handed
returns-clause-handed g c = λ sink handed has.
    let halts = c.halt.ensures.halts in
    let all = handed ++ (c.args.place, c.args.entry) ∷ [] in
    let fail = unspelled g.T.Sink.taken sink handed c.args.place c.args.entry c.args.self.now has
    c.requires.goes_on c.requires.new.0 c.requires.new.1 c.requires.place.0 c.requires.place.1
    c.entry_fits.ensures in
    subst (λ l. HasOrdered g.T.Sink.taken sink l c.halt.new.self)
    (sym (ap (λ a. handed_with a c.args.place c.args.entry handed) c.halt.ensures.answer
    ∙ handed_stopped stops.NoMemory c.args.place c.args.entry handed))
    (stopped g.T.Sink.taken sink all c.args.self.now c.halt.new.self stops.NoMemory fail
    (ap (λ x. x.first) halts) (ap (λ x. x.sink) halts) (ap (λ x. x.stop) halts))
