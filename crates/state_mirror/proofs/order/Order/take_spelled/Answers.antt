use Rattle.std.proofs.Common.{◌++◌, ◌∷◌, [], sym, ◌∙◌, ap, subst}
use Rattle.state_mirror.specs.Ordering.{HasOrdered, handed_with}
use Rattle.state_mirror.proofs.OrderLemmas.{handed_stopped, stopped}
use Rattle.state_mirror.proofs.order.Order.take_spelled.Goals as goal

pub returns-in-Err-clause-handed : goal.returns-in-Err-clause-handed
returns-in-Err-clause-handed g c = λ sink handed has.
    let halts = c.halt.ensures.halts in
    let all = handed ++ (c.args.place, c.args.entry) ∷ [] in
    let fail = c.in-Err.ensures.admitted sink handed has in
    subst (λ l. HasOrdered g.T.Sink.taken sink l c.halt.new.self)
    (sym (ap (λ a. handed_with a c.args.place c.args.entry handed) c.halt.ensures.answer
    ∙ handed_stopped c.in-Err.stop c.args.place c.args.entry handed))
    (stopped g.T.Sink.taken sink all c.admit.new.self c.halt.new.self c.in-Err.stop fail
    (ap (λ x. x.first) halts) (ap (λ x. x.sink) halts) (ap (λ x. x.stop) halts))
