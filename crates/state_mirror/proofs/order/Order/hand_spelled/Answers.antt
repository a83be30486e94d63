use Rattle.state_mirror.proofs.OrderLemmas.{fresh_not_known, refused_goes, refused_known, refused_place, refused_stopped, not_known}
use Rattle.state_mirror.proofs.order.Order.hand_spelled.Goals as goal

pub returns-in-Some-clause-handed : goal.returns-in-Some-clause-handed
returns-in-Some-clause-handed g c = λ sink handed has.
    refused_goes g.T.Sink.taken sink handed c.args.self.now c.args.place c.args.entry
    c.in-Some.answer c.in-Some.ensures.some has

pub returns-in-Some-clause-known : goal.returns-in-Some-clause-known
returns-in-Some-clause-known g c = λ sink handed has goes.
    refused_known g.T.Sink.taken sink handed c.args.self.now c.args.place c.in-Some.answer has goes
    c.requires.place.0 c.in-Some.ensures.some

pub returns-in-Some-clause-known_place : goal.returns-in-Some-clause-known_place
returns-in-Some-clause-known_place g c =
    refused_place c.args.self.now c.args.place c.in-Some.answer c.in-Some.ensures.some

pub returns-in-Some-clause-stopped : goal.returns-in-Some-clause-stopped
returns-in-Some-clause-stopped g c =
    refused_stopped c.args.self.now c.args.place c.in-Some.answer c.in-Some.ensures.some

pub returns-in-None-clause-known : goal.returns-in-None-clause-known
returns-in-None-clause-known g c = λ sink handed has goes. (
  λ is. absurd (fresh_not_known c.take_spelled.result c.args.place c.take_spelled.ensures.fresh is),
  λ some. absurd (not_known g.T.Sink.taken sink handed c.args.self.now c.args.place has goes
      c.in-None.ensures.none.1 c.in-None.ensures.none.2 some),
)
