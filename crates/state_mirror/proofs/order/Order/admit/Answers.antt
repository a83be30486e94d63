use Rattle.std.proofs.Common.{◌++◌, ◌∷◌, []}
use Rattle.state_mirror.proofs.OrderLemmas.{begins, begins_not, keeps_either}
use Rattle.state_mirror.proofs.order.Order.admit.Goals as goal

pub returns-then-is_later-clause-admitted : goal.returns-then-is_later-clause-admitted
returns-then-is_later-clause-admitted g c = λ sink handed has.
    keeps_either g.T.Sink.taken sink handed c.args.place c.args.entry c.args.self.now
    c.keep.new.self c.keep.result c.requires.goes_on (c.is_later.ensures.yes c.if-is_later.true)
    c.requires.new.1 c.requires.place.0 c.requires.place.1 c.requires.entry c.keep.ensures.same
    c.keep.ensures.kept c.keep.ensures.others has

pub returns-in-Ok-clause-admitted : goal.returns-in-Ok-clause-admitted
returns-in-Ok-clause-admitted g c = λ sink handed has.
    c.drain.ensures.drained sink (handed ++ (c.args.place, c.args.entry) ∷ [])
    (begins g.T.Sink.taken sink handed c.args.place c.args.entry c.args.self.now has
    c.requires.goes_on c.requires.new.0 c.requires.new.1 c.requires.place.0 c.requires.place.1
    c.requires.entry c.write_owned.new.self (c.is_later.ensures.no c.if-is_later.false)
    c.write_owned.ensures.same.0 c.in-Ok.ensures.next c.write_owned.ensures.same.1
    c.in-Ok.ensures.ok)

pub returns-in-Err-clause-admitted : goal.returns-in-Err-clause-admitted
returns-in-Err-clause-admitted g c = λ sink handed has.
    begins_not g.T.Sink.taken sink handed c.args.place c.args.entry c.args.self.now has
    c.requires.goes_on c.requires.new.0 c.requires.new.1 c.requires.place.0 c.requires.place.1
    c.requires.entry c.write_owned.new.self (c.is_later.ensures.no c.if-is_later.false)
    c.write_owned.ensures.same.0 c.in-Err.ensures.err
