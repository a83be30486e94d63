use Rattle.std.proofs.Common.{true, false, refl, ◌∙◌}
use Rattle.keeper.proofs.OrderedLemmas.{MovesDue-apart, MovesDue-same, Updates-due}
use Rattle.keeper.proofs.map_keeper.reschedule.Goals as goal

pub returns-then-from-to-clause-ok : goal.returns-then-from-to-clause-ok
returns-then-from-to-clause-ok c =
    MovesDue-same c.args.dues.now c.args.key.now c.args.from c.args.to c.if-from-to.true c.requires

pub returns-clause-ok : goal.returns-clause-ok
returns-clause-ok c =
    let dues = c.args.dues.now in
    let key = c.args.key.now in
    let adds = Updates-due dues c.insert.new.self
    (record { expiry = c.args.to; key = c.in_ok-own.own }) c.args.to key true refl
    c.in_ok-own.ensures c.in_ok-insert.ensures.updates in
    let takes = Updates-due c.insert.new.self c.remove.new.self
    (record { expiry = c.args.from; key = c.in_ok-share.field-0 }) c.args.from key false refl
    (c.in_ok-share.ensures ∙ c.in_ok-own.ensures) c.remove.ensures.updates in
    MovesDue-apart dues c.insert.new.self c.remove.new.self key c.args.from c.args.to
    c.if-from-to.false adds takes
