use Rattle.std.proofs.Common.{◌-◌, sym, subst}
use Rattle.wire_tests.specs.Counts.{LooksTwice}
use Rattle.wire_tests.proofs.CountLemmas.{looks-twice}
use Rattle.wire_tests.proofs.look_counts.take.Goals as goal

pub returns-in-Message-clause-looks : goal.returns-in-Message-clause-looks
returns-in-Message-clause-looks g c =
    let old = c.args.reader.now in
    let new = c.next_counted.new.self in
    let ticks = c.next_counted.new.steps - c.args.steps.now in
    subst (LooksTwice old new ticks) (sym c.content_len.ensures)
    (looks-twice old new ticks c.in-Message.message c.in-Message.ensures.counted)
