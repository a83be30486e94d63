use Rattle.std.proofs.Common.{arith}
use Rattle.message_framing.proofs.head.look_on.Goals as goal

pub loop-at-init : goal.loop-at-init
loop-at-init g c = record {
  looked = record { within = c.requires.from; short = c.requires.room; seen_so = c.requires.seen };
  from = omega arith;
  steps = omega arith;
}

pub loop-at-preserved : goal.loop-at-preserved
loop-at-preserved g c =
    let once = c.in-Open.ensures.looks in
    record {
      looked = once.0;
      from = omega (arith, once.2, c.loop-at.invariant.from);
      steps = omega (arith, once.1, c.loop-at.invariant.steps, c.in-Open.ensures.rises);
    }

pub returns-in-Ended-clause-looks : goal.returns-in-Ended-clause-looks
returns-in-Ended-clause-looks g c =
    let once = c.in-Ended.ensures.looks in (
      once.0,
      omega (
        arith,
        once.1,
        c.loop-at.invariant.steps,
        c.loop-at.invariant.from,
        c.in-Ended.ensures.rises,
      ),
    )

pub returns-clause-looks : goal.returns-clause-looks
returns-clause-looks g c = (
  c.loop-at.invariant.looked,
  omega arith,
  omega
      (arith, c.loop-at.invariant.looked.within, c.loop-at.invariant.looked.short),
)
