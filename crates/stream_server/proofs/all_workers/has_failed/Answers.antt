use Rattle.std.proofs.Common.{arith}
use Rattle.stream_server.proofs.ServingLemmas.{none-more}
use Rattle.stream_server.proofs.all_workers.has_failed.Goals as goal

pub loop-k-preserved : goal.loop-k-preserved
loop-k-preserved g c = none-more c.loop-k.k c.args.workers.now c.index-workers-k.result
    c.loop-k-test.true c.if-failed.false c.loop-k.invariant

pub returns-clause-none : goal.returns-clause-none
returns-clause-none g c = λ is j d below. c.loop-k.invariant j d
    (omega (arith, c.loop-k-test.false, below)) below
