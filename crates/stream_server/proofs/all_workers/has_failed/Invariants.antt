use Rattle.stream_server.specs.Serving.{NoneFailedUpTo}
use Rattle.stream_server.proofs.all_workers.has_failed.Given as goal

abbrev pub invariant-loop-k : goal.invariant-loop-k
invariant-loop-k g l = NoneFailedUpTo l.k l.workers
