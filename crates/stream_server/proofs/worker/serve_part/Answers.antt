use Rattle.stream_server.specs.Workers.{HasWorked, means_of}
use Rattle.stream_server.proofs.WorkerLemmas.{left_so}
use Rattle.stream_server.proofs.worker.serve_part.Goals as goal

pub returns-clause-worked : goal.returns-clause-worked
returns-clause-worked g c j d l =
    let change = (c.for_each_mut.ensures j d l).1 in
    left_so (HasWorked (means_of g.D.Door g.C.Clock) c.args.store.now)
    _ _ _ _ change.argument_is change.left change.call
