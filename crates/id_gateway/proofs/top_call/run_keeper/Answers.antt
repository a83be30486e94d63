use Rattle.std.proofs.Common.{refl}
use Rattle.command_loop.specs.Flow.{flow}
use Rattle.id_gateway.proofs.EndingLemmas.{complete_run, run_of, stays_of}
use Rattle.id_gateway.proofs.top_call.run_keeper.Goals as goal

pub returns-clause-ran : goal.returns-clause-ran
returns-clause-ran g c =
    run_of g.K.Keeper g.R.Random c.args.gatekeeper.now.gate c.args.gatekeeper.now c.run.new.consumer
    (flow (g.S.Source.told c.args.source.now) (g.S.Source.told c.run.new.source)
    (g.T.Sink.taken c.args.sink.now) (g.T.Sink.taken c.run.new.sink)) refl c.run.result
    c.run.ensures.ran

pub returns-clause-floor : goal.returns-clause-floor
returns-clause-floor g c =
    (stays_of g.K.Keeper g.R.Random _ c.args.gatekeeper.now c.run.new.consumer
    (flow (g.S.Source.told c.args.source.now) (g.S.Source.told c.run.new.source)
    (g.T.Sink.taken c.args.sink.now) (g.T.Sink.taken c.run.new.sink)) c.run.result
    c.run.ensures.ran).floor

pub returns-clause-complete : goal.returns-clause-complete
returns-clause-complete g c = λ whole read write.
    complete_run g.K.Keeper g.R.Random c.args.gatekeeper.now c.run.new.consumer
    (flow (g.S.Source.told c.args.source.now) (g.S.Source.told c.run.new.source)
    (g.T.Sink.taken c.args.sink.now) (g.T.Sink.taken c.run.new.sink))
    (g.S.Source.told c.args.source.now) c.run.result (c.run.ensures.complete read write) whole
