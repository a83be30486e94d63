use Rattle.std.proofs.Common.{◌≡◌, ℕ, ◌∙◌, ap, subst, sym}
use Rattle.std.specs.Prelude.{◌⊎◌}
use Rattle.command_loop.specs.Flow.{flow}
use Rattle.plain_desk.specs.Openings.{cookies_of, opening_over}
use Rattle.pipe_command.specs.PipeRun.{IsRun}
use Rattle.pipe_command.proofs.CompleteLemmas.{complete_run}
use Rattle.pipe_command.proofs.EndingLemmas.{floor_of, run_of}
use Rattle.pipe_command.proofs.pipe_run.run_pipe_over.Goals as goal

pub returns-clause-ran : goal.returns-clause-ran
returns-clause-ran g c = (
  c.run-end.result,
  c.status.ensures,
  subst (λ k. IsRun g.K.Keeper.can_count
      (record {
        pipe = c.args.pipe;
        opening = opening_over g.K.Keeper c.args.keeper (cookies_of c.args.cookies);
      })
      (flow (g.S.Source.told c.args.source.now) (g.S.Source.told c.run-end.new.source)
      (g.T.Sink.taken c.args.sink.now) (g.T.Sink.taken c.run-end.new.sink))
      (g.K.Keeper.told k) (g.K.Keeper.count k) c.run-end.result)
      (sym c.into_keeper.ensures)
      (run_of g.K.Keeper _ c.new-responder.result c.run-end.new.consumer
      (flow (g.S.Source.told c.args.source.now) (g.S.Source.told c.run-end.new.source)
      (g.T.Sink.taken c.args.sink.now) (g.T.Sink.taken c.run-end.new.sink))
      (g.K.Keeper.counts c.new-responder.result.desk.keeper) c.new-responder.ensures.start
      c.run-end.result c.run-end.ensures.ran),
)

pub returns-clause-complete : goal.returns-clause-complete
returns-clause-complete g c = λ whole read write.
    subst (λ (n : ℕ). (n ≡ 0) ⊎ (n ≡ 6)) (sym c.status.ensures)
    (complete_run g.K.Keeper c.args.pipe.most c.new-responder.result c.run-end.new.consumer
    (flow (g.S.Source.told c.args.source.now) (g.S.Source.told c.run-end.new.source)
    (g.T.Sink.taken c.args.sink.now) (g.T.Sink.taken c.run-end.new.sink))
    (g.S.Source.told c.args.source.now) c.run-end.result
    (c.run-end.ensures.complete read write) whole)

pub returns-clause-floor : goal.returns-clause-floor
returns-clause-floor g c =
    ap g.K.Keeper.floor c.into_keeper.ensures
    ∙ (floor_of g.K.Keeper c.args.pipe.most c.new-responder.result c.run-end.new.consumer
    (flow (g.S.Source.told c.args.source.now) (g.S.Source.told c.run-end.new.source)
    (g.T.Sink.taken c.args.sink.now) (g.T.Sink.taken c.run-end.new.sink))
    c.run-end.result c.run-end.ensures.ran).0
    ∙ ap g.K.Keeper.floor c.new-responder.ensures.keeper

pub returns-clause-tells : goal.returns-clause-tells
returns-clause-tells g c = λ none.
    ap g.K.Keeper.told c.into_keeper.ensures
    ∙ (floor_of g.K.Keeper c.args.pipe.most c.new-responder.result c.run-end.new.consumer
    (flow (g.S.Source.told c.args.source.now) (g.S.Source.told c.run-end.new.source)
    (g.T.Sink.taken c.args.sink.now) (g.T.Sink.taken c.run-end.new.sink))
    c.run-end.result c.run-end.ensures.ran).1
    (ap g.K.Keeper.told c.new-responder.ensures.keeper ∙ none)
