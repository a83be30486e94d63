use Rattle.std.proofs.Common.{◌≡◌, ℕ, sym, ◌∙◌, subst}
use Rattle.std.specs.Prelude.{◌⊎◌}
use Rattle.plain_desk.specs.Openings.{Opening, cookies_of, opening_over}
use Rattle.command_loop.specs.Flow.{flow}
use Rattle.script_runner.specs.Drive.{IsDrive}
use Rattle.script_runner.proofs.CompleteLemmas.{complete_run, no_script}
use Rattle.script_runner.proofs.RunLemmas.{drive_of}
use Rattle.script_runner.proofs.drive.run_drive_over.Goals as goal

pub returns-clause-ran : goal.returns-clause-ran
returns-clause-ran g c = (
  c.run-end.result,
  c.status.ensures,
  subst (λ (o : Opening). IsDrive g.K.Keeper.can_count
      (record { most = c.args.most; opening = o })
      (flow (g.S.Source.told c.args.source.now) (g.S.Source.told c.run-end.new.source)
      (g.T.Sink.taken c.args.sink.now) (g.T.Sink.taken c.run-end.new.sink))
      (g.K.Keeper.told c.into_keeper.result) (g.K.Keeper.count c.into_keeper.result)
      c.run-end.result) c.over.ensures.begins
      (drive_of g.K.Keeper c.args.most _ c.run-end.new.consumer (g.S.Source.told c.args.source.now)
      (g.S.Source.told c.run-end.new.source) (g.T.Sink.taken c.args.sink.now)
      (g.T.Sink.taken c.run-end.new.sink) c.into_keeper.result
      c.into_keeper.ensures.history c.into_keeper.ensures.lawful c.into_keeper.ensures.forced
      c.run-end.result c.run-end.ensures.ran),
)

pub returns-clause-broken : goal.returns-clause-broken
returns-clause-broken g c = λ is script.
    no_script g.K.Keeper.can_count
    (record {
      most = c.args.most;
      opening = opening_over g.K.Keeper c.args.keeper (cookies_of c.args.cookies);
    })
    (g.T.Sink.taken c.args.sink.now)
    (g.T.Sink.taken c.run-end.new.sink) (g.K.Keeper.told c.into_keeper.result)
    (g.K.Keeper.count c.into_keeper.result)
    (g.S.Source.told c.args.source.now) (g.S.Source.told c.run-end.new.source) c.run-end.result
    (subst (λ (o : Opening). IsDrive g.K.Keeper.can_count
    (record { most = c.args.most; opening = o })
    (flow (g.S.Source.told c.args.source.now) (g.S.Source.told c.run-end.new.source)
    (g.T.Sink.taken c.args.sink.now) (g.T.Sink.taken c.run-end.new.sink))
    (g.K.Keeper.told c.into_keeper.result) (g.K.Keeper.count c.into_keeper.result)
    c.run-end.result) c.over.ensures.begins
    (drive_of g.K.Keeper c.args.most _ c.run-end.new.consumer (g.S.Source.told c.args.source.now)
    (g.S.Source.told c.run-end.new.source) (g.T.Sink.taken c.args.sink.now)
    (g.T.Sink.taken c.run-end.new.sink) c.into_keeper.result
    c.into_keeper.ensures.history c.into_keeper.ensures.lawful c.into_keeper.ensures.forced
    c.run-end.result c.run-end.ensures.ran)) (sym c.status.ensures ∙ is) script

pub returns-clause-complete : goal.returns-clause-complete
returns-clause-complete g c = λ script fewer read write.
    subst (λ (n : ℕ). (n ≡ 0) ⊎ (n ≡ 6)) (sym c.status.ensures)
    (complete_run g.K.Keeper.can_count
    (record {
      most = c.args.most;
      opening = opening_over g.K.Keeper c.args.keeper (cookies_of c.args.cookies);
    })
    (g.T.Sink.taken c.args.sink.now)
    (g.T.Sink.taken c.run-end.new.sink) (g.K.Keeper.told c.into_keeper.result)
    (g.K.Keeper.count c.into_keeper.result)
    (g.S.Source.told c.args.source.now) (g.S.Source.told c.run-end.new.source) c.run-end.result
    (subst (λ (o : Opening). IsDrive g.K.Keeper.can_count
    (record { most = c.args.most; opening = o })
    (flow (g.S.Source.told c.args.source.now) (g.S.Source.told c.run-end.new.source)
    (g.T.Sink.taken c.args.sink.now) (g.T.Sink.taken c.run-end.new.sink))
    (g.K.Keeper.told c.into_keeper.result) (g.K.Keeper.count c.into_keeper.result)
    c.run-end.result) c.over.ensures.begins
    (drive_of g.K.Keeper c.args.most _ c.run-end.new.consumer (g.S.Source.told c.args.source.now)
    (g.S.Source.told c.run-end.new.source) (g.T.Sink.taken c.args.sink.now)
    (g.T.Sink.taken c.run-end.new.sink) c.into_keeper.result
    c.into_keeper.ensures.history c.into_keeper.ensures.lawful c.into_keeper.ensures.forced
    c.run-end.result c.run-end.ensures.ran)) script fewer (λ e. read (c.run-end.ensures.read e))
    (λ e. write (c.run-end.ensures.write e)))
