use Rattle.std.proofs.Common.{subst, sym, ◌≡◌, ℕ}
use Rattle.std.specs.Prelude.{◌⊎◌}
use Rattle.journal_replay.specs.Replay.{IsReplay, IsStatusOf}
use Rattle.journal_replay.proofs.EndingLemmas.{replay_of, judged-complete, refused-complete}
use Rattle.command_loop.specs.Flow.{flow}
use Rattle.journal_replay.proofs.replay.run_report.Goals as goal

pub returns-clause-replay : goal.returns-clause-replay
returns-clause-replay g c = (
  c.run.result,
  c.status.ensures,
  subst (λ report. IsReplay report c.args.most (g.S.Source.told c.args.source.now)
      (g.S.Source.told c.run.new.source) (g.T.Sink.taken c.args.sink.now)
      (g.T.Sink.taken c.run.new.sink) c.run.result) c.new-replayer.ensures.report
      (replay_of c.args.most c.new-replayer.result c.run.new.consumer
      (g.S.Source.told c.args.source.now) (g.S.Source.told c.run.new.source)
      (g.T.Sink.taken c.args.sink.now) (g.T.Sink.taken c.run.new.sink) c.run.result
      c.run.ensures.ran),
)

pub returns-clause-judged : goal.returns-clause-judged
returns-clause-judged g c = λ profile place list tells read write.
    subst (λ (n : ℕ). IsStatusOf n profile place list) (sym c.status.ensures)
    (judged-complete c.args.most c.new-replayer.result c.run.new.consumer
    (flow (g.S.Source.told c.args.source.now) (g.S.Source.told c.run.new.source)
    (g.T.Sink.taken c.args.sink.now) (g.T.Sink.taken c.run.new.sink))
    (g.S.Source.told c.args.source.now) c.run.result
    (c.run.ensures.complete read write) profile place list tells)

pub returns-clause-refused : goal.returns-clause-refused
returns-clause-refused g c = λ tells read write.
    subst (λ (n : ℕ). (n ≡ 3) ⊎ (n ≡ 6)) (sym c.status.ensures)
    (refused-complete c.args.most c.new-replayer.result c.run.new.consumer
    (flow (g.S.Source.told c.args.source.now) (g.S.Source.told c.run.new.source)
    (g.T.Sink.taken c.args.sink.now) (g.T.Sink.taken c.run.new.sink))
    (g.S.Source.told c.args.source.now) c.run.result
    (c.run.ensures.complete read write) tells)
