use Rattle.std.proofs.Common.{ℕ, ◌≡◌, sym, ◌∙◌, subst}
use Rattle.std.specs.Prelude.{◌⊎◌}
use Rattle.script_runner.specs.Drive.{TellsFewer}
use Rattle.farm_command.specs.FarmDrive.{TellsFarmScript}
use Rattle.farm_command.proofs.CompleteLemmas.{complete_farm, no_farm_script}
use Rattle.farm_command.proofs.RunLemmas.{farm_of, servers_kept}
use Rattle.farm_command.proofs.farm_run.run_farm.Goals as goal

pub returns-clause-ran : goal.returns-clause-ran
returns-clause-ran g c = (
  c.run-end.result,
  c.status.ensures,
  farm_of g.K.Keeper c.args.most _ c.run-end.new.consumer (g.S.Source.told c.args.source.now)
      (g.S.Source.told c.run-end.new.source) (g.T.Sink.taken c.args.sink.now)
      (g.T.Sink.taken c.run-end.new.sink) c.run-end.result c.run-end.ensures.ran,
)

pub returns-clause-servers : goal.returns-clause-servers
returns-clause-servers g c =
    servers_kept g.K.Keeper c.args.most _ c.run-end.new.consumer
    (g.S.Source.told c.args.source.now)
    (g.S.Source.told c.run-end.new.source) (g.T.Sink.taken c.args.sink.now)
    (g.T.Sink.taken c.run-end.new.sink) c.run-end.result c.run-end.ensures.ran

pub returns-clause-broken : goal.returns-clause-broken
returns-clause-broken g c = λ is script.
    no_farm_script g.K.Keeper c.run-end.new.consumer.scripts c.args.most
    (g.T.Sink.taken c.args.sink.now) (g.T.Sink.taken c.run-end.new.sink)
    (g.S.Source.told c.args.source.now) (g.S.Source.told c.run-end.new.source) c.run-end.result
    (farm_of g.K.Keeper c.args.most _ c.run-end.new.consumer (g.S.Source.told c.args.source.now)
    (g.S.Source.told c.run-end.new.source) (g.T.Sink.taken c.args.sink.now)
    (g.T.Sink.taken c.run-end.new.sink) c.run-end.result c.run-end.ensures.ran)
    (sym c.status.ensures ∙ is)
    (subst (λ (n : ℕ). TellsFarmScript n (g.S.Source.told c.args.source.now))
    (sym (servers_kept g.K.Keeper c.args.most _ c.run-end.new.consumer
    (g.S.Source.told c.args.source.now)
    (g.S.Source.told c.run-end.new.source) (g.T.Sink.taken c.args.sink.now)
    (g.T.Sink.taken c.run-end.new.sink) c.run-end.result c.run-end.ensures.ran)) script)

pub returns-clause-complete : goal.returns-clause-complete
returns-clause-complete g c = λ script fewer read write.
    subst (λ (n : ℕ). (n ≡ 0) ⊎ (n ≡ 6)) (sym c.status.ensures)
    (complete_farm g.K.Keeper c.run-end.new.consumer.scripts c.args.most
    (g.T.Sink.taken c.args.sink.now) (g.T.Sink.taken c.run-end.new.sink)
    (g.S.Source.told c.args.source.now) (g.S.Source.told c.run-end.new.source) c.run-end.result
    (farm_of g.K.Keeper c.args.most _ c.run-end.new.consumer (g.S.Source.told c.args.source.now)
    (g.S.Source.told c.run-end.new.source) (g.T.Sink.taken c.args.sink.now)
    (g.T.Sink.taken c.run-end.new.sink) c.run-end.result c.run-end.ensures.ran)
    (subst (λ (n : ℕ). TellsFarmScript n (g.S.Source.told c.args.source.now))
    (sym (servers_kept g.K.Keeper c.args.most _ c.run-end.new.consumer
    (g.S.Source.told c.args.source.now)
    (g.S.Source.told c.run-end.new.source) (g.T.Sink.taken c.args.sink.now)
    (g.T.Sink.taken c.run-end.new.sink) c.run-end.result c.run-end.ensures.ran)) script)
    fewer (λ e. read (c.run-end.ensures.read e)) (λ e. write (c.run-end.ensures.write e)))
