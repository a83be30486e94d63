use Rattle.std.proofs.Common.{subst, sym}
use Rattle.command_loop.specs.Flow.{Flow, flow}
use Rattle.id_gateway.specs.declared.words.GateTerms.{GateTerms}
use Rattle.id_gateway.specs.Gate.{IsGateRun, gate_seen}
use Rattle.id_gateway.specs.Keeping.{random_of}
use Rattle.id_gateway.proofs.top_call.run_gate.Goals as goal

pub returns-clause-ran : goal.returns-clause-ran
returns-clause-ran g c =
    let f : Flow = flow (g.S.Source.told c.args.source.now)
    (g.S.Source.told c.run_keeper-end.new.source) (g.T.Sink.taken c.args.sink.now)
    (g.T.Sink.taken c.run_keeper-end.new.sink) in
    let end = c.run_keeper-end.result in
    let after = c.run_keeper-end.new.gatekeeper in (
      end,
      c.status-status.ensures,
      subst (λ k. IsGateRun g.K.Keeper.can_count c.args.gate (gate_seen f
          (random_of g.R.Random c.args.random) (random_of g.R.Random after.random)
          (g.K.Keeper.told k) (g.K.Keeper.count k)) end) (sym c.into_keeper.ensures)
          (subst (λ r. IsGateRun g.K.Keeper.can_count c.args.gate (gate_seen f
          (random_of g.R.Random r) (random_of g.R.Random after.random)
          (g.K.Keeper.told after.desk.keeper) (g.K.Keeper.count after.desk.keeper)) end)
          c.new-gatekeeper.ensures.random
          (subst (λ (t : GateTerms). IsGateRun g.K.Keeper.can_count t (gate_seen f
          (random_of g.R.Random c.new-gatekeeper.result.random) (random_of g.R.Random after.random)
          (g.K.Keeper.told after.desk.keeper) (g.K.Keeper.count after.desk.keeper)) end)
          c.new-gatekeeper.ensures.gate c.run_keeper-end.ensures.ran)),
    )
