use Rattle.std.proofs.Common.{sym, subst}
use Rattle.plain_desk.specs.DeskStands.{desk_state}
use Rattle.load_generator.specs.LoadRun.{IsLoad}
use Rattle.load_generator.proofs.EndLemmas.{unfinished, finished}
use Rattle.load_generator.proofs.load.run_load.Goals as goal

pub returns-in_default-clause-load : goal.returns-in_default-clause-load
returns-in_default-clause-load g c =
    let asked = c.in_default.ensures.asked in
    subst (λ k. IsLoad g.K.Keeper.can_count c.args.load (g.T.Sink.taken c.args.sink.now) (record {
      status = 6;
      sink = g.T.Sink.taken c.args.sink.now;
      told = g.K.Keeper.told k;
      faults = g.K.Keeper.count k;
    }))
    (sym c.into_keeper.ensures)
    (unfinished g.K.Keeper.can_count c.args.load (g.T.Sink.taken c.args.sink.now)
    (desk_state g.K.Keeper c.ask_all.new.desk) asked.0 asked.1)

pub returns-clause-load : goal.returns-clause-load
returns-clause-load g c =
    let asked = c.in-Ok.ensures.asked in
    subst (λ k. IsLoad g.K.Keeper.can_count c.args.load (g.T.Sink.taken c.args.sink.now) (record {
      status = c.write_counts.result;
      sink = g.T.Sink.taken c.write_counts.new.sink;
      told = g.K.Keeper.told k;
      faults = g.K.Keeper.count k;
    }))
    (sym c.into_keeper-2.ensures)
    (finished g.K.Keeper.can_count c.args.load c.sweep-removed.result c.write_counts.result
    (g.T.Sink.taken c.args.sink.now) (g.T.Sink.taken c.write_counts.new.sink)
    (desk_state g.K.Keeper c.sweep-removed.new.desk) c.in-Ok.counts asked.0
    (desk_state g.K.Keeper c.ask_all.new.desk, asked.1) asked.2.0 asked.2.1
    (c.sweep-removed.ensures.sweeps 1 asked.0 asked.1.desk) c.write_counts.ensures.writes)
