use Rattle.std.proofs.Common.{◌∙◌, ap, subst}
use Rattle.asp_messages.specs.Fields.{most_cookie}
use Rattle.command_loop.specs.Flow.{flow}
use Rattle.plain_desk.specs.Openings.{Opening, opening_with}
use Rattle.plain_desk.proofs.OpeningLemmas.{fresh-empty, opening-empty}
use Rattle.script_runner.specs.Drive.{IsDrive}
use Rattle.script_runner.proofs.drive.run_drive.Goals as goal

pub run_drive_over-requires-clause-fresh : goal.run_drive_over-requires-clause-fresh
run_drive_over-requires-clause-fresh g c =
    fresh-empty g.K.Keeper c.args.keeper c.new-cookies.result c.requires.empty

pub returns-clause-ran : goal.returns-clause-ran
returns-clause-ran g c =
    let ran = c.run_drive_over.ensures.ran in (
      ran.0,
      ran.1,
      subst (λ (o : Opening). IsDrive g.K.Keeper.can_count
          (record { most = c.args.most; opening = o })
          (flow (g.S.Source.told c.args.source.now) (g.S.Source.told c.run_drive_over.new.source)
          (g.T.Sink.taken c.args.sink.now) (g.T.Sink.taken c.run_drive_over.new.sink))
          (g.K.Keeper.told c.run_drive_over.result.keeper)
          (g.K.Keeper.count c.run_drive_over.result.keeper) ran.0)
          (opening-empty g.K.Keeper c.args.keeper c.new-cookies.result c.requires.empty
          c.requires.no_faults
          ∙ ap (λ k. let o : Opening = record (opening_with 1 most_cookie) { cookies = k } in o)
          c.new-cookies.ensures) ran.2,
    )
