use Rattle.std.proofs.Common.{[], ◌++◌, ◌∙◌, ap, subst, sym}
use Rattle.journal_replay.specs.ReplayProgress.{Finds, ReportsTaken, verdict_of}
use Rattle.journal_replay.proofs.EndingLemmas.{finds_reported}
use Rattle.journal_replay.proofs.LineLemmas.{line_only}
use Rattle.journal_replay.proofs.replayer.ReplayerConsumer.finish.Goals as goal

pub returns-in_ok-write_report-in-None-clause-over :
    goal.returns-in_ok-write_report-in-None-clause-over
returns-in_ok-write_report-in-None-clause-over c = λ first taken given went.
    let told = c.in_ok-write_report-in-None.ensures in (
      went.1,
      subst (λ report. Finds report c.verdict_of.result taken (c.write_report.new.out.items ++ []))
          went.3
          (finds_reported c.args.self.now.report c.verdict_of.result taken
          (c.write_report.new.out.items ++ []) c.args.self.now.reader c.args.self.now.checker
          c.in-None.ensures.journal
          (subst (ReportsTaken c.args.self.now.report c.args.self.now.checker)
          (sym (line_only c.write_report.new.out.items told.0
          (told.1 ∙ ap (λ out. out ++ told.0) went.2))) told.2)
          (c.verdict_of.ensures ∙ ap verdict_of c.verdict.ensures.verdict) went.0),
    )
