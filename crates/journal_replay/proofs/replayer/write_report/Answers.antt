use Rattle.std.proofs.Common.{sym, subst, ◌∙◌}
use Rattle.journal_text.specs.JudgingLine.{judgement_line}
use Rattle.journal_replay.specs.ReplayProgress.{IsLegalVerdict, ReportsTaken}
use Rattle.journal_replay.proofs.ReportLemmas.{illegal_reported, with_fact}
use Rattle.journal_replay.proofs.replayer.write_report.Goals as goal

pub write_legal-requires : goal.write_legal-requires
write_legal-requires c = record {
  legal = subst IsLegalVerdict (sym c.in-Legal.is ∙ c.verdict-judgement.ensures.verdict) tt;
}

pub returns-in-Illegal : goal.returns-in-Illegal
returns-in-Illegal c =
    with_fact c.write_judgement.result c.args.out.now.items c.write_judgement.new.out.items
    (judgement_line c.profile.result c.verdict-judgement.result.now)
    (ReportsTaken c.args.report c.args.checker.now) c.write_judgement.ensures.ok
    (illegal_reported c.args.report c.args.checker.now c.profile.result
    c.verdict-judgement.result.now c.profile.ensures c.verdict-judgement.ensures.verdict
    (λ legal. subst IsLegalVerdict c.in-Illegal.is legal))
