use Rattle.std.proofs.Common.{subst, sym}
use Rattle.session_listing.specs.Listing.{sessions_text}
use Rattle.journal_text.specs.JudgingLine.{judgement_line}
use Rattle.journal_replay.specs.ReplayProgress.{ReportsTaken}
use Rattle.journal_replay.proofs.ReportLemmas.{line_reported, sessions_reported, with_fact}
use Rattle.journal_replay.proofs.replayer.write_legal.Goals as goal

pub returns-in-Judgement : goal.returns-in-Judgement
returns-in-Judgement c =
    let text = judgement_line c.profile.result c.verdict.result.now in
    with_fact c.write_judgement.result c.args.out.now.items c.write_judgement.new.out.items text
    (ReportsTaken c.args.report c.args.checker.now) c.write_judgement.ensures.ok
    (subst (λ report. ReportsTaken report c.args.checker.now text) (sym c.in-Judgement.is)
    (line_reported c.args.checker.now c.profile.result c.verdict.result.now c.profile.ensures
    c.verdict.ensures.verdict))

pub returns-in-Sessions : goal.returns-in-Sessions
returns-in-Sessions c =
    let items = c.map.result.now.entries in
    let text = sessions_text c.in-Sessions.moment items in
    with_fact c.list_sessions.result c.args.out.now.items c.list_sessions.new.out.items text
    (ReportsTaken c.args.report c.args.checker.now) c.list_sessions.ensures.ok
    (subst (λ report. ReportsTaken report c.args.checker.now text) (sym c.in-Sessions.is)
    (sessions_reported c.in-Sessions.moment c.args.checker.now items text c.requires.legal
    c.map.ensures.map c.list_sessions.ensures.lists))
