use Rattle.std.proofs.Common.{[], ap, refl, subst, sym}
use Rattle.plain_desk.specs.DeskStands.{DeskOf}
use Rattle.plain_desk.specs.Openings.{HasHistoryFrom, opening_over}
use Rattle.pipe_command.specs.PlainRun.{PipeStart}
use Rattle.pipe_command.proofs.EndingLemmas.{PipeWent-start}
use Rattle.pipe_command.proofs.responder.Responder.new.Goals as goal

pub returns-clause-begun : goal.returns-clause-begun
returns-clause-begun g c =
    PipeWent-start g.K.Keeper _ c.requires.pipe refl c.new.ensures
    (subst (λ o. HasHistoryFrom g.K.Keeper o [] c.over.result)
    (sym (ap (λ (d : DeskOf _). opening_over g.K.Keeper d.keeper d.cookies) c.over.ensures.desk))
    (c.over.ensures.begins c.requires.fresh)) c.new-2.ensures

pub returns-clause-start : goal.returns-clause-start
returns-clause-start g c =
    ap (λ (d : DeskOf _). let start : PipeStart = record {
      pipe = c.args.pipe;
      opening = opening_over g.K.Keeper d.keeper d.cookies;
    } in start) c.over.ensures.desk
