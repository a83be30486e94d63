use Rattle.std.proofs.Common.{◌∙◌, ap, sym}
use Rattle.pipe_command.specs.declared.responder.Given.{Given}
use Rattle.pipe_command.specs.Giving.{given_head}
use Rattle.pipe_command.proofs.ResponderLemmas.{first_line}
use Rattle.pipe_command.proofs.responder.ResponderConsumer.parts.Goals as goal

pub returns-in-FirstLine-clause-head : goal.returns-in-FirstLine-clause-head
returns-in-FirstLine-clause-head g c =
    first_line
    ∙ ap (λ (v : Given). given_head v c.args.self.now.line.items) (sym c.in-FirstLine.is)
