use Rattle.std.proofs.Common.{◌∙◌, ap, refl, is_some}
use Rattle.pipe_command.specs.declared.pipe.Pipe.{Pipe}
use Rattle.pipe_command.specs.declared.responder.Responder.{Responder}
use Rattle.pipe_command.specs.PlainRun.{closing, output_of}
use Rattle.pipe_command.proofs.ResponderLemmas.{finish_broken, finish_whole, not_both}
use Rattle.pipe_command.proofs.responder.ResponderConsumer.finish.Goals as goal

pub returns-in-None-clause-over : goal.returns-in-None-clause-over
returns-in-None-clause-over g c = λ first taken due went. (
  refl,
  finish_whole g.K.Keeper first c.args.self.now _ taken due refl refl refl went c.requires.waits
      (c.finish.ensures.finished.0 (ap is_some c.in-None.is)).1,
)

pub returns-in-Some-clause-over : goal.returns-in-Some-clause-over
returns-in-Some-clause-over g c = λ first taken due went. (
  c.give_closing.ensures.given ∙ ap (λ (p : Pipe). closing (output_of p.journal)) went.2.pipe,
  finish_broken g.K.Keeper first c.args.self.now c.give_closing.new.self taken due
      (ap (λ (r : Responder _). r.pipe) c.give_closing.ensures.same)
      (ap (λ (r : Responder _). r.desk) c.give_closing.ensures.same)
      (ap (λ (r : Responder _). r.clock) c.give_closing.ensures.same) went c.requires.waits
      (λ none.
      not_both (is_some c.finish.result)
      (c.finish.ensures.finished.1 (c.requires.waits.whole refl, none))
      (ap is_some c.in-Some.is)),
)
