use Rattle.std.proofs.Common.{◌∙◌, ap, refl, rules, sym, subst}
use Rattle.asp_messages.specs.RequestSpelling.{SpellsRequest}
use Rattle.asp_messages.specs.Stream.{HasNoMessage}
use Rattle.message_framing.specs.ReaderState.{ReaderState}
use Rattle.pipe_command.specs.declared.pipe.Pipe.{Pipe}
use Rattle.pipe_command.specs.declared.responder.Responder.{Responder}
use Rattle.pipe_command.specs.PlainRun.{closing, output_of}
use Rattle.pipe_command.proofs.ProgressLemmas.{fit_of_spelling}
use Rattle.pipe_command.proofs.ResponderLemmas.{begin_did, not_true, step_breaks, step_broken, step_did, step_lacks, step_lacks_all, step_smaller}
use Rattle.pipe_command.proofs.responder.ResponderConsumer.step.Goals as goal

pub returns-then-not-self-clause-did : goal.returns-then-not-self-clause-did
returns-then-not-self-clause-did g c = λ is first taken due went.
    begin_did g.K.Keeper first c.args.self.now _ taken due refl refl refl refl
    (search rules) refl refl went

pub answer-requires : goal.answer-requires
answer-requires g c =
    let took = c.in-Message.ensures.message in
    record { message = fit_of_spelling took.front c.in-Message.message took.spells }

pub returns-in-Ok-clause-did : goal.returns-in-Ok-clause-did
returns-in-Ok-clause-did g c = λ is first taken due went.
    step_did g.K.Keeper first c.args.self.now c.next.new.self c.answer.new.self taken due
    c.in-Message.message went (search rules)
    (λ wrong. let ends = c.next.ensures.stays wrong in let is = c.in-Message.is in cc)
    c.in-Message.ensures.message c.answer.ensures.keeps c.in-Ok.ensures.answered

pub returns-in-Ok-clause-fewer : goal.returns-in-Ok-clause-fewer
returns-in-Ok-clause-fewer g c = λ is.
    step_smaller g.K.Keeper c.args.self.now c.next.new.self c.answer.new.self c.in-Message.message
    c.in-Message.ensures.message c.answer.ensures.keeps

pub returns-in-Err-clause-no_memory : goal.returns-in-Err-clause-no_memory
returns-in-Err-clause-no_memory g c = λ is first taken due went.
    step_lacks g.K.Keeper first c.args.self.now c.next.new.self c.answer.new.self taken due
    c.in-Message.message went (search rules)
    (λ wrong. let ends = c.next.ensures.stays wrong in let is = c.in-Message.is in cc)
    c.in-Message.ensures.message c.answer.ensures.keeps c.in-Err.ensures.journal
    c.in-Err.ensures.no_memory

pub returns-then-not-more-clause-more : goal.returns-then-not-more-clause-more
returns-then-not-more-clause-more g c = λ is first taken due went.
    step_broken g.K.Keeper first c.args.self.now _ taken due refl refl refl went
    (c.in-Broken.ensures.hopeless refl) (search rules) refl (c.in-Broken.ensures.broken refl)

pub returns-in-More-clause-waits : goal.returns-in-More-clause-waits
returns-in-More-clause-waits g c = λ is.
    let same = c.in-More.ensures.more refl in
    record {
      is_begun = search rules;
      may_feed = ap (λ (h : ReaderState). h.may_feed) same;
      none = λ whole. subst (HasNoMessage SpellsRequest)
          (sym (ap (λ (h : ReaderState). h.held) same))
          (c.in-More.ensures.none_whole refl);
      whole = λ more. ap (λ (h : ReaderState). h.is_broken) same
          ∙ not_true c.args.self.now.stream.reader.is_broken
          (λ wrong. let ends = c.next.ensures.stays wrong in let is = c.in-More.is in cc);
    }

pub returns-else-not-more-clause-over : goal.returns-else-not-more-clause-over
returns-else-not-more-clause-over g c = λ first taken due went. (
  search rules,
  (
    c.give_closing.ensures.given ∙ ap (λ (p : Pipe). closing (output_of p.journal)) went.2.pipe,
    step_breaks g.K.Keeper first c.args.self.now c.give_closing.new.self taken due
        (ap (λ (r : Responder _). r.pipe) c.give_closing.ensures.same)
        (ap (λ (r : Responder _). r.desk) c.give_closing.ensures.same)
        (ap (λ (r : Responder _). r.clock) c.give_closing.ensures.same) went
        (c.in-Broken.ensures.hopeless refl) (search rules),
  ),
)

pub returns-in-NoMemory-clause-no_memory : goal.returns-in-NoMemory-clause-no_memory
returns-in-NoMemory-clause-no_memory g c = λ is first taken due went.
    step_lacks_all g.K.Keeper first c.args.self.now _ taken due refl refl refl went (search rules)
