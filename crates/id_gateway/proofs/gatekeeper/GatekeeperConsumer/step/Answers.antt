use Rattle.std.proofs.Common.{◌<◌, length, ◌∙◌, ap, refl, rules, sym, subst}
use Rattle.asp_messages.specs.Stream.{HasNoMessage}
use Rattle.message_framing.specs.ReaderState.{ReaderState, CountedReader}
use Rattle.page_requests.specs.Requests.{SpellsPage}
use Rattle.page_requests.proofs.RequestLemmas.{page_short}
use Rattle.id_gateway.proofs.ConsumerLemmas.{fewer_held, not_true, step_breaks, step_broken, step_did, step_lacks, step_lacks_all}
use Rattle.id_gateway.proofs.gatekeeper.GatekeeperConsumer.step.Goals as goal

pub answer-requires : goal.answer-requires
answer-requires g c =
    let spells = c.in-Message.ensures.message.spells in
    page_short spells.text spells.body _ spells.means

pub returns-in-Ok-clause-did : goal.returns-in-Ok-clause-did
returns-in-Ok-clause-did g c = λ is first taken due went.
    step_did g.K.Keeper g.R.Random first c.args.self.now
    (record c.args.self.now { reader = c.next.new.self }) c.answer.new.self taken due
    c.in-Message.request went
    (λ wrong. let ends = c.next.ensures.stays wrong in let is = c.in-Message.is in cc)
    c.in-Message.ensures.message refl refl refl refl c.answer.ensures.keeps
    c.in-Ok.ensures.answered

pub returns-in-Ok-clause-fewer : goal.returns-in-Ok-clause-fewer
returns-in-Ok-clause-fewer g c = λ is.
    subst (λ (r : CountedReader). length r.bytes.held < length c.args.self.now.reader.bytes.held)
    (sym c.answer.ensures.keeps.reader)
    (fewer_held c.args.self.now.reader.bytes c.next.new.self.bytes c.in-Message.request
    c.in-Message.ensures.message)

pub returns-in-Err-clause-no_memory : goal.returns-in-Err-clause-no_memory
returns-in-Err-clause-no_memory g c = λ is first taken due went.
    step_lacks g.K.Keeper g.R.Random first c.args.self.now
    (record c.args.self.now { reader = c.next.new.self }) c.answer.new.self taken due
    c.in-Message.request went
    (λ wrong. let ends = c.next.ensures.stays wrong in let is = c.in-Message.is in cc)
    c.in-Message.ensures.message refl refl refl refl c.answer.ensures.keeps
    c.in-Err.ensures.no_memory

pub returns-then-not-more-clause-more : goal.returns-then-not-more-clause-more
returns-then-not-more-clause-more g c = λ is first taken due went.
    step_broken g.K.Keeper g.R.Random first c.args.self.now _ taken due refl refl refl refl went
    (c.in-Broken.ensures.hopeless refl) (c.in-Broken.ensures.broken refl)

pub returns-in-More-clause-waits : goal.returns-in-More-clause-waits
returns-in-More-clause-waits g c = λ is.
    let same = c.in-More.ensures.more refl in
    record {
      may_feed = ap (λ (h : ReaderState). h.may_feed) same;
      none = λ whole. subst (HasNoMessage SpellsPage) (sym (ap (λ (h : ReaderState). h.held) same))
          (c.in-More.ensures.none_whole refl);
      whole = λ more. ap (λ (h : ReaderState). h.is_broken) same
          ∙ not_true c.args.self.now.reader.bytes.is_broken
          (λ wrong. let ends = c.next.ensures.stays wrong in let is = c.in-More.is in cc);
    }

pub returns-else-not-more-clause-over : goal.returns-else-not-more-clause-over
returns-else-not-more-clause-over g c = λ first taken due went. (
  search rules,
  (
    c.give_closing.ensures.given,
    step_breaks g.K.Keeper g.R.Random first c.args.self.now c.give_closing.new.self taken due
        (ap (λ r. r.gate) c.give_closing.ensures.same)
        (ap (λ r. r.desk) c.give_closing.ensures.same)
        (ap (λ r. r.clock) c.give_closing.ensures.same)
        (ap (λ r. r.random) c.give_closing.ensures.same) went
        (c.in-Broken.ensures.hopeless refl),
  ),
)

pub returns-in-NoMemory-clause-no_memory : goal.returns-in-NoMemory-clause-no_memory
returns-in-NoMemory-clause-no_memory g c = λ is first taken due went.
    step_lacks_all g.K.Keeper g.R.Random first c.args.self.now _ taken due refl refl refl refl went
