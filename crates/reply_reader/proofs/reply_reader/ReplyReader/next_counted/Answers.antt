use Rattle.asp_messages.specs.ReplySpelling.{StreamAnswer, reply, strange}
use Rattle.reply_reader.specs.ReplyNext.{IfMessage, TakesReplyCounted}
use Rattle.std.proofs.Common.{◌-◌, ◌≡◌, ◌⊎◌, inl, inr, sym, ap, subst, ◌∙◌, true}
use Rattle.asp_messages.specs.ReplySpelling.{SpellsReply}
use Rattle.asp_messages.specs.Stream.{HasNoMessage, IsHopeless}
use Rattle.message_framing.specs.ReaderState.{CountedReader}
use Rattle.reply_reader.specs.ReplyLaws.{none-none, hopeless-hopeless, takes}
use Rattle.reply_reader.proofs.reply_reader.ReplyReader.next_counted.Goals.{in-Message-Reply, in-Message-Strange, in-More, in-Broken, in-NoMemory}
use Rattle.reply_reader.proofs.reply_reader.ReplyReader.next_counted.Goals as goal

pub returns-clause-none_whole : goal.returns-clause-none_whole
returns-clause-none_whole g c = λ is.
    let held = c.args.self.now.bytes.held in
    let answer : Type 0 = HasNoMessage SpellsReply held in
    elim c.match-next_counted.branch as (λ _. answer) [
      | in-Message-Reply w ↦ (let clash = sym w.result-is ∙ is in cc)
      | in-Message-Strange w ↦ (let clash = sym w.result-is ∙ is in cc)
      | in-More w ↦ subst (λ
          (r : CountedReader). HasNoMessage SpellsReply r.bytes.held) c.self.view_is
          (none-none c.self.inside.reader.bytes.held
          (c.next_counted.ensures.none_whole w.in-More.is))
      | in-Broken w ↦ (let clash = sym w.result-is ∙ is in cc)
      | in-NoMemory w ↦ (let clash = sym w.result-is ∙ is in cc)
    ]

pub returns-clause-hopeless : goal.returns-clause-hopeless
returns-clause-hopeless g c = λ is.
    let answer : Type 0 = (c.args.self.now.bytes.is_broken ≡ true)
    ⊎ IsHopeless SpellsReply c.args.self.now.bytes.held in
    elim c.match-next_counted.branch as (λ _. answer) [
      | in-Message-Reply w ↦ (let clash = sym w.result-is ∙ is in cc)
      | in-Message-Strange w ↦ (let clash = sym w.result-is ∙ is in cc)
      | in-More w ↦ (let clash = sym w.result-is ∙ is in cc)
      | in-Broken w ↦ elim (c.next_counted.ensures.hopeless w.in-Broken.is) as (λ _. answer) [
        | inl was ↦ inl (ap (λ (r : CountedReader). r.bytes.is_broken) (sym c.self.view_is) ∙ was)
        | inr none ↦ inr (subst (λ (r : CountedReader). IsHopeless SpellsReply r.bytes.held)
            c.self.view_is (hopeless-hopeless c.self.inside.reader.bytes.held none))
      ]
      | in-NoMemory w ↦ (let clash = sym w.result-is ∙ is in cc)
    ]

pub returns-clause-message : goal.returns-clause-message
returns-clause-message g c =
    let new = c.next_counted.new.self in
    let ticks = c.next_counted.new.steps - c.args.steps.now in
    let P : StreamAnswer → Type 0 = TakesReplyCounted c.args.self.now new ticks in
    elim c.match-next_counted.branch as (λ _. IfMessage c.match-next_counted.result P) [
      | in-Message-Reply w ↦ rw w.result-is (subst
          (λ (r : CountedReader). TakesReplyCounted r new ticks (reply w.in-Message-Reply.reply))
          c.self.view_is
          (rw w.in-Message-Reply.field-0-is at
          (takes c.self.inside.reader new ticks w.in-Message-Reply.field-0
          (rw w.in-Message-Reply.is at c.next_counted.ensures.counted))))
      | in-Message-Strange w ↦ rw w.result-is
          (subst (λ (r : CountedReader). TakesReplyCounted r new ticks
          (strange w.in-Message-Strange.status))
          c.self.view_is
          (rw w.in-Message-Strange.field-0-is at
          (takes c.self.inside.reader new ticks w.in-Message-Strange.field-0
          (rw w.in-Message-Strange.is at c.next_counted.ensures.counted))))
      | in-More w ↦ rw w.result-is tt
      | in-Broken w ↦ rw w.result-is tt
      | in-NoMemory w ↦ rw w.result-is tt
    ]
