use Rattle.std.proofs.Common.{◌≡◌, ◌⊎◌, inl, inr, sym, ap, subst, ◌∙◌, true}
use Rattle.asp_messages.specs.ReplySpelling.{SpellsReply}
use Rattle.asp_messages.specs.Stream.{HasNoMessage, IsHopeless}
use Rattle.message_framing.specs.ReaderState.{CountedReader}
use Rattle.reply_reader.specs.ReplyLaws.{none-none, hopeless-hopeless}
use Rattle.reply_reader.proofs.reply_reader.ReplyReader.next.Goals.{in-Message-Reply, in-Message-Strange, in-More, in-Broken, in-NoMemory}
use Rattle.reply_reader.proofs.reply_reader.ReplyReader.next.Goals as goal

pub returns-clause-none_whole : goal.returns-clause-none_whole
returns-clause-none_whole c = λ is.
    let held = c.args.self.now.bytes.held in
    let answer : Type 0 = HasNoMessage SpellsReply held in
    elim c.match-next.branch as (λ _. answer) [
      | in-Message-Reply w ↦ (let clash = sym w.result-is ∙ is in cc)
      | in-Message-Strange w ↦ (let clash = sym w.result-is ∙ is in cc)
      | in-More w ↦ subst (λ
          (r : CountedReader). HasNoMessage SpellsReply r.bytes.held) c.self.view_is
          (none-none c.self.inside.reader.bytes.held (c.next.ensures.none_whole w.in-More.is))
      | in-Broken w ↦ (let clash = sym w.result-is ∙ is in cc)
      | in-NoMemory w ↦ (let clash = sym w.result-is ∙ is in cc)
    ]

pub returns-clause-hopeless : goal.returns-clause-hopeless
returns-clause-hopeless c = λ is.
    let answer : Type 0 = (c.args.self.now.bytes.is_broken ≡ true)
    ⊎ IsHopeless SpellsReply c.args.self.now.bytes.held in
    elim c.match-next.branch as (λ _. answer) [
      | in-Message-Reply w ↦ (let clash = sym w.result-is ∙ is in cc)
      | in-Message-Strange w ↦ (let clash = sym w.result-is ∙ is in cc)
      | in-More w ↦ (let clash = sym w.result-is ∙ is in cc)
      | in-Broken w ↦ elim (c.next.ensures.hopeless w.in-Broken.is) as (λ _. answer) [
        | inl was ↦ inl (ap (λ (r : CountedReader). r.bytes.is_broken) (sym c.self.view_is) ∙ was)
        | inr none ↦ inr (subst (λ (r : CountedReader). IsHopeless SpellsReply r.bytes.held)
            c.self.view_is (hopeless-hopeless c.self.inside.reader.bytes.held none))
      ]
      | in-NoMemory w ↦ (let clash = sym w.result-is ∙ is in cc)
    ]
