use Rattle.std.proofs.Common.{subst}
use Rattle.plain_words.proofs.SplitLemmas.{not_cut}
use Rattle.journal_text.specs.JudgingObjections.{ObjectsTo}
use Rattle.state_mirror.proofs.MirrorLemmas.{applied_next, if_applied, if_illegal, mirror_stops, not_applied, not_illegal, objects_next, reader_mirrored}
use Rattle.state_mirror.proofs.mirror.Mirror.next.Goals as goal
use Rattle.state_mirror.proofs.mirror.Mirror.next.Goals.{in-None, in-Some}

pub returns-after-objection-clause-applied : goal.returns-after-objection-clause-applied
returns-after-objection-clause-applied c = elim c.match-objection.branch [
  | in-None w ↦ if_applied c.match-objection.result c.self.inside.next_place _ w.result-is
      (applied_next c.self.inside.reader c.self.inside.checker c.self.inside.may_feed
      c.args.self.now c.self.view_is c.apply.new.reader c.apply.new.checker c.in-Entry.entry
      c.in-Entry.ensures.entry.0.profile c.in-Entry.ensures.entry.0.started
      (λ text taken has. c.in-Ok.ensures.reads text taken
      (c.in-Entry.ensures.reads text taken has))
      c.in-Ok.ensures.taken c.in-Ok.ensures.profile c.in-Ok.ensures.first_place
      c.self.inside.next_place c.self.invariant.place
      (subst (ObjectsTo c.apply.new.checker.verdict) w.in-None.is c.in-Ok.ensures.told))
  | in-Some w ↦ not_applied c.match-objection.result w.in-Some.field-0.place
      w.in-Some.field-0.why _ w.result-is
]

pub returns-after-objection-clause-illegal : goal.returns-after-objection-clause-illegal
returns-after-objection-clause-illegal c = elim c.match-objection.branch [
  | in-None w ↦ not_illegal c.match-objection.result c.self.inside.next_place _ w.result-is
  | in-Some w ↦ if_illegal c.match-objection.result w.in-Some.field-0.place
      w.in-Some.field-0.why _ w.result-is
      (objects_next c.self.inside.reader c.self.inside.checker c.self.inside.may_feed
      c.args.self.now c.self.view_is c.apply.new.reader c.apply.new.checker c.in-Entry.entry
      c.in-Entry.ensures.entry.0.profile c.in-Entry.ensures.entry.0.started
      (λ text taken has. c.in-Ok.ensures.reads text taken
      (c.in-Entry.ensures.reads text taken has))
      c.in-Ok.ensures.taken c.in-Ok.ensures.profile c.in-Ok.ensures.first_place
      w.in-Some.field-0
      (subst (ObjectsTo c.apply.new.checker.verdict) w.in-Some.is c.in-Ok.ensures.told))
]

pub returns-in-NotAJournal-clause-offset : goal.returns-in-NotAJournal-clause-offset
returns-in-NotAJournal-clause-offset c =
    let inside = c.self.inside in
    mirror_stops inside.reader inside.checker inside.may_feed c.args.self.now c.self.view_is
    c.in-NotAJournal.offset c.in-NotAJournal.ensures.stops

pub returns-in-NotAJournal-clause-mirrored : goal.returns-in-NotAJournal-clause-mirrored
returns-in-NotAJournal-clause-mirrored c =
    let inside = c.self.inside in
    reader_mirrored inside.reader inside.checker inside.may_feed c.args.self.now c.self.view_is
    c.look.new.self _ c.in-NotAJournal.ensures.reads

pub unreachable-requires : goal.unreachable-requires
unreachable-requires c =
    let head = c.in-Head.ensures.head in
    let begins = head.2 in
    not_cut 10 c.self.inside.reader.held _ begins.1.0
    (c.self.invariant.head head.1 begins.0) begins.1.1.joined
