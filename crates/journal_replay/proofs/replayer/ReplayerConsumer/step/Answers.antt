use Rattle.std.proofs.Common.{◌++◌, ◌∙◌, ap}
use Rattle.journal_replay.specs.Replay.{stop_line}
use Rattle.journal_replay.proofs.LineLemmas.{entry_at, few_taken, head_at, none_last, none_more, line_only, stops_none}
use Rattle.journal_replay.proofs.replayer.ReplayerConsumer.step.Goals as goal

pub take-requires-clause-few : goal.take-requires-clause-few
take-requires-clause-few c =
    let short = c.requires.short in
    let took = c.in-Entry.ensures.entry in
    few_taken short.1 c.args.self.now.reader c.args.self.now.checker took.profile short.3.0 short.4
    took.started

pub returns-in-Head-clause-did : goal.returns-in-Head-clause-did
returns-in-Head-clause-did c = λ is first taken given went.
    let took = c.in-Head.ensures.head in (
      (
        head_at taken c.in-Head.profile c.in-Head.place c.args.self.now.reader c.next.new.self
            c.args.self.now.checker
            c.new.result took.1 went.0 (c.in-Head.ensures.reads taken) took.2.is_whole
            c.new.ensures.profile c.new.ensures.first_place c.new.ensures.taken,
        none_more given c.args.self.now.text.items went.1 went.2,
        went.2,
        went.3,
      ),
      none_last
          c.args.self.now.text.items went.2,
    )

pub returns-in-Ok-clause-did : goal.returns-in-Ok-clause-did
returns-in-Ok-clause-did c = λ is first taken given went.
    let took = c.in-Entry.ensures.entry in (
      (
        entry_at taken c.in-Entry.entry c.args.self.now.reader c.next.new.self
            c.args.self.now.checker
            c.take.new.self took.profile took.started went.0 (c.in-Entry.ensures.reads taken)
            took.takes.is_whole c.in-Ok.ensures.profile c.in-Ok.ensures.first_place
            c.in-Ok.ensures.taken,
        none_more given c.args.self.now.text.items went.1 went.2,
        went.2,
        went.3,
      ),
      none_last
          c.args.self.now.text.items went.2,
    )

pub returns-in-Ok-write_stop-clause-over : goal.returns-in-Ok-write_stop-clause-over
returns-in-Ok-write_stop-clause-over c = λ first taken given went. (
  went.1,
  (
    c.in-NotAJournal.offset,
    stops_none taken c.args.self.now.reader c.next.new.self c.args.self.now.checker
        c.in-NotAJournal.offset c.in-NotAJournal.ensures.broken c.in-NotAJournal.ensures.offset
        (c.in-NotAJournal.ensures.reads taken) went.0,
    line_only c.write_stop.new.out.items (stop_line c.in-NotAJournal.offset)
        (c.in-Ok-write_stop.ensures
        ∙ ap (λ out. out ++ stop_line c.in-NotAJournal.offset) went.2),
  ),
)
