use Rattle.journal_text.specs.WritingText.{head_words}
use Rattle.journal_text.proofs.ReadingLemmas.{broken_no_line, broken_keeps, broken_stops, looked, looked_begun, looked_same, no_head_there}
use Rattle.journal_text.proofs.reading.journal_reader.JournalReader.look.Goals as goal

pub returns-in-Some-read_head-clause-head : goal.returns-in-Some-read_head-clause-head
returns-in-Some-read_head-clause-head c =
    let inside = c.self.inside in (
      c.in-Some-read_head.ensures.0,
      looked_begun inside.lines inside.offset inside.begun inside.is_broken inside.may_feed
          c.args.self.now c.self.view_is c.first_line.new.self c.in-Some.len
          c.in-Some.ensures.same c.in-Some.ensures.line c.in-None.is,
      looked inside.lines inside.offset inside.begun inside.is_broken inside.may_feed
          c.args.self.now c.self.view_is c.first_line.new.self c.in-Some.len
          c.in-Some.ensures.same c.in-Some.ensures.line c.as_slice-2.result.now
          (head_words c.in-Some-read_head.profile c.in-Some-read_head.place) c.as_slice-2.ensures
          c.if-self.false c.in-Some-read_head.ensures.1,
      looked_same inside.lines inside.offset inside.begun inside.is_broken inside.may_feed
          c.args.self.now c.self.view_is c.first_line.new.self c.in-Some.len
          c.in-Some.ensures.same c.in-Some.ensures.line,
    )

pub returns-in-None-read_head-clause-no_line : goal.returns-in-None-read_head-clause-no_line
returns-in-None-read_head-clause-no_line c =
    let inside = c.self.inside in
    let wrong = no_head_there inside.lines inside.offset inside.begun inside.is_broken
    inside.may_feed c.args.self.now c.self.view_is c.if-self.false
    c.first_line.new.self c.as_slice-2.result.now c.in-Some.len c.in-Some.ensures.same
    c.as_slice-2.ensures c.in-Some.ensures.line c.in-None.is c.in-None-read_head.ensures in
    broken_no_line
    inside.lines inside.offset inside.begun inside.is_broken inside.may_feed
    c.args.self.now c.self.view_is c.if-self.false
    c.break_off-in-None-read_head.result wrong c.break_off-in-None-read_head.ensures.answer

pub returns-in-None-read_head-clause-reads : goal.returns-in-None-read_head-clause-reads
returns-in-None-read_head-clause-reads c =
    let inside = c.self.inside in
    let wrong = no_head_there inside.lines inside.offset inside.begun inside.is_broken
    inside.may_feed c.args.self.now c.self.view_is c.if-self.false
    c.first_line.new.self c.as_slice-2.result.now c.in-Some.len c.in-Some.ensures.same
    c.as_slice-2.ensures c.in-Some.ensures.line c.in-None.is c.in-None-read_head.ensures in
    broken_keeps
    inside.lines inside.offset inside.begun inside.is_broken inside.may_feed
    c.args.self.now c.self.view_is c.if-self.false
    c.break_off-in-None-read_head.result wrong c.break_off-in-None-read_head.ensures.answer
    c.break_off-in-None-read_head.new.self c.break_off-in-None-read_head.ensures.broken

pub returns-in-None-read_head-clause-stops : goal.returns-in-None-read_head-clause-stops
returns-in-None-read_head-clause-stops c =
    let inside = c.self.inside in
    let wrong = no_head_there inside.lines inside.offset inside.begun inside.is_broken
    inside.may_feed c.args.self.now c.self.view_is c.if-self.false
    c.first_line.new.self c.as_slice-2.result.now c.in-Some.len c.in-Some.ensures.same
    c.as_slice-2.ensures c.in-Some.ensures.line c.in-None.is c.in-None-read_head.ensures in
    broken_stops
    inside.lines inside.offset inside.begun inside.is_broken inside.may_feed
    c.args.self.now c.self.view_is c.if-self.false
    c.break_off-in-None-read_head.result wrong c.break_off-in-None-read_head.ensures.answer
