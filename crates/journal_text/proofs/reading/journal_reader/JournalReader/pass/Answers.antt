use Rattle.journal_text.specs.WritingText.{entry_words}
use Rattle.journal_text.proofs.ReadingLemmas.{none_found, nothing_passes, passed, passed_reads}
use Rattle.journal_text.proofs.reading.journal_reader.JournalReader.pass.Goals as goal

pub returns-in-Some-first_line-clause-takes : goal.returns-in-Some-first_line-clause-takes
returns-in-Some-first_line-clause-takes c =
    let inside = c.self.inside in
    passed inside.lines inside.offset inside.begun inside.is_broken inside.may_feed
    c.args.self.now c.self.view_is c.first_line.new.self c.in-Some-first_line.len
    c.in-Some-first_line.ensures.same c.in-Some-first_line.ensures.line c.in-Some.profile
    c.take.new.self c.in-Some.is c.take.ensures

pub returns-in-Some-first_line-clause-reads : goal.returns-in-Some-first_line-clause-reads
returns-in-Some-first_line-clause-reads c =
    let inside = c.self.inside in
    passed_reads inside.lines inside.offset inside.begun inside.is_broken inside.may_feed
    c.args.self.now c.self.view_is c.first_line.new.self c.in-Some-first_line.len
    c.in-Some-first_line.ensures.same c.in-Some-first_line.ensures.line c.in-Some.profile
    c.take.new.self c.in-Some.is c.take.ensures

pub returns-in_default-first_line-clause-takes : goal.returns-in_default-first_line-clause-takes
returns-in_default-first_line-clause-takes c = λ e begins.
    let inside = c.self.inside in
    absurd (nothing_passes inside.lines inside.offset inside.begun inside.is_broken
    inside.may_feed c.args.self.now c.self.view_is
    (none_found c.first_line.result _ _ (λ n is. c.in_default-first_line.not-Some n is)
    c.first_line.ensures.line) (entry_words begins.profile e) begins.begins)

pub returns-in_default-first_line-clause-may_not_feed :
    goal.returns-in_default-first_line-clause-may_not_feed
returns-in_default-first_line-clause-may_not_feed c =
    let inside = c.self.inside in
    let begins = c.requires.entry.1 in
    absurd (nothing_passes inside.lines inside.offset inside.begun inside.is_broken
    inside.may_feed c.args.self.now c.self.view_is
    (none_found c.first_line.result _ _ (λ n is. c.in_default-first_line.not-Some n is)
    c.first_line.ensures.line) (entry_words begins.profile c.requires.entry.0) begins.begins)

pub returns-in_default-first_line-clause-reads : goal.returns-in_default-first_line-clause-reads
returns-in_default-first_line-clause-reads c = λ e begins text taken has.
    let inside = c.self.inside in
    absurd (nothing_passes inside.lines inside.offset inside.begun inside.is_broken
    inside.may_feed c.args.self.now c.self.view_is
    (none_found c.first_line.result _ _ (λ n is. c.in_default-first_line.not-Some n is)
    c.first_line.ensures.line) (entry_words begins.profile e) begins.begins)
