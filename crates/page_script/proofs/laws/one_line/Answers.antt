use Rattle.page_script.proofs.ReadingLemmas.{line_feed_nowhere, one_line_each}
use Rattle.page_script.proofs.laws.one_line.Goals as goal

pub returns-clause-one : goal.returns-clause-one
returns-clause-one c = one_line_each

pub returns-clause-no_line_feed : goal.returns-clause-no_line_feed
returns-clause-no_line_feed c = line_feed_nowhere
