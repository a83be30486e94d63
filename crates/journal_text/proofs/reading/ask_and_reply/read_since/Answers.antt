use Rattle.std.proofs.lemmas.Bool.{both_ways}
use Rattle.journal_text.proofs.ContentLemmas.{is_dash, is_since, no_since}
use Rattle.journal_text.proofs.reading.ask_and_reply.read_since.Goals as goal

pub returns-then-is : goal.returns-then-is
returns-then-is c = is_dash c.args.text.now (c.is.ensures.0 c.if-is.true)

pub returns-in_err-since : goal.returns-in_err-since
returns-in_err-since c = rw c.from_residual.ensures
    (no_since c.args.text.now (λ e. both_ways c.is.result c.if-is.false (c.is.ensures.1 e))
    c.in_err-since.ensures)

pub returns : goal.returns
returns c = is_since c.args.text.now c.in_ok-since.since c.in_ok-since.ensures
