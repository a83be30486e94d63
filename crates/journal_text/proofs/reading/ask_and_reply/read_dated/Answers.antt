use Rattle.journal_text.proofs.ContentLemmas.{is_dated_tail, no_dated_age, no_dated_since}
use Rattle.journal_text.proofs.reading.ask_and_reply.read_dated.Goals as goal

pub returns-in_err-age : goal.returns-in_err-age
returns-in_err-age c = rw c.from_residual.ensures
    (no_dated_age c.args.text.now c.in_err-age.ensures)

pub returns-in_err-since : goal.returns-in_err-since
returns-in_err-since c = rw c.from_residual-in_err-since.ensures
    (no_dated_since c.args.text.now c.in_ok-age.since.now c.in_ok-age.age c.in_ok-age.ensures.0
    c.in_ok-age.ensures.1 c.in_err-since.ensures)

pub returns : goal.returns
returns c = is_dated_tail c.args.text.now c.in_ok-age.since.now c.in_ok-age.age
    c.in_ok-since.since c.in_ok-age.ensures.0 c.in_ok-age.ensures.1 c.in_ok-since.ensures
