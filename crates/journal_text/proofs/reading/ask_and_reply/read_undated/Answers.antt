use Rattle.session_machine.specs.declared.item.Profile.TheVariants.{One, Two}
use Rattle.journal_text.proofs.ContentLemmas.{is_plain_tail, no_plain_tail}
use Rattle.journal_text.proofs.reading.ask_and_reply.read_undated.Goals as goal

pub returns-in_err-age-clause-one : goal.returns-in_err-age-clause-one
returns-in_err-age-clause-one c = rw c.from_residual.ensures
    (no_plain_tail One c.args.text.now tt c.in_err-age.ensures)

pub returns-in_err-age-clause-two : goal.returns-in_err-age-clause-two
returns-in_err-age-clause-two c = rw c.from_residual.ensures
    (no_plain_tail Two c.args.text.now tt c.in_err-age.ensures)

pub returns-clause-one : goal.returns-clause-one
returns-clause-one c = is_plain_tail One c.args.text.now c.in_ok-age.age tt c.in_ok-age.ensures

pub returns-clause-two : goal.returns-clause-two
returns-clause-two c = is_plain_tail Two c.args.text.now c.in_ok-age.age tt c.in_ok-age.ensures
