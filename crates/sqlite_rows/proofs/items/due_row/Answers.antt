use Rattle.sqlite.specs.Held.{state}
use Rattle.sqlite_rows.proofs.items.due_row.Goals as goal

pub returns-clause-row : goal.returns-clause-row
returns-clause-row g c fits opened t e =
    c.first_due.ensures ((state g.S.Store c.args.conn.now).now.trees 3) t
    (c.query_due-answer.ensures.found fits opened t e)
    (λ is. c.query_due-answer.ensures.none fits opened t e is)
