use Rattle.sqlite.specs.Held.{state}
use Rattle.sqlite_keeper.specs.Failures.{keeper_answer}
use Rattle.sqlite_keeper.specs.Opening.{GoesOn}
use Rattle.sqlite_keeper.proofs.KeepLemmas.{answer_if_ok}
use Rattle.sqlite_keeper.proofs.ReadyLemmas.{goes_on_last, goes_on_tells}
use Rattle.sqlite_keeper.proofs.sqlite_keeper.SqliteKeeper.over.Goals as goal

pub returns-clause-tells : goal.returns-clause-tells
returns-clause-tells g c last ready = goes_on_tells g.S.Store (state g.S.Store c.args.connection)
    last c.answered.result (keeper_answer c.open_over-opened.result) c.answered.ensures.told
    (answer_if_ok (GoesOn g.S.Store (state g.S.Store c.args.connection) last)
    c.open_over-opened.result (c.open_over-opened.ensures.goes_on last ready))

pub returns-clause-last : goal.returns-clause-last
returns-clause-last g c last ready = goes_on_last g.S.Store (state g.S.Store c.args.connection)
    last c.answered.result (keeper_answer c.open_over-opened.result) c.answered.ensures.told
    (answer_if_ok (GoesOn g.S.Store (state g.S.Store c.args.connection) last)
    c.open_over-opened.result (c.open_over-opened.ensures.goes_on last ready))
