use Rattle.sqlite_keeper.specs.Told.{fields_of}
use Rattle.sqlite_keeper.proofs.CallLemmas.{on_ok, on_err}
use Rattle.sqlite_keeper.proofs.items.write_item.Goals as goal

pub returns-clause-puts : goal.returns-clause-puts
returns-clause-puts g c fits opened n =
    on_ok _ c.put_row-count.result c.written.result
    (c.put_row-count.ensures.puts fits opened n c.args.key.now (fields_of c.args.item.now)
    c.columns-columns.ensures) c.written.ensures.ok

pub returns-clause-same : goal.returns-clause-same
returns-clause-same g c fits opened =
    on_err _ c.put_row-count.result c.written.result (c.put_row-count.ensures.same fits opened)
    c.written.ensures.err

pub returns-clause-opened : goal.returns-clause-opened
returns-clause-opened g c opened = c.put_row-count.ensures.opened opened
