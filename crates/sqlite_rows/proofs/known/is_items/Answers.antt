use Rattle.std.proofs.Common.{rules}
use Rattle.sqlite_rows.specs.Tables.{items}
use Rattle.sqlite_rows.proofs.KnownLemmas.{table_is}
use Rattle.sqlite_rows.proofs.known.is_items.Goals as goal

pub returns-then-has_first_key : goal.returns-then-has_first_key
returns-then-has_first_key c = λ h. table_is c.args.table.now items (search rules) (search rules)
    (search rules) (search rules) (search rules) (search rules) (search rules)
    (c.has_no_rules.ensures.checks h) (c.has_no_rules.ensures.references h)
    (c.has_no_rules.ensures.computed h) (c.has_no_rules.ensures.stamps h)
    (c.has_no_rules.ensures.counted h)
