use Rattle.sqlite.specs.Held.{state}
use Rattle.sqlite_rows.proofs.UniqueLemmas.{own_keys}
use Rattle.sqlite_rows.proofs.items.learn_keys.Goals as goal

pub returns : goal.returns
returns g c opened fits n = own_keys (state g.S.Store c.args.conn.now).now fits.0
    (c.schema-schema.ensures.live opened).0 n
