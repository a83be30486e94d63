use Rattle.std.proofs.Common.{subst}
use Rattle.sqlite.specs.Held.{state}
use Rattle.sqlite_keeper.specs.Keeping.{cookies_in}
use Rattle.sqlite_keeper.specs.Rows.{IsOneLast}
use Rattle.sqlite_keeper.proofs.OpenLemmas.{one_last}
use Rattle.sqlite_keeper.proofs.opening.has_one_last.Goals as goal

pub returns-in-Ok-clause-one : goal.returns-in-Ok-clause-one
returns-in-Ok-clause-one g c known numbered opened one =
    one_last (cookies_in (state g.S.Store c.args.connection.now)) c.in-Ok.rows.items c.args.last
    numbered (c.in-Ok.ensures.found known opened)
    (subst (λ xs. IsOneLast xs c.args.last) c.as_slice.ensures.value (c.is_the_one.ensures one))
