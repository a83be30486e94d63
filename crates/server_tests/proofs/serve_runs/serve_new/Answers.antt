use Rattle.std.proofs.Common.{◌≢◌, rules}
use Rattle.server_tests.proofs.serve_runs.serve_new.Goals as goal

-- the passes that are handed back are of the store
pub returns : goal.returns
returns g c =
    let memory : c.serve_all-served.result.status ≢ 6 = c.had_memory.ensures (search rules) in
    let served = c.serve_all-served.ensures.served memory in
    let stored = rw (c.in-Some.is) at served in
    record { met = stored.4.met.each }
