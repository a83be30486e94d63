use Rattle.std.proofs.Common.{◌≡◌, ◌≢◌, ℕ, arith, subst, inl, inr}
use Rattle.std.specs.Prelude.{◌⊎◌}
use Rattle.page_script.specs.World.{HasName}
use Rattle.partition.proofs.ScriptLemmas.{same_or_other}
use Rattle.partition.proofs.server_scripts.server_with.Goals as goal

pub returns-then-has_page-clause-found : goal.returns-then-has_page-clause-found
returns-then-has_page-clause-found g c worlds stand =
    (c.has_page.ensures (worlds c.loop-server.server) (stand c.loop-server.server
    c.index-scripts-server.result c.loop-server-test.true c.index-scripts-server.is)).0
    c.if-has_page.true

pub loop-server-preserved : goal.loop-server-preserved
loop-server-preserved g c worlds stand k below named =
    of (same_or_other k c.loop-server.server)
  where
    of : (k ≡ c.loop-server.server) ⊎ (k ≢ c.loop-server.server) → ⊥
    of (inl same) =
        let test = (c.has_page.ensures (worlds c.loop-server.server) (stand c.loop-server.server
        c.index-scripts-server.result c.loop-server-test.true c.index-scripts-server.is)).1
        (subst (λ (n : ℕ). HasName (worlds n).pages c.args.name.now) same named) in
        cc (test, c.if-has_page.false)
    of (inr apart) = c.loop-server.invariant worlds stand k (omega (arith, below, apart)) named

pub returns-clause-found : goal.returns-clause-found
returns-clause-found g c worlds stand server below named =
    c.loop-server.invariant worlds stand server (omega (arith, below, c.loop-server-test.false)) named
