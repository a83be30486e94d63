use Rattle.std.proofs.Common.{arith}
use Rattle.partition.proofs.ScriptLemmas.{LimitedUpTo-more}
use Rattle.partition.proofs.server_scripts.limit_each.Goals as goal

pub loop-script-init : goal.loop-script-init
loop-script-init g c worlds stand = record {
  before = λ server script below within is. absurd (omega arith);
  behind = λ server script above within is. stand server script within is;
}

pub loop-script-preserved : goal.loop-script-preserved
loop-script-preserved g c worlds stand =
    LimitedUpTo-more g.K.Keeper c.args.limits worlds c.loop-script.script-index
    c.loop-script.scripts c.script-item.result c.set_limits.new.self
    (omega (arith, c.loop-script-test.true, c.loop-script.auto.scripts)) c.script-item.is
    (rw c.script-item.is c.set_limits.ensures.takes) (c.loop-script.invariant worlds stand)

pub returns-clause-limited : goal.returns-clause-limited
returns-clause-limited g c worlds stand server script within is =
    (c.loop-script.invariant worlds stand).before server script (omega arith) within is
