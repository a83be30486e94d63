use Rattle.std.proofs.Common.{◌++◌, ◌∷◌, [], refl, sym, subst, arith}
use Rattle.asp_base.specs.Causes.{Rose}
use Rattle.session_machine.specs.History.{nothing}
use Rattle.shard_core.specs.ShardStands.{StandsFor}
use Rattle.shard_core.specs.Sweeping.{swept_entry}
use Rattle.state_store.specs.Desks.{drawn_at}
use Rattle.state_store.proofs.StoreDeskLemmas.{goes_on, no_cookies_out}
use Rattle.state_store.proofs.store_desk.StoreDesk.sweep_one.Goals as goal

pub returns-clause-stands : goal.returns-clause-stands
returns-clause-stands g c = λ terms caller list few room stand.
    let keep = g.K.Keeper in
    let found = c.sweep_one-found in
    let after = found.ensures.history caller nothing 0 list few stand.keeper in
    let is = sym c.faults-faults.ensures in
    goes_on _ terms list _ _ (drawn_at c.args.self.now) stand _ _ _
    (swept_entry caller c.args.t found.result c.faults-faults.result) room
    (subst (λ n. StandsFor nothing 0 (list ++ swept_entry caller c.args.t found.result n ∷ [])
    (keep.told found.new.self) (keep.count found.new.self)) is after)
    (subst keep.can_count is (keep.counts found.new.self))
    (λ some. absurd (omega (arith, some))) refl refl (omega arith) (λ none. refl) (λ some. absurd
    (omega (arith, some)))
    (λ out. absurd (no_cookies_out found.result out))

pub returns-clause-fault : goal.returns-clause-fault
returns-clause-fault g c = λ is.
    subst (λ n. Rose (g.K.Keeper.count c.args.self.now.shard) n) (sym c.faults-faults.ensures)
    (c.sweep_one-found.ensures.fault is)
