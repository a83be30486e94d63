use Rattle.std.proofs.Common.{◌++◌, ◌∷◌, [], sym, subst}
use Rattle.asp_base.specs.Causes.{Rose}
use Rattle.session_machine.specs.History.{nothing}
use Rattle.shard_core.specs.ShardStands.{StandsFor, asked_entry}
use Rattle.state_store.specs.Desks.{drawn_at}
use Rattle.state_store.proofs.StoreDeskLemmas.{draws_new, goes_on}
use Rattle.state_store.proofs.store_desk.StoreDesk.act.Goals as goal

pub returns-clause-stands : goal.returns-clause-stands
returns-clause-stands g c = λ terms caller list few room stand.
    let keep = g.K.Keeper in
    let drew = c.draw_for-drawn.ensures in
    let acted = c.act-reply in
    let before = subst (λ k. StandsFor nothing 0 list (keep.told k) (keep.count k))
    (sym drew.shard) stand.keeper in
    let drawn = draws_new _ terms list _ _
    (drawn_at c.args.self.now) stand c.draw_for-drawn.result drew.above in
    let after = acted.ensures.history caller nothing 0 list few drawn before in
    let is = sym c.faults-faults.ensures in
    goes_on _ terms list _ _ (drawn_at c.args.self.now) stand _ _ _
    (asked_entry caller c.args.t c.args.request c.draw_for-drawn.result acted.result
    c.faults-faults.result)
    room
    (subst (λ n. StandsFor nothing 0
    (list ++ asked_entry caller c.args.t c.args.request c.draw_for-drawn.result acted.result
    n ∷ []) (keep.told acted.new.self) (keep.count acted.new.self)) is after)
    (subst keep.can_count is (keep.counts acted.new.self))
    drew.in_range drew.first_cookie drew.last_cookie drew.never_falls drew.none drew.one
    (λ out. drew.past_last (acted.ensures.cookies_out out))

pub returns-clause-fault : goal.returns-clause-fault
returns-clause-fault g c = λ is.
    let keep = g.K.Keeper in
    let drew = c.draw_for-drawn in
    subst (λ k. Rose (keep.count k) c.faults-faults.result) drew.ensures.shard
    (subst (λ n. Rose (keep.count drew.new.self.shard) n) (sym c.faults-faults.ensures)
    (c.act-reply.ensures.fault is))
