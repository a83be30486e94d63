use Rattle.std.proofs.Common.{◌++◌, ◌∷◌, [], sym, subst}
use Rattle.session_machine.specs.History.{nothing}
use Rattle.shard_core.specs.ShardStands.{StandsFor, asked_entry}
use Rattle.state_store.specs.Desks.{drawn_at}
use Rattle.state_store.proofs.StoreDeskLemmas.{draws_new, goes_on}
use Rattle.state_store.proofs.store_desk.StoreDesk.forgo.Goals as goal

pub returns-clause-stands : goal.returns-clause-stands
returns-clause-stands g c = λ terms caller list few room stand.
    let keep = g.K.Keeper in
    let drew = c.draw_for-drawn.ensures in
    let gone = c.forgo-reply in
    let now = c.draw_for-drawn.new.self.shard in
    let before = subst (λ k. StandsFor nothing 0 list (keep.told k) (keep.count k))
    (sym drew.shard) stand.keeper in
    let drawn = draws_new _ terms list _ _
    (drawn_at c.args.self.now) stand c.draw_for-drawn.result drew.above in
    let after = gone.ensures.history caller nothing 0 list few drawn before in
    let is = sym c.faults-faults.ensures in
    goes_on _ terms list _ _ (drawn_at c.args.self.now) stand _ _ _
    (asked_entry caller c.args.t c.args.request.now c.draw_for-drawn.result gone.result
    c.faults-faults.result)
    room
    (subst (λ n. StandsFor nothing 0
    (list ++ asked_entry caller c.args.t c.args.request.now c.draw_for-drawn.result gone.result
    n ∷ []) (keep.told now) (keep.count now)) is after)
    (subst keep.can_count is (keep.counts now))
    drew.in_range drew.first_cookie drew.last_cookie drew.never_falls drew.none drew.one
    (λ out. drew.past_last (gone.ensures.cookies_out.0 out))
