use Rattle.std.proofs.Common.{◌≡◌, ◌++◌, ◌∷◌, [], subst}
use Rattle.std.specs.Prelude.{IfOk}
use Rattle.asp_messages.specs.declared.request.Request.{Request}
use Rattle.shard_core.specs.ShardStands.{asked_entry}
use Rattle.state_store.specs.Desks.{drawn_at}
use Rattle.state_store.specs.StoreDesks.{StoreDeskStands}
use Rattle.state_store.proofs.store_desk.StoreDesk.act_on_shared.Goals as goal

pub returns-in-Ok-clause-stands : goal.returns-in-Ok-clause-stands
returns-in-Ok-clause-stands g c = λ terms caller list few room stand.
    let keep = g.K.Keeper in
    let acted = c.act.result in
    let now = c.act.new.self in
    let same : c.in-Ok.other ≡ c.args.request.now =
    subst (λ r. IfOk r (λ other. other ≡ c.args.request.now)) c.in-Ok.is c.requires.shared in
    subst (λ (r : Request). StoreDeskStands keep.can_count terms
    (list ++ asked_entry caller c.args.t r acted.drawn acted.reply acted.faults ∷ [])
    (keep.told now.shard) (keep.count now.shard) (drawn_at now)) same
    (c.act.ensures.stands terms caller list few room stand)
