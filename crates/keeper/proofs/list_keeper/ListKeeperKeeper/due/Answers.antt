use Rattle.std.proofs.Common.{◌≡◌, ℕ, List, true, false, Some, None, sym, ◌∙◌, subst}
use Rattle.session_machine.specs.declared.item.Item.{Item}
use Rattle.keeper.specs.Due.{TellsDue}
use Rattle.keeper.specs.Pairs.{item_at}
use Rattle.keeper.proofs.list_keeper.ListKeeperKeeper.due.Goals as goal

pub returns-in_err-due-clause-none : goal.returns-in_err-due-clause-none
returns-in_err-due-clause-none c =
    let at : c.args.self.now ≡ c.deref.result.now = sym (c.deref.ensures.value ∙ c.self.view_is) in
    λ none.
    let ok : false ≡ true = c.in_err-due.ensures.none
    (subst (λ (pairs : List (List ℕ × Item)). TellsDue (Some (item_at pairs)) c.args.t None) at
    none) in
    absurd (cc)
