use Rattle.std.proofs.Common.{◌≡◌, Some, None, false, sym, List, ℕ, subst}
use Rattle.session_machine.specs.declared.item.Item.{Item}
use Rattle.session_machine.specs.Liveness.{expiry}
use Rattle.keeper.specs.Items.{Sets}
use Rattle.keeper.specs.Ordered.{IsKept, item_of}
use Rattle.keeper.proofs.OrderedLemmas.{Sets-updates, IsKept-cut, Updates-due, found_key}
use Rattle.keeper.proofs.map_keeper.MapKeeperKeeper.cut.Goals as goal

pub invariant_of-self : goal.invariant_of-self
invariant_of-self c = subst (λ (entries : List (List ℕ × Item)). IsKept entries c.self.inside.dues)
    (sym c.in_default.ensures.unchanged) c.self.invariant

pub invariant_of-self-2 : goal.invariant_of-self-2
invariant_of-self-2 c =
    let items = c.self.inside.items in
    let dues = c.self.inside.dues in
    let key = c.args.key.now in
    let item = c.in-Some.item in
    let there : item_of items.entries key ≡ Some item = sym c.in-Some.ensures.value in
    let takes = Updates-due dues c.remove.new.self
    (record { expiry = c.expiry.result; key = c.in-Some.own }) (expiry item) key false
    c.expiry.ensures (found_key key c.in-Some.own c.in-Some.ensures.same_key)
    c.remove.ensures.updates in
    IsKept-cut items c.remove_entry.new.self dues c.remove.new.self key item there
    c.in-Some.ensures.updates takes c.self.invariant

pub returns-clause-cut : goal.returns-clause-cut
returns-clause-cut c =
    let after = c.remove_entry.new.self in
    let key = c.args.key.now in
    subst (λ (entries : List (List ℕ × Item)). Sets (item_of entries) (item_of after.entries) key
    None) c.self.view_is
    (Sets-updates c.self.inside.items after key None c.in-Some.ensures.updates)
