use Rattle.std.proofs.Common.{◌≡◌, ℕ, List, Option, Some, Ok, Err, Result, refl, sym, ◌∙◌, subst}
use Rattle.std.specs.Prelude.{OnErr, IsSome, ⊤}
use Rattle.std.specs.BTreeMap.{BTreeMap, Updates, is_at}
use Rattle.std.specs.BTreeSet.{BTreeSet}
use Rattle.std.specs.Ordering.{nat_cmp}
use Rattle.std.specs.Cmp.Lexicographic.{slice_cmp}
use Rattle.std.proofs.lemmas.Map.Steps.{set_value_same}
use Rattle.asp_messages.specs.Ranges.{KeyFits}
use Rattle.session_machine.specs.declared.item.Item.{Item}
use Rattle.session_machine.specs.Liveness.{ItemFits, expiry}
use Rattle.keeper.specs.declared.map_keeper.Due.{Due}
use Rattle.keeper.specs.Items.{Sets}
use Rattle.keeper.specs.Ordered.{IsKept, item_of, MovesDue}
use Rattle.keeper.proofs.OrderedLemmas.{Sets-updates, IsKept-put, IsKept-unchanged}
use Rattle.keeper.proofs.map_keeper.MapKeeperKeeper.put.Goals as goal
use Rattle.keeper.proofs.map_keeper.MapKeeperKeeper.put.Goals.{in-Alone-2, in-Shared-2, in-Short-2}

at_err : {P E : Type 0} (result : Result ⊤ E) → P → OnErr result P
at_err (Ok done) p = tt
at_err (Err error) p = p

pub returns-in_err-reschedule-in-Some-clause-err : goal.returns-in_err-reschedule-in-Some-clause-err
returns-in_err-reschedule-in-Some-clause-err c =
    let items = c.self.inside.items in
    let was = c.in-Some.there.now in
    let same : (c.get_mut.follows.lender was).entries ≡ items.entries =
    (c.get_mut.follows.holds was).0 ∙ set_value_same (is_at (slice_cmp nat_cmp c.args.key.now))
    items.entries was (sym c.in-Some.ensures.value) in
    at_err c.from_residual-in_err-reschedule-in-Some.result (same ∙ c.self.view_is)

pub invariant_of-self : goal.invariant_of-self
invariant_of-self c =
    let items = c.self.inside.items in
    let was = c.in-Some.there.now in
    let same : (c.get_mut.follows.lender was).entries ≡ items.entries =
    (c.get_mut.follows.holds was).0 ∙ set_value_same (is_at (slice_cmp nat_cmp c.args.key.now))
    items.entries was (sym c.in-Some.ensures.value) in
    IsKept-unchanged items (c.get_mut.follows.lender was) c.self.inside.dues c.reschedule.new.dues
    same c.in_err-reschedule-in-Some.ensures.err c.self.invariant

-- the pair of the key was moved to where the new item expires
puts : (m n : BTreeMap (List ℕ) Item) (s t : BTreeSet Due) (key : List ℕ) (was item asked : Item)
    (from to : ℕ) → from ≡ expiry was → to ≡ expiry item → item ≡ asked → ItemFits asked
    → KeyFits key → item_of m.entries key ≡ Some was
    → Updates (slice_cmp nat_cmp) m n key (Some item) → MovesDue s t key from to
    → IsKept m.entries s → IsKept n.entries t
puts m n s t key was item asked from to from_is to_is is fits key_fits there changes moves kept =
    let to_item : MovesDue s t key from (expiry item) =
    subst (λ (e : ℕ). MovesDue s t key from e) to_is moves in
    IsKept-put m n s t key was item there key_fits (subst ItemFits (sym is) fits) changes
    (subst (λ (e : ℕ). MovesDue s t key e (expiry item)) from_is to_item) kept

pub returns-in_ok-reschedule-in-Some-clause-ok : goal.returns-in_ok-reschedule-in-Some-clause-ok
returns-in_ok-reschedule-in-Some-clause-ok c =
    let items = c.self.inside.items in
    let item = c.in_ok-item.item in
    let new = c.get_mut.follows.lender item in
    let key = c.args.key.now in
    let some = subst (λ (o : Option Item). IsSome o) c.in-Some.ensures.value refl in
    let updated = Sets-updates items new key (Some item) ((c.get_mut.follows.holds item).3 some) in
    let asked = subst (λ (i : Item). Sets (item_of items.entries) (item_of new.entries) key
    (Some i)) c.in_ok-item.ensures updated in
    let sets = subst (λ (entries : List (List ℕ × Item)). Sets (item_of entries)
    (item_of new.entries) key (Some c.args.item)) c.self.view_is asked in
    elim c.match-there-item.branch [
      | in-Alone-2 w ↦ subst (λ (entries : List (List ℕ × Item)). Sets
          (item_of c.args.self.now) (item_of entries) key (Some c.args.item)) (sym w.self-is) sets
      | in-Shared-2 w ↦ subst (λ (entries : List (List ℕ × Item)). Sets
          (item_of c.args.self.now) (item_of entries) key (Some c.args.item)) (sym w.self-is) sets
      | in-Short-2 w ↦ subst (λ (entries : List (List ℕ × Item)). Sets
          (item_of c.args.self.now) (item_of entries) key (Some c.args.item)) (sym w.self-is) sets
    ]

pub invariant_of-self-in_ok-reschedule-in-Some : goal.invariant_of-self-in_ok-reschedule-in-Some
invariant_of-self-in_ok-reschedule-in-Some c = puts c.self.inside.items
    (c.get_mut.follows.lender c.in_ok-item.item) c.self.inside.dues c.reschedule.new.dues
    c.args.key.now c.in-Some.there.now c.in_ok-item.item c.args.item c.expiry.result
    c.expiry-in-Some.result c.expiry.ensures c.expiry-in-Some.ensures c.in_ok-item.ensures
    c.requires.item c.requires.key (sym c.in-Some.ensures.value)
    ((c.get_mut.follows.holds c.in_ok-item.item).3
    (subst (λ (o : Option Item). IsSome o) c.in-Some.ensures.value refl))
    c.in_ok-reschedule-in-Some.ensures.ok c.self.invariant

pub invariant_of-self-in_ok-reschedule-in-Some-2 : goal.invariant_of-self-in_ok-reschedule-in-Some-2
invariant_of-self-in_ok-reschedule-in-Some-2 c = puts c.self.inside.items
    (c.get_mut.follows.lender c.in_ok-item.item) c.self.inside.dues c.reschedule.new.dues
    c.args.key.now c.in-Some.there.now c.in_ok-item.item c.args.item c.expiry.result
    c.expiry-in-Some.result c.expiry.ensures c.expiry-in-Some.ensures c.in_ok-item.ensures
    c.requires.item c.requires.key (sym c.in-Some.ensures.value)
    ((c.get_mut.follows.holds c.in_ok-item.item).3
    (subst (λ (o : Option Item). IsSome o) c.in-Some.ensures.value refl))
    c.in_ok-reschedule-in-Some.ensures.ok c.self.invariant

pub invariant_of-self-in_ok-reschedule-in-Some-3 : goal.invariant_of-self-in_ok-reschedule-in-Some-3
invariant_of-self-in_ok-reschedule-in-Some-3 c = puts c.self.inside.items
    (c.get_mut.follows.lender c.in_ok-item.item) c.self.inside.dues c.reschedule.new.dues
    c.args.key.now c.in-Some.there.now c.in_ok-item.item c.args.item c.expiry.result
    c.expiry-in-Some.result c.expiry.ensures c.expiry-in-Some.ensures c.in_ok-item.ensures
    c.requires.item c.requires.key (sym c.in-Some.ensures.value)
    ((c.get_mut.follows.holds c.in_ok-item.item).3
    (subst (λ (o : Option Item). IsSome o) c.in-Some.ensures.value refl))
    c.in_ok-reschedule-in-Some.ensures.ok c.self.invariant
