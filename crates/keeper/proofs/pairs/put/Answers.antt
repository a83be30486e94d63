use Rattle.std.proofs.Common.{◌≡◌, ◌++◌, [], ◌∷◌, Some, sym, ap, ◌∙◌, arith, subst, List, ℕ}
use Rattle.session_machine.specs.declared.item.Item.{Item}
use Rattle.keeper.specs.Items.{Sets}
use Rattle.keeper.specs.Pairs.{IsMap, item_at}
use Rattle.keeper.proofs.PairLemmas.{place-lt, Sets-put, Sets-push}
use Rattle.keeper.proofs.MapLemmas.{IsMap-put, IsMap-push}
use Rattle.keeper.proofs.pairs.put.Goals as goal

pub index_mut-requires : goal.index_mut-requires
index_mut-requires c =
    let place = rw c.deref.ensures.value at c.in-Some.ensures in
    omega (
      arith,
      place-lt c.args.pairs.now.items c.args.key.now c.in-Some.i place,
      c.args.pairs.now.ok.0,
    )

pub returns-in-Some-clause-ok : goal.returns-in-Some-clause-ok
returns-in-Some-clause-ok c =
    let place = rw c.deref.ensures.value at c.in-Some.ensures in
    Sets-put c.args.pairs.now.items c.args.key.now c.in-Some.i c.index_mut.result.now c.args.item
    place c.index_mut.ensures.value

pub returns-in-Some-clause-map : goal.returns-in-Some-clause-map
returns-in-Some-clause-map c =
    let place = rw c.deref.ensures.value at c.in-Some.ensures in
    IsMap-put c.args.pairs.now.items c.args.key.now c.in-Some.i c.index_mut.result.now c.args.item
    place c.index_mut.ensures.value c.requires.map c.requires.item

pub returns-in_ok-push-in-None-clause-ok : goal.returns-in_ok-push-in-None-clause-ok
returns-in_ok-push-in-None-clause-ok c =
    let pairs = c.args.pairs.now.items in
    let key = c.args.key.now in
    let none = rw c.deref.ensures.value at c.in-None.ensures in
    let same : c.in_ok-key-in-None.key ≡ key = c.in_ok-key-in-None.ensures ∙ c.as_slice.ensures in
    let pair : List ℕ × Item = (key, c.args.item) in
    let is : c.push.new.self.items ≡ pairs ++ pair ∷ [] =
    c.in_ok-push-in-None.ensures.items ∙ ap (λ (k : List ℕ). pairs ++ (k, c.args.item) ∷ []) same in
    subst (λ t. Sets (item_at pairs) (item_at t) key (Some c.args.item)) (sym is)
    (Sets-push pairs pair none)

pub returns-in_ok-push-in-None-clause-map : goal.returns-in_ok-push-in-None-clause-map
returns-in_ok-push-in-None-clause-map c =
    let pairs = c.args.pairs.now.items in
    let key = c.args.key.now in
    let none = rw c.deref.ensures.value at c.in-None.ensures in
    let same : c.in_ok-key-in-None.key ≡ key = c.in_ok-key-in-None.ensures ∙ c.as_slice.ensures in
    let pair : List ℕ × Item = (key, c.args.item) in
    let is : c.push.new.self.items ≡ pairs ++ pair ∷ [] =
    c.in_ok-push-in-None.ensures.items ∙ ap (λ (k : List ℕ). pairs ++ (k, c.args.item) ∷ []) same in
    subst IsMap (sym is) (IsMap-push pairs pair none c.requires.map c.requires.key c.requires.item)
