use Rattle.std.proofs.Common.{◌≡◌, ℕ, List, Bool, rules, sym, subst}
use Rattle.std.specs.Prelude.{not, filter, None}
use Rattle.std.specs.Str.{bytes_eq}
use Rattle.std.proofs.lemmas.Fn.{filter_same}
use Rattle.session_machine.specs.declared.item.Item.{Item}
use Rattle.keeper.specs.Items.{Sets}
use Rattle.keeper.specs.Pairs.{IsMap, item_at}
use Rattle.keeper.proofs.PairLemmas.{Sets-cut}
use Rattle.keeper.proofs.MapLemmas.{IsMap-filter}
use Rattle.keeper.proofs.pairs.cut.Goals as goal

pub returns-clause-cut : goal.returns-clause-cut
returns-clause-cut c =
    let pairs = c.args.pairs.now.items in
    let key = c.args.key.now in
    let kept : c.retain.new.self.items ≡ filter (λ pair. not (bytes_eq pair.0 key)) pairs =
    filter_same _ (λ pair. not (bytes_eq pair.0 key)) _ (λ x r f' k. search rules) _ _
    c.retain.ensures.filtered in
    subst (λ t. Sets (item_at pairs) (item_at t) key None) (sym kept) (Sets-cut pairs key)

pub returns-clause-map : goal.returns-clause-map
returns-clause-map c =
    let pairs = c.args.pairs.now.items in
    let key = c.args.key.now in
    let kept : c.retain.new.self.items ≡ filter (λ pair. not (bytes_eq pair.0 key)) pairs =
    filter_same _ (λ pair. not (bytes_eq pair.0 key)) _ (λ x r f' k. search rules) _ _
    c.retain.ensures.filtered in
    let keeps : List ℕ × Item → Bool = λ pair. not (bytes_eq pair.0 key) in
    subst (λ t. IsMap t) (sym kept) (IsMap-filter pairs keeps c.requires)
