use Rattle.std.proofs.Common.{sym, ◌∙◌, subst}
use Rattle.keeper.specs.Due.{IsFirstDue}
use Rattle.keeper.specs.Pairs.{item_at}
use Rattle.keeper.proofs.DueLemmas.{TellsDue-none, TellsDue-some}
use Rattle.keeper.proofs.pairs_due.due.Goals as goal

pub returns-in_ok-copy-in-Some-clause-due : goal.returns-in_ok-copy-in-Some-clause-due
returns-in_ok-copy-in-Some-clause-due c =
    let told = TellsDue-some c.args.pairs.now c.args.t c.in-Some.field-0.now c.requires
    c.in-Some.ensures in
    subst (λ key. IsFirstDue (item_at c.args.pairs.now) c.args.t key)
    (sym (c.in_ok-copy-in-Some.ensures ∙ c.as_slice.ensures)) told

pub returns-in-None-clause-due : goal.returns-in-None-clause-due
returns-in-None-clause-due c = TellsDue-none c.args.pairs.now c.args.t c.in-None.ensures

pub returns-in_err-copy-in-Some-clause-none : goal.returns-in_err-copy-in-Some-clause-none
returns-in_err-copy-in-Some-clause-none c =
    let told = TellsDue-some c.args.pairs.now c.args.t c.in-Some.field-0.now c.requires
    c.in-Some.ensures in
    λ none. absurd (none c.in-Some.field-0.now.0 (told.item, told.there, told.expired))
