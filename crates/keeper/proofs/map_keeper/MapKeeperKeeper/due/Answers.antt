use Rattle.std.proofs.Common.{◌≡◌, ℕ, List, true, false, sym, subst}
use Rattle.asp_messages.specs.Ranges.{KeyFits}
use Rattle.session_machine.specs.declared.item.Item.{Item}
use Rattle.keeper.specs.Due.{IsDue, IsFirstDue}
use Rattle.keeper.specs.Ordered.{item_of}
use Rattle.keeper.proofs.OrderedLemmas.{IsFirstDue-first, first_fits, none_due, none_there}
use Rattle.keeper.proofs.map_keeper.MapKeeperKeeper.due.Goals as goal

no : false ≡ true → ⊥
no p = cc

pub returns-in_default-clause-due : goal.returns-in_default-clause-due
returns-in_default-clause-due c =
    subst (λ (entries : List (List ℕ × Item)). (key : List ℕ)
    → IsDue (item_of entries) c.args.t key → ⊥) c.self.view_is
    (λ key late. none_there (item_of c.self.inside.items.entries) c.self.inside.dues c.args.t key
    c.self.invariant.holds (λ some. no (c.in_default.ensures.variant.1 some)) late)

pub returns-then-least-t-clause-due : goal.returns-then-least-t-clause-due
returns-then-least-t-clause-due c =
    subst (λ (entries : List (List ℕ × Item)). (key : List ℕ)
    → IsDue (item_of entries) c.args.t key → ⊥) c.self.view_is
    (λ key late. none_due (item_of c.self.inside.items.entries) c.self.inside.dues
    c.in-Some.least.now c.args.t key c.self.invariant.holds c.in-Some.ensures.least
    c.if-least-t.true late)

pub returns-in_err-share-clause-none : goal.returns-in_err-share-clause-none
returns-in_err-share-clause-none c =
    let least = c.in-Some.least.now in
    let told = subst (λ (entries : List (List ℕ × Item)). IsFirstDue (item_of entries) c.args.t
    least.key) c.self.view_is
    (IsFirstDue-first (item_of c.self.inside.items.entries) c.self.inside.dues least c.args.t
    c.self.invariant.holds c.in-Some.ensures.member c.in-Some.ensures.least c.if-least-t.false) in
    λ none. absurd (none least.key (told.item, told.there, told.expired))

pub returns-clause-due : goal.returns-clause-due
returns-clause-due c =
    let least = c.in-Some.least.now in
    let told = subst (λ (entries : List (List ℕ × Item)). IsFirstDue (item_of entries) c.args.t
    least.key) c.self.view_is
    (IsFirstDue-first (item_of c.self.inside.items.entries) c.self.inside.dues least c.args.t
    c.self.invariant.holds c.in-Some.ensures.member c.in-Some.ensures.least c.if-least-t.false) in
    subst (λ key. IsFirstDue (item_of c.args.self.now) c.args.t key) (sym c.in_ok-share.ensures)
    told

pub returns-clause-fits : goal.returns-clause-fits
returns-clause-fits c =
    let least = c.in-Some.least.now in
    let fits = first_fits (item_of c.self.inside.items.entries) c.self.inside.dues least
    c.self.invariant.holds c.in-Some.ensures.member (c.self.invariant.fits least.key) in
    subst KeyFits (sym c.in_ok-share.ensures) fits
