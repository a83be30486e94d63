-- The calls that move the old rows.
use Rattle.std.proofs.Common.{◌≡◌, inr, ℕ, List, [], ◌∷◌, Ok, Err, Result, OnOk, refl, ◌∙◌, arith}
use Rattle.std.specs.Prelude.{IfOk}
use Rattle.sqlite_value.specs.declared.value.Value.TheVariants.{Blob}
use Rattle.sqlite_value.specs.Order.{Row}
use Rattle.sqlite_rules.specs.Edit.{IsNoIndex}
use Rattle.sqlite_rules.specs.Lists.{Has}
use Rattle.sqlite.specs.declared.error.Error.{Error}
use Rattle.sqlite.specs.declared.error.Error.TheVariants.{QueryReturnedNoRows}
use Rattle.sqlite.specs.State.{State, Executes, QueriesRow}
use Rattle.sqlite_rows.specs.Calls.{IsKnown}
use Rattle.sqlite_rows.specs.Cuts.{Cuts}
use Rattle.sqlite_rows.specs.Firsts.{ShowsFirst}
use Rattle.sqlite_rows.specs.Numbers.{AreNumbered}
use Rattle.sqlite_rows.specs.Tables.{known}
use Rattle.sqlite_rows.specs.Texts.{drop_text, first_text}
use Rattle.sqlite_rows.proofs.CutLemmas.{drop}
use Rattle.sqlite_rows.proofs.QueryLemmas.{no_rows, one_row}
use Rattle.sqlite_rows.proofs.TextLemmas.{first_columns, first_is, first_order, first_plain, one_row as limit_one}

pub first_ok : (old new : State) (r : Result Row Error) → IsKnown old
    → QueriesRow first_text [] old new r → IfOk r (ShowsFirst (old.now.trees 0))
first_ok old new (Err e) fits h = tt
first_ok old new (Ok row) fits h =
    let f = one_row first_text [] old new fits.0 first_plain 0 [] first_columns first_order
    limit_one _ first_is.0 first_is.1 (old.now.trees 0) refl (λ xs. inr refl) row h in
    record { row = f.row; had = f.had; shows = f.shows; first = λ x had. f.first x had refl }

pub none_first : (old new : State) (r : Result Row Error) → IsKnown old
    → QueriesRow first_text [] old new r → r ≡ Err QueryReturnedNoRows → (x : Row)
    → Has (old.now.trees 0) x → ⊥
none_first old new r fits h e x had =
    let f = no_rows first_text [] old new fits.0 first_plain 0 [] first_columns first_order
    limit_one _ first_is.0 first_is.1 (old.now.trees 0) refl (λ xs. inr refl)
    (rw e at h) x had in cc

no_index_3 : IsNoIndex known 3
no_index_3 = (
  λ e. omega (arith, e),
  (λ e. omega (arith, e), (λ e. omega (arith, e), (λ e. omega (arith, e), tt))),
)

no_index_6 : IsNoIndex known 6
no_index_6 = (
  λ e. omega (arith, e),
  (λ e. omega (arith, e), (λ e. omega (arith, e), (λ e. omega (arith, e), tt))),
)

pub drop_ok : (key : List ℕ) (old new : State) (r : Result ℕ Error) → IsKnown old
    → AreNumbered (old.now.trees 0) → Executes drop_text (Blob key ∷ []) old new r
    → OnOk r (Cuts (old.now.trees 0) (new.now.trees 0) key × IsKnown new
    × (new.now.trees 3 ≡ old.now.trees 3) × (new.now.trees 6 ≡ old.now.trees 6))
drop_ok key old new (Err e) fits n h = tt
drop_ok key old new (Ok count) fits n h =
    let d = drop key old new count fits.0 h in (
      d.cuts n,
      (d.schema, d.mode ∙ fits.1),
      d.others 3 (λ e. omega (arith, e)) no_index_3,
      d.others 6 (λ e. omega (arith, e)) no_index_6,
    )
