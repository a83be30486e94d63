-- How an outcome is spelled.
use Rattle.std.specs.Prelude.{ℕ, List, ◌++◌, codes, decimal}
use Rattle.visit_core.specs.declared.outcome.Outcome.{Outcome}
use Rattle.visit_core.specs.declared.outcome.Outcome.TheVariants.{Done, LostLocked, LostMissing, GaveUp, LinkFault, Refused}

-- a word and a number behind it
abbrev pub with_number : List ℕ → ℕ → List ℕ
with_number text n = text ++ codes " " ++ decimal n

unfoldable pub outcome_spelling : Outcome → List ℕ
outcome_spelling Done = codes "done"
outcome_spelling (LostLocked cookie age) = with_number
    (with_number (codes "lost-lock locked") cookie) age
outcome_spelling LostMissing = codes "lost-lock missing"
outcome_spelling (GaveUp cookie age) = with_number (with_number (codes "gave-up") cookie) age
outcome_spelling LinkFault = codes "link-fault"
outcome_spelling (Refused status) = with_number (codes "refused") status
