-- Words joined from the left, and from the right.
use Rattle.std.proofs.Common.{◌≡◌, List, ℕ, ◌∷◌, ◌++◌, ap, ◌∙◌, append_assoc}
use Rattle.std.specs.Prelude.{codes}
use Rattle.asp_messages.specs.PlainSpelling.{◌then◌}

pub nest2 : (a b : List ℕ) → a then b ≡ a ++ 32 ∷ b
nest2 a b = append_assoc a (codes " ") b

pub nest3 : (a b d : List ℕ) → a then b then d ≡ a ++ 32 ∷ (b ++ 32 ∷ d)
nest3 a b d = nest2 (a then b) d ∙ ap (λ t. t ++ 32 ∷ d) (nest2 a b)
    ∙ append_assoc a (32 ∷ b) (32 ∷ d)

pub nest4 : (a b d e : List ℕ) → a then b then d then e ≡ a ++ 32 ∷ (b ++ 32 ∷ (d ++ 32 ∷ e))
nest4 a b d e = nest2 (a then b then d) e ∙ ap (λ t. t ++ 32 ∷ e) (nest3 a b d)
    ∙ append_assoc a (32 ∷ (b ++ 32 ∷ d)) (32 ∷ e)
    ∙ ap (λ t. a ++ 32 ∷ t) (append_assoc b (32 ∷ d) (32 ∷ e))
