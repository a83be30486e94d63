-- Texts appended one after another.
use Rattle.std.proofs.Common.{◌≡◌, ℕ, List, ◌++◌, Result, Ok, Err, OnErr, ap, ◌∙◌, append_assoc}
use Rattle.std.specs.Prelude.{codes}
use Rattle.asp_messages.specs.Appending.{Extends}
use Rattle.asp_messages.specs.PlainSpelling.{◌then◌}

pub Extends-text : (a b text : List ℕ) → b ≡ a ++ text → Extends a b
Extends-text a b text e = (text, e)

pub Extends-then : (a b word : List ℕ) → b ≡ a then word → Extends a b
Extends-then a b word e = (codes " " ++ word, e ∙ append_assoc a (codes " ") word)

pub Extends-trans : (a b c : List ℕ) → Extends a b → Extends b c → Extends a c
Extends-trans a b c (x, p) (y, q) = (x ++ y, q ∙ ap (λ t. t ++ y) p ∙ append_assoc a x y)

-- a failure behind what was appended
pub failed_behind : {T E : Type 0} (r : Result T E) (a b c : List ℕ) → Extends a b
    → OnErr r (Extends b c) → OnErr r (Extends a c)
failed_behind (Ok x) a b c before failed = tt
failed_behind (Err x) a b c before failed = Extends-trans a b c before failed
