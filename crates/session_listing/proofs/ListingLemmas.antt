-- What is left of a listing, item by item.
use Rattle.std.proofs.Common.{◌≡◌, ℕ, List, ◌++◌, Result, Ok, Err, OnOk, refl, ◌∙◌, append_assoc}
use Rattle.asp_messages.specs.Appending.{Extends}
use Rattle.asp_messages.specs.PlainSpelling.{◌then◌}
use Rattle.asp_messages.proofs.AppendLemmas.{Extends-then, Extends-trans}
use Rattle.session_machine.specs.declared.item.Item.{Item}
use Rattle.session_listing.specs.Listing.{line_behind}

pub on_ok_same : {T E : Type 0} (r : Result T E) (a b c : List ℕ) → OnOk r (a ≡ b) → b ≡ c
    → OnOk r (a ≡ c)
on_ok_same (Ok x) a b c e f = e ∙ f
on_ok_same (Err x) a b c e f = tt

-- what goes behind the start of a line goes behind what stands before it
pub behind_more : (old start : List ℕ) (item : Item)
    → line_behind (old ++ start) item ≡ old ++ line_behind start item
behind_more old start item = simp append_assoc

-- two words were appended
pub Extends-two : (a b word other : List ℕ) → b ≡ (a then word then other) → Extends a b
Extends-two a b word other is =
    Extends-trans a (a then word) b (Extends-then a (a then word) word refl)
    (Extends-then (a then word) b other is)
