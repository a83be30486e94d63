-- What a judgement objects to.
use Rattle.std.specs.Prelude.{◌≡◌, Option, Some, None, ⊤}
use Rattle.journal_text.specs.declared.judging.judgement.Judgement.{Judgement}
use Rattle.journal_text.specs.declared.judging.judgement.Judgement.TheVariants.{Legal, Illegal}
use Rattle.journal_text.specs.declared.judging.objection.Objection.{Objection}

-- an entry of the list may not stand
abbrev pub IsIllegal : Judgement → Type 0
IsIllegal (Legal entries) = ⊥
IsIllegal (Illegal place why) = ⊤

-- the place of the first entry that may not stand, and why; `None` of a legal list
abbrev pub ObjectsTo : Judgement → Option Objection → Type 0
ObjectsTo (Legal entries) told = told ≡ None
ObjectsTo (Illegal place why) told = told ≡ Some (record { place = place; why = why })
