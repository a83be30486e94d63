use Rattle.std.proofs.Common.{◌++◌, List, ℕ, Option, Result, Ok, Err}
use Rattle.std.specs.Prelude.{MatchResult, OnErr}
use Rattle.asp_base.specs.Outside.{Takes, TakesFront}
use Rattle.asp_base.proofs.OutsideLemmas.{TakesFront-after}
use Rattle.asp_base.proofs.outside.write_apart.Goals as goal

-- a head that was taken, and then a front of the body
front_after : {E : Type 0} (r : Result (Unit {0}) E) (a b c : Option (List ℕ)) (head body : List ℕ)
    → Takes a b head
    → MatchResult r (λ _. Takes b c body) (λ _. TakesFront b c body)
    → OnErr r (TakesFront a c (head ++ body))
front_after (Ok x) a b c head body whole second = tt
front_after (Err e) a b c head body whole second = TakesFront-after a b c head body whole second

pub returns-clause-in_part : goal.returns-clause-in_part
returns-clause-in_part g c =
    front_after c.write_whole-2.result _ _ _ c.args.head.now c.args.body.now
    c.in_ok-write_whole.ensures.taken c.write_whole-2.ensures.taken
