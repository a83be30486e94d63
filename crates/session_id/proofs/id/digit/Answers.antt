use Rattle.std.proofs.Common.{arith, sym}
use Rattle.session_id.proofs.AlphabetLemmas.{digit_of-letter, digit_of-figure, digit_of-none}
use Rattle.std.proofs.lemmas.Bool.Decides.{nat_tests}
use Rattle.session_id.proofs.id.digit.Goals as goal

pub returns-in-97-to-122 : goal.returns-in-97-to-122
returns-in-97-to-122 c =
    let e = digit_of-letter c.args.character (omega arith) (omega arith) in
    (omega (arith, e), sym e)

pub returns-in-48-to-53 : goal.returns-in-48-to-53
returns-in-48-to-53 c =
    let e = digit_of-figure c.args.character (omega arith) (omega arith) in
    (omega (arith, e), omega (arith, e))

pub returns-in_default : goal.returns-in_default
returns-in_default c lt = digit_of-none c.args.character (grind (arith, nat_tests)) lt

pub returns-in_default-2 : goal.returns-in_default-2
returns-in_default-2 c lt = digit_of-none c.args.character (grind (arith, nat_tests)) lt

pub returns-in_default-3 : goal.returns-in_default-3
returns-in_default-3 c lt = digit_of-none c.args.character (grind (arith, nat_tests)) lt
