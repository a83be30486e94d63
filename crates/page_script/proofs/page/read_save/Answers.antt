use Rattle.page_script.proofs.PageLemmas.{no_minutes, save_parts}
use Rattle.page_script.proofs.page.read_save.Goals as goal

pub returns-then-minutes-eq0 : goal.returns-then-minutes-eq0
returns-then-minutes-eq0 c =
    no_minutes c.args.text.now c.in-Some.words.now c.in-Some-read_number_then.body.now
    c.in-Some-read_number_then.minutes c.in-Some.ensures
    c.in-Some-read_number_then.ensures c.if-minutes-eq0.true

pub returns-in-None : goal.returns-in-None
returns-in-None c =
    let none = rw c.in-None.is at c.in_ok-body.ensures in
    λ saved is. none saved.1
    (save_parts c.args.text.now c.in-Some.words.now c.in-Some-read_number_then.body.now
    c.in-Some-read_number_then.minutes saved c.in-Some.ensures
    c.in-Some-read_number_then.ensures is).1
