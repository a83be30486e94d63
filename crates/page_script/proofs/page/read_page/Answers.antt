use Rattle.page_script.proofs.PageLemmas.{page_head, page_parts}
use Rattle.page_script.proofs.page.read_page.Goals as goal

pub returns-in_default : goal.returns-in_default
returns-in_default c = λ page is. c.in_default.ensures _ _ _ _ (page_head c.args.text.now page is)

pub returns-in_default-2 : goal.returns-in_default-2
returns-in_default-2 c =
    let none = rw c.in_default-2.is at c.in_ok-key.ensures in
    λ page is. none page.key
    (page_parts c.args.text.now c.in-Some.head.name c.in-Some.head.key.now c.in-Some.head.need
    c.in-Some.head.ending.now page c.in-Some.ensures is).0

pub returns-in_default-3 : goal.returns-in_default-3
returns-in_default-3 c =
    let none = rw c.in_default-3.is at c.in_ok-ending.ensures in
    λ page is. none page.ending
    (page_parts c.args.text.now c.in-Some.head.name c.in-Some.head.key.now c.in-Some.head.need
    c.in-Some.head.ending.now page c.in-Some.ensures is).1
