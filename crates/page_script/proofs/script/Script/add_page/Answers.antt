use Rattle.std.proofs.Common.{refl, arith}
use Rattle.page_script.proofs.PlaceLemmas.{no_name-unused, PagesStand-length}
use Rattle.page_script.proofs.WorldLemmas.{page-taken}
use Rattle.page_script.proofs.script.Script.add_page.Goals as goal

pub returns-then-not-is_free-clause-not_a_line : goal.returns-then-not-is_free-clause-not_a_line
returns-then-not-is_free-clause-not_a_line g c end world stands follows =
    let free = rw c.deref.ensures.value at c.is_free.ensures in
    let same = PagesStand-length world.turns 0 c.args.self.now.pages.items world.pages
    stands.pages in
    let unused = no_name-unused world.turns 0 c.args.self.now.pages.items world.pages
    c.args.line.name stands.pages follows.0 in
    absurd (cc (free.1 (omega (arith, follows.1), unused), c.if-not-is_free.true))

pub returns-in-Ok-clause-done : goal.returns-in-Ok-clause-done
returns-in-Ok-clause-done g c end world stands =
    let free = rw c.deref.ensures.value at c.is_free.ensures in
    let may = free.0 c.if-not-is_free.false in
    page-taken g.K.Keeper c.args.self.now _ world stands
    c.args.line c.new-page.result may.1 may.0 c.in-Ok.ensures.ok c.new-page.ensures refl refl
