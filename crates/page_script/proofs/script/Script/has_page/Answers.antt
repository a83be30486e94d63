use Rattle.std.proofs.Common.{sym, subst}
use Rattle.std.specs.Prelude.{◌↔◌, Bool, IsTrue}
use Rattle.page_script.specs.World.{HasName}
use Rattle.page_script.proofs.PlaceLemmas.{place-has}
use Rattle.page_script.proofs.script.Script.has_page.Goals as goal

pub returns : goal.returns
returns g c world stands =
    subst (λ (test : Bool). IsTrue test ↔ HasName world.pages c.args.name.now)
    (sym c.is_some.ensures)
    (place-has world.turns c.args.self.now.pages.items world.pages c.args.name.now _ stands.pages
    (rw c.deref.ensures.value at c.place_of.ensures))
