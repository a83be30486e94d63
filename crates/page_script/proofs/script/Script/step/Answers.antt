use Rattle.std.proofs.Common.{refl, ◌∙◌}
use Rattle.plain_desk.specs.DeskStands.{desk_state}
use Rattle.page_script.proofs.StepLemmas.{undone_ok, undone_err, EachSteps-prints}
use Rattle.page_script.proofs.PlaceLemmas.{unused-no_name, place-named}
use Rattle.page_script.proofs.WorldLemmas.{each-taken, may-taken}
use Rattle.page_script.proofs.script.Script.step.Goals as goal

pub returns-in_default-clause-not_a_line : goal.returns-in_default-clause-not_a_line
returns-in_default-clause-not_a_line g c end world stands =
    unused-no_name world.turns 0 c.args.self.now.pages.items world.pages c.args.name stands.pages
    (rw c.deref.ensures.value at c.in_default.ensures)

pub returns-in-Ok-clause-done : goal.returns-in-Ok-clause-done
returns-in-Ok-clause-done g c end world stands =
    let place = rw c.deref.ensures.value at c.in-Some.ensures in
    let made = undone_ok c.step-written.result _ c.or_undo.new.out.items
    c.step-written.new.out.items _ _ c.in-Ok.ensures.result c.in-Ok.ensures.items
    c.step-written.ensures.ok in
    each-taken g.K.Keeper c.args.self.now _ world stands
    c.args.t c.in-Some.place c.args.name c.index_mut.result.now c.step-written.new.self
    place.inside c.index_mut.ensures.value (place-named c.args.self.now.pages.items c.args.name
    c.in-Some.place c.index_mut.result.now place c.index_mut.ensures.value) refl refl _
    (EachSteps-prints g.K.Keeper.can_count c.args.t c.index_mut.result.now
    c.step-written.new.self (desk_state g.K.Keeper c.args.self.now.desk)
    (desk_state g.K.Keeper c.step-written.new.desk) _ _
    (λ words is. made.0 ∙ is) made.1)

pub returns-in-Err-clause-no_memory : goal.returns-in-Err-clause-no_memory
returns-in-Err-clause-no_memory g c end world stands =
    let place = rw c.deref.ensures.value at c.in-Some.ensures in
    may-taken g.K.Keeper c.args.self.now _ world stands
    c.args.t c.in-Some.place c.args.name c.index_mut.result.now c.step-written.new.self
    place.inside c.index_mut.ensures.value (place-named c.args.self.now.pages.items c.args.name
    c.in-Some.place c.index_mut.result.now place c.index_mut.ensures.value) refl refl
    (undone_err c.step-written.result _ _ c.in-Err.ensures.result c.step-written.ensures.err)
