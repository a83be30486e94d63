use Rattle.std.proofs.Common.{◌++◌, ◌∷◌, refl, sym, ap, ◌∙◌, append-nil, inl, inr}
use Rattle.std.specs.Prelude.{decimal, ⊤}
use Rattle.std.proofs.lemmas.List.{length-set}
use Rattle.partition.proofs.ScriptLemmas.{ScriptsStand-stays, set-stays}
use Rattle.partition.proofs.TakeLemmas.{farm-stays, unused-no_step, step-taken}
use Rattle.partition.proofs.farm_script.FarmScript.step.Goals as goal

pub returns-in_default-clause-not_a_line : goal.returns-in_default-clause-not_a_line
returns-in_default-clause-not_a_line g c end run stands may =
    let farm = c.args.self.now in
    unused-no_step g.K.Keeper farm farm refl run stands c.args.moment c.args.name
    ((rw c.deref.ensures.value at c.in_default.ensures.found) run.worlds stands.scripts) may

pub returns-clause-not_a_line : goal.returns-clause-not_a_line
returns-clause-not_a_line g c end run stands may =
    let found = rw c.deref.ensures.value at c.in-Some.ensures.found in
    let inside = rw c.deref.ensures.value at c.in-Some.ensures.inside in
    c.step_on.ensures.not_a_line end (run.worlds c.in-Some.server)
    (stands.scripts c.in-Some.server c.index_mut.result.now inside c.index_mut.ensures.value)
    (found run.worlds stands.scripts)

pub returns-clause-unchanged : goal.returns-clause-unchanged
returns-clause-unchanged g c end = record {
  scripts = set-stays c.args.self.now.scripts.items c.in-Some.server c.index_mut.result.now
      c.step_on.new.script (c.step_on.ensures.unchanged end) c.index_mut.ensures.value;
  pages = refl;
  is_over = refl;
}

pub returns-clause-done : goal.returns-clause-done
returns-clause-done g c done run stands =
    let farm = c.args.self.now in
    let here = c.in-Some.server in
    let found = rw c.deref.ensures.value at c.in-Some.ensures.found in
    let inside = rw c.deref.ensures.value at c.in-Some.ensures.inside in
    let takes = c.step_on.ensures.done done (run.worlds here)
    (stands.scripts here c.index_mut.result.now inside c.index_mut.ensures.value) in
    step-taken g.K.Keeper farm _ (length-set farm.scripts.items here c.step_on.new.script) run
    stands c.args.moment c.args.name here c.step_on.new.script inside
    (found run.worlds stands.scripts) refl refl _ takes _
    (λ printed. printed
    ∙ ap (λ t. c.args.out.now.items ++ (decimal here ++ 32 ∷ t)) (sym (append-nil takes.printed)))

pub returns-clause-no_memory : goal.returns-clause-no_memory
returns-clause-no_memory g c end run stands =
    let farm = c.args.self.now in
    let here = c.in-Some.server in
    let found = rw c.deref.ensures.value at c.in-Some.ensures.found in
    let inside = rw c.deref.ensures.value at c.in-Some.ensures.inside in
    let same = length-set farm.scripts.items here c.step_on.new.script in
    elim (c.step_on.ensures.no_memory end (run.worlds here)
    (stands.scripts here c.index_mut.result.now inside c.index_mut.ensures.value)) [
      | inl stay ↦ inl (farm-stays g.K.Keeper farm _ same run stands
          (ScriptsStand-stays g.K.Keeper farm.scripts.items run.worlds here c.step_on.new.script
          stands.scripts inside stay) refl)
      | inr takes ↦ inr (step-taken g.K.Keeper farm _ same run stands c.args.moment c.args.name
          here c.step_on.new.script inside (found run.worlds stands.scripts) refl refl
          (λ printed. ⊤) takes (λ printed. ⊤) (λ printed. tt))
    ]
