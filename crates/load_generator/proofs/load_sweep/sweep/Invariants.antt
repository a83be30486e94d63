use Rattle.std.proofs.Common.{◌≡◌, ◌≤◌, ◌-◌, ℕ, List}
use Rattle.plain_desk.specs.DeskStands.{DeskStandsFor, desk_state}
use Rattle.session_machine.specs.declared.entry.Entry.{Entry}
use Rattle.session_machine.specs.History.{nothing}
use Rattle.load_generator.specs.LoadSteps.{Removes}
use Rattle.load_generator.proofs.load_sweep.sweep.Given as goal

abbrev pub invariant-loop-removed : goal.invariant-loop-removed
invariant-loop-removed g l = record {
  removes : (first : ℕ) (list : List Entry)
      → DeskStandsFor g.K.Keeper.can_count first nothing 0 list
      (desk_state g.K.Keeper l.fn.desk)
      → Removes g.K.Keeper.can_count first list
      (desk_state g.K.Keeper l.desk) l.removed;
  within : l.removed ≤ l.fn.most;
  floor : g.K.Keeper.floor l.desk.keeper ≡ g.K.Keeper.floor l.fn.desk.keeper;
}

abbrev pub decreases-loop-removed : goal.decreases-loop-removed
decreases-loop-removed g l = l.fn.most - l.removed
