use Rattle.std.proofs.Common.{◌≡◌, List, length}
use Rattle.asp_messages.specs.Fields.{most_cookie}
use Rattle.plain_desk.specs.DeskStands.{desk_state}
use Rattle.session_machine.specs.declared.entry.Entry.{Entry}
use Rattle.load_generator.specs.StatusCounting.{CountsAre}
use Rattle.load_generator.specs.Load.{seeded, generated}
use Rattle.load_generator.specs.LoadSteps.{HasAsked}
use Rattle.load_generator.proofs.load.ask_all.Given as goal

abbrev pub invariant-loop : goal.invariant-loop
invariant-loop g l = record {
  asked : (list : List Entry) × HasAsked g.K.Keeper.can_count l.fn.load.seed list
      (desk_state g.K.Keeper l.desk)
      × (length list ≡ l.counter) × (l.generator ≡ generated (seeded l.fn.load.seed) list)
      × CountsAre l.counts list;
  made : l.generator.made ≡ l.counter;
  last : l.desk.cookies.last ≡ most_cookie;
  floor : g.K.Keeper.floor l.desk.keeper ≡ g.K.Keeper.floor l.fn.desk.keeper;
}
