-- What a command does from an opening, and how the block that was set aside makes that opening.
use Rattle.std.proofs.Common.{◌≡◌, ◌⊎◌, ℕ, List, Option, Some, None, refl, inl, inr}
use Rattle.cookie_source.specs.Counting.{Counter}
use Rattle.keeper.specs.Items.{StillTells}
use Rattle.keeper.specs.declared.keeping.Keeper.{Ghosts}
use Rattle.plain_desk.specs.Openings.{NeverBegins, Opening, told_items}
use Rattle.session_machine.specs.declared.item.Item.{Item}
use Rattle.session_machine.specs.History.{nothing}
use Rattle.pipe_command.specs.declared.command_words.Command.{Command}
use Rattle.pipe_command.specs.declared.command_words.Command.TheVariants as commands
use Rattle.pipe_command.specs.Commands.{DoesFrom, Seen}
use Rattle.block_keeper.specs.Blocks.{IsLeast, TellsLeast}

-- what a command does does not depend on the keeper that was handed in
pub does_from : {S K : Type 0} (G : Ghosts K) (seen : Seen S K) (keeper : K) (opening : Opening)
    (command : Command) → DoesFrom G (record seen { keeper = keeper }) opening command
    → DoesFrom G seen opening command
does_from G seen keeper opening (commands.Pipe run) h = h
does_from G seen keeper opening commands.Drive h = h
does_from G seen keeper opening (commands.Load load) h = h
does_from G seen keeper opening (commands.Id bytes) h = h
does_from G seen keeper opening commands.Replay h = h
does_from G seen keeper opening (commands.Mirror moment) h = h

-- the opening has the items that were told at first, or the keeper that is handed back tells none
pub opening_items : (old now after : Option (List ℕ → Option Item)) (at_least floor : ℕ)
    (block : Option Counter) → StillTells old now → TellsLeast at_least floor now block
    → NeverBegins now after
    → ((old ≡ Some (told_items now)) × IsLeast at_least floor (told_items now) block)
    ⊎ ((after ≡ None) × (told_items now ≡ nothing))
opening_items old None after at_least floor block same least never = inr (never refl, refl)
opening_items old (Some items) after at_least floor block same least never = inl (same, least)
