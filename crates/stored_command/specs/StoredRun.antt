-- A run over a database, from the items that it held to those that it holds.
use Rattle.std.specs.Prelude.{◌≡◌, ◌⊎◌, ℕ, ◌<◌, Option, Some, None, IfSome}
use Rattle.cookie_source.specs.Counting.{Counter}
use Rattle.keeper.specs.declared.keeping.Keeper.{Ghosts}
use Rattle.plain_desk.specs.Openings.{Opening, HasFreshCookies, cookies_of}
use Rattle.session_machine.specs.History.{nothing}
use Rattle.shard_core.specs.ShardStands.{CountsFault, TellsSame}
use Rattle.pipe_command.specs.declared.command_words.Command.{Command}
use Rattle.pipe_command.specs.declared.command_words.Command.TheVariants as commands
use Rattle.pipe_command.specs.Commands.{DoesFrom, Seen}
use Rattle.block_keeper.specs.Blocks.{IsBlock, IsLeast, floor_after}

-- the lowest cookie that a command asks for: FIRST, and 1 for `drive`
abbrev pub least_of : Command → ℕ
least_of (commands.Pipe run) = run.first
least_of command = 1

module _ {S K : Type 0} (G : Ghosts K) (seen : Seen S K) where
  -- How the history of a run begins: with the items that the keeper told when it was handed in, or,
  -- where the keeper that is handed back tells none, with nothing that is told; with its count of
  -- faults; and with the cookies of the block that was set aside. The block is above the floor,
  -- which is its last cookie from then on; and over items that are told it is the least there is.
  pub record OpensBy (at_least : ℕ) (opening : Opening) : Type 0 where
    pub block : Option Counter
    pub cookies : opening.cookies ≡ cookies_of block
    pub fits : IfSome block (IsBlock at_least)
    pub above : IfSome block (λ b. G.floor seen.keeper < b.next)
    pub fresh : HasFreshCookies opening
    pub floor : G.floor seen.result.keeper ≡ floor_after (G.floor seen.keeper) block
    pub count : opening.count ≡ G.count seen.keeper
    pub items : ((G.told seen.keeper ≡ Some opening.items)
        × IsLeast at_least (G.floor seen.keeper) opening.items block)
        ⊎ ((G.told seen.result.keeper ≡ None) × (opening.items ≡ nothing))

  -- Nothing was set aside, read or written: there was no memory for a block, or the keeper counted a
  -- fault in it.
  pub record HasNoBlock : Type 0 where
    pub status : (seen.result.status ≡ 6)
        ⊎ ((seen.result.status ≡ 16) × CountsFault G seen.keeper seen.result.keeper)
    pub source : seen.source' ≡ seen.source
    pub sink : seen.flow.sink' ≡ seen.flow.sink
    pub floor : G.floor seen.result.keeper ≡ G.floor seen.keeper
    pub items : TellsSame G seen.keeper seen.result.keeper

  -- What a command over a database does: it runs from such an opening, or it has no block.
  abbrev pub DoesStored : Command → Type 0
  DoesStored command =
      ((opening : Opening) × OpensBy (least_of command) opening × DoesFrom G seen opening command)
      ⊎ HasNoBlock
