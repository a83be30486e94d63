use Rattle.sqlite_keeper.specs.Keeping.{told_by, told_faults}
use Rattle.sqlite_keeper.proofs.AsideLemmas.{aside_above, aside_block, aside_cause, aside_counted, aside_floor, aside_fresh, aside_least, can_be_drawn}
use Rattle.sqlite_keeper.proofs.setting_aside.SqliteKeeperBlockKeeper.set_aside.Goals as goal

pub cookies_of-requires : goal.cookies_of-requires
cookies_of-requires g c = can_be_drawn c.args.at_least c.block-block.result
    (c.requires.some, c.requires.in_range) c.block-block.ensures.block

pub returns-clause-block : goal.returns-clause-block
returns-clause-block g c = rw c.cookies_of.ensures
    (aside_block c.args.at_least c.block-block.result c.block-block.ensures.block)

pub returns-clause-above : goal.returns-clause-above
returns-clause-above g c = rw c.cookies_of.ensures
    (aside_above c.args.self.now.last c.block-block.result c.block-block.ensures.above)

pub returns-clause-fresh : goal.returns-clause-fresh
returns-clause-fresh g c = rw c.cookies_of.ensures
    (aside_fresh (told_by g.S.Store c.block-block.new.self) (told_faults c.block-block.new.self.faults)
    c.block-block.result c.block-block.ensures.held)

pub returns-clause-least : goal.returns-clause-least
returns-clause-least g c = rw c.cookies_of.ensures
    (aside_least (told_by g.S.Store c.block-block.new.self) c.args.at_least c.args.self.now.last
    c.block-block.result c.block-block.ensures.told)

pub returns-clause-floor : goal.returns-clause-floor
returns-clause-floor g c = rw c.cookies_of.ensures
    (aside_floor c.args.self.now.last c.block-block.new.self.last c.block-block.result c.block-block.ensures.last)

pub returns-clause-counted : goal.returns-clause-counted
returns-clause-counted g c = rw c.cookies_of.ensures
    (aside_counted c.args.self.now.faults c.block-block.new.self.faults c.block-block.result
    c.block-block.ensures.counted)

pub returns-clause-cause : goal.returns-clause-cause
returns-clause-cause g c = rw c.cookies_of.ensures
    (aside_cause (told_faults c.args.self.now.faults) (told_faults c.block-block.new.self.faults)
    c.block-block.result c.block-block.ensures.cause)
