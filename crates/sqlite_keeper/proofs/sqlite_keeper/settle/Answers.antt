use Rattle.sqlite.specs.Held.{state}
use Rattle.sqlite_keeper.proofs.ReadyLemmas.{settled, settled_goes_on}
use Rattle.sqlite_keeper.proofs.sqlite_keeper.settle.Goals as goal

pub invariant_of-result : goal.invariant_of-result
invariant_of-result g c = settled g.S.Store c.args.connection
    c.read_cookies-cookies.new.connection c.args.numbered c.stands_alone-alone.result
    c.in-Ok.found.is_one c.all_hold.result c.in-Ok.found.last c.all_hold.ensures
    c.stands_alone-alone.ensures c.requires.cookies c.in-Ok.ensures.one
    c.read_cookies-cookies.ensures.same c.read_cookies-cookies.ensures.opened c.requires.items
    c.in-Ok.ensures.in_range

pub returns-in-Ok-clause-goes_on : goal.returns-in-Ok-clause-goes_on
returns-in-Ok-clause-goes_on g c before is = settled_goes_on g.S.Store c.args.connection
    c.read_cookies-cookies.new.connection c.args.numbered c.stands_alone-alone.result
    c.in-Ok.found.is_one c.all_hold.result c.in-Ok.found.last c.all_hold.ensures
    c.stands_alone-alone.ensures c.requires.cookies c.in-Ok.ensures.one
    c.read_cookies-cookies.ensures.same c.read_cookies-cookies.ensures.opened before 0 is

pub returns-in-Ok-clause-opened : goal.returns-in-Ok-clause-opened
returns-in-Ok-clause-opened g c may = c.read_cookies-cookies.ensures.opened
    (Rattle.sqlite_keeper.proofs.KeepLemmas.when c.all_hold.result
    (state g.S.Store c.read_cookies-cookies.new.connection).is_open may).1
