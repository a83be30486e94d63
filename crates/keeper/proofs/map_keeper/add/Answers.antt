use Rattle.std.proofs.Common.{Some, true, ◌∙◌}
use Rattle.session_machine.specs.Liveness.{expiry}
use Rattle.keeper.proofs.OrderedLemmas.{Sets-updates, IsKept-add, IsKept-unchanged, Updates-key, Updates-due, taken_back}
use Rattle.keeper.proofs.map_keeper.add.Goals as goal

pub returns-in-Err-clause-err : goal.returns-in-Err-clause-err
returns-in-Err-clause-err c =
    let items = c.args.items.now in
    let key = c.args.key.now in
    let added = Updates-key items c.insert.new.self c.in_ok-own.own key (Some c.args.item)
    c.in_ok-own.ensures c.in_ok-insert.ensures.updates in
    taken_back items c.insert.new.self c.remove.new.self key c.args.item c.requires.absent added
    c.remove.ensures.updates c.in_ok-insert.ensures.was_ordered c.remove.ensures.ordered

pub returns-in-Err-clause-kept : goal.returns-in-Err-clause-kept
returns-in-Err-clause-kept c =
    let items = c.args.items.now in
    let key = c.args.key.now in
    let added = Updates-key items c.insert.new.self c.in_ok-own.own key (Some c.args.item)
    c.in_ok-own.ensures c.in_ok-insert.ensures.updates in
    let entries = taken_back items c.insert.new.self c.remove.new.self key c.args.item
    c.requires.absent added c.remove.ensures.updates c.in_ok-insert.ensures.was_ordered
    c.remove.ensures.ordered in
    IsKept-unchanged items c.remove.new.self c.args.dues.now c.insert-2.new.self entries
    c.in-Err.ensures.err c.requires.kept

pub returns-clause-ok : goal.returns-clause-ok
returns-clause-ok c =
    let items = c.args.items.now in
    let key = c.args.key.now in
    Sets-updates items c.insert.new.self key (Some c.args.item)
    (Updates-key items c.insert.new.self c.in_ok-own.own key (Some c.args.item)
    c.in_ok-own.ensures c.in_ok-insert.ensures.updates)

pub returns-clause-kept : goal.returns-clause-kept
returns-clause-kept c =
    let items = c.args.items.now in
    let dues = c.args.dues.now in
    let key = c.args.key.now in
    let item = c.args.item in
    let added = Updates-key items c.insert.new.self c.in_ok-own.own key (Some item)
    c.in_ok-own.ensures c.in_ok-insert.ensures.updates in
    let adds = Updates-due dues c.insert-2.new.self
    (record { expiry = c.expiry.result; key = c.in_ok-share.field-0 }) (expiry item) key true
    c.expiry.ensures
    (c.in_ok-share.ensures ∙ c.in_ok-own.ensures) c.in_default.ensures.updates in
    IsKept-add items c.insert.new.self dues c.insert-2.new.self key item c.requires.absent
    c.requires.key c.requires.item added adds c.requires.kept
