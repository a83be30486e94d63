use Rattle.std.proofs.Common.{Some, ap, subst, sym, ◌∙◌}
use Rattle.std.proofs.lemmas.Map.Steps.{set_value_same}
use Rattle.session_machine.specs.Machine.{Circumstances}
use Rattle.journal_text.specs.JudgingDeeds.{LeavesOf, StaysWhereWrong}
use Rattle.journal_text.proofs.ItemLemmas.{asked-item, asked-nothing, on_err, some-there}
use Rattle.journal_text.proofs.judging.asking.take_request.Goals as goal

pub returns-in_err-why-clause-err : goal.returns-in_err-why-clause-err
returns-in_err-why-clause-err c =
    let new = c.ask_there.new.item in
    on_err c.from_residual.result _
    ((c.get_mut.follows.holds new).0 ∙ set_value_same _ _ new
    (sym c.in-Some.ensures.value ∙ ap Some (sym c.in_err-why.ensures.err)))

pub returns-in-Item-clause-asked : goal.returns-in-Item-clause-asked
returns-in-Item-clause-asked c =
    let new = c.ask_there.new.item in
    let at : Circumstances = record {
      moment = c.args.t;
      drawn = c.args.drawn;
      rose = c.args.rose;
    } in
    asked-item c.args.profile c.args.items.now c.args.request c.in-Some.item.now new at
    c.args.reply c.in-Some.ensures.value (c.get_mut.follows.lender new)
    ((c.get_mut.follows.holds new).3 (some-there _ _ c.in-Some.ensures.value))
    (subst (LeavesOf c.args.profile c.in-Some.item.now new c.args.request at c.args.reply)
    c.in-Item.is c.in_ok-why.ensures.left)

pub returns-in-Nothing-clause-asked : goal.returns-in-Nothing-clause-asked
returns-in-Nothing-clause-asked c =
    let new = c.ask_there.new.item in
    let at : Circumstances = record {
      moment = c.args.t;
      drawn = c.args.drawn;
      rose = c.args.rose;
    } in
    asked-nothing c.args.profile c.args.items.now c.args.request c.in-Some.item.now new at
    c.args.reply c.in-Some.ensures.value (c.get_mut.follows.lender new)
    c.remove.new.self c.in-Nothing.key ((c.get_mut.follows.holds new).3
    (some-there _ _ c.in-Some.ensures.value))
    (subst (LeavesOf c.args.profile c.in-Some.item.now new c.args.request at c.args.reply)
    c.in-Nothing.is c.in_ok-why.ensures.left)
    c.remove.ensures.updates

pub returns-in-Wrong-clause-stays : goal.returns-in-Wrong-clause-stays
returns-in-Wrong-clause-stays c =
    let new = c.ask_there.new.item in
    let same = subst (StaysWhereWrong c.in-Some.item.now new) c.in-Wrong.is
    c.in_ok-why.ensures.stays in
    (c.get_mut.follows.holds new).0 ∙ set_value_same _ _ new
    (sym c.in-Some.ensures.value ∙ ap Some (sym same))
