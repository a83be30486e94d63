use Rattle.std.proofs.Common.{Option, Some, sym, subst}
use Rattle.plain_desk.specs.DeskStands.{desk_state}
use Rattle.page_requests.specs.declared.page.Page.{Page}
use Rattle.id_gateway.specs.declared.answer.Answer.{Answer}
use Rattle.id_gateway.specs.Keeping.{CutsAt, ServesAt}
use Rattle.id_gateway.specs.Serving.{serve_at}
use Rattle.id_gateway.proofs.ServeLemmas.{came-cut, comes-as, comes-served, err_of, if_ok}
use Rattle.id_gateway.proofs.serving.serve_at.Goals as goal

pub returns-in_ok-shown-in-Some-clause-served : goal.returns-in_ok-shown-in-Some-clause-served
returns-in_ok-shown-in-Some-clause-served g c =
    let old = desk_state g.K.Keeper c.args.desk.now in
    let new = desk_state g.K.Keeper c.run_page.new.desk in
    if_ok c.outcome_answer.result c.outcome_answer.ensures (λ answer is.
    subst (λ (p : Option Page). ServesAt g.K.Keeper.can_count
    (serve_at p c.args.new_id c.args.id c.args.t c.args.body) old new answer) (sym c.in-Some.is)
    (subst (λ (a : Answer). ServesAt g.K.Keeper.can_count
    (serve_at (Some c.in-Some.page) c.args.new_id c.args.id c.args.t c.args.body) old new a)
    (sym is)
    (comes-served g.K.Keeper.can_count old new c.in-Some.page c.args.new_id c.args.id c.args.t
    c.args.body c.in_ok-shown-in-Some.shown.outcome c.in_ok-shown-in-Some.shown.content
    (comes-as g.K.Keeper.can_count old new c.in-Some.page c.args.id c.args.t c.args.body
    c.session_key.result c.need.result c.ending.result c.session_key.ensures.key c.need.ensures
    c.ending.ensures c.in_ok-shown-in-Some.shown.outcome c.in_ok-shown-in-Some.shown.content
    c.in_ok-shown-in-Some.ensures.comes))))

pub returns-in_ok-shown-in-Some-clause-cut : goal.returns-in_ok-shown-in-Some-clause-cut
returns-in_ok-shown-in-Some-clause-cut g c =
    let old = desk_state g.K.Keeper c.args.desk.now in
    let new = desk_state g.K.Keeper c.run_page.new.desk in
    err_of c.outcome_answer.result
    (subst (λ (p : Option Page). CutsAt g.K.Keeper.can_count
    (serve_at p c.args.new_id c.args.id c.args.t c.args.body) old new) (sym c.in-Some.is)
    (came-cut g.K.Keeper.can_count old new c.in-Some.page c.args.new_id c.args.id c.args.t
    c.args.body c.in_ok-shown-in-Some.shown.outcome c.in_ok-shown-in-Some.shown.content
    (comes-as g.K.Keeper.can_count old new c.in-Some.page c.args.id c.args.t c.args.body
    c.session_key.result c.need.result c.ending.result c.session_key.ensures.key c.need.ensures
    c.ending.ensures c.in_ok-shown-in-Some.shown.outcome c.in_ok-shown-in-Some.shown.content
    c.in_ok-shown-in-Some.ensures.comes)))
