use Rattle.std.proofs.Common.{sym, subst}
use Rattle.plain_desk.specs.DeskStands.{desk_state}
use Rattle.page_requests.specs.declared.identities.Mode.{Mode}
use Rattle.id_gateway.specs.Keeping.{CutsAt}
use Rattle.id_gateway.specs.Serving.{redirect, serve_new}
use Rattle.id_gateway.proofs.ServeLemmas.{without_page-cut, err_of}
use Rattle.id_gateway.proofs.serving.serve_new.Goals as goal

pub returns-in_err-location-in-Url-clause-cut : goal.returns-in_err-location-in-Url-clause-cut
returns-in_err-location-in-Url-clause-cut g c =
    let desk = desk_state g.K.Keeper c.args.desk.now in
    err_of c.from_residual.result
    (subst (λ (m : Mode). CutsAt g.K.Keeper.can_count
    (serve_new m c.args.id c.args.t c.args.request) desk desk) (sym c.in-Url.is)
    (without_page-cut g.K.Keeper.can_count desk (redirect c.args.id c.args.request.target)))
