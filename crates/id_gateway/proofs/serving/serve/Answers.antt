use Rattle.std.proofs.Common.{List, [], ◌∷◌, ◌++◌, ℕ, Some, None, Ok, refl, sym, ap, ◌∙◌, subst}
use Rattle.plain_desk.specs.DeskStands.{desk_state}
use Rattle.id_gateway.specs.declared.answer.Answer.{Answer}
use Rattle.id_gateway.specs.declared.answer.Status.TheVariants as statuses
use Rattle.id_gateway.specs.Draws.{Draw}
use Rattle.id_gateway.specs.Keeping.{ServesPage, ServesAt, CutsAt, random_of}
use Rattle.id_gateway.specs.Serving.{without_page, draws_for, plain_answer, serve, serve_new}
use Rattle.id_gateway.proofs.DrawLemmas.{AreDraws-one}
use Rattle.id_gateway.proofs.ServeLemmas.{CutsAt-same, ServesAt-same, without_page-served, drew-value, failed-id, if_ok, no_id, on_err, takes-none, with-id, without-id}
use Rattle.id_gateway.proofs.serving.serve.Goals as goal

pub returns-in-Some-clause-served : goal.returns-in-Some-clause-served
returns-in-Some-clause-served g c =
    let seen = sym c.page_with_id.ensures ∙ c.in-Some.is in
    if_ok c.serve_at.result c.serve_at.ensures.served (λ answer one. record {
      drawn = [];
      drew = refl;
      once = sym (takes-none c.args.mode c.args.request c.in-Some.found.0 c.in-Some.found.1 seen);
      at = ServesAt-same g.K.Keeper.can_count (desk_state g.K.Keeper c.args.desk.now)
          (desk_state g.K.Keeper c.serve_at.new.desk)
          (λ draws replies. serve c.args.mode c.args.t c.args.request ([] ++ draws) replies)
          _ answer
          (with-id c.args.mode c.args.t c.args.request c.in-Some.found.0 c.in-Some.found.1 seen) one;
    })

pub returns-in-Some-clause-cut : goal.returns-in-Some-clause-cut
returns-in-Some-clause-cut g c =
    let seen = sym c.page_with_id.ensures ∙ c.in-Some.is in
    on_err c.serve_at.result c.serve_at.ensures.cut (λ one. record {
      drawn = [];
      drew = refl;
      once = sym (takes-none c.args.mode c.args.request c.in-Some.found.0 c.in-Some.found.1 seen);
      at = CutsAt-same g.K.Keeper.can_count (desk_state g.K.Keeper c.args.desk.now)
          (desk_state g.K.Keeper c.serve_at.new.desk)
          (λ draws replies. serve c.args.mode c.args.t c.args.request ([] ++ draws) replies)
          _
          (with-id c.args.mode c.args.t c.args.request c.in-Some.found.0 c.in-Some.found.1 seen) one;
    })

pub returns-in-Ok-clause-served : goal.returns-in-Ok-clause-served
returns-in-Ok-clause-served g c =
    let none = no_id c.args.mode c.args.request (sym c.page_with_id.ensures ∙ c.in_default.is) in
    let draw : Draw = record {
      value = Some c.in-Ok.value;
      faults = g.R.Random.faults c.draw.new.self;
    } in
    if_ok c.serve_new.result c.serve_new.ensures.served (λ answer one. record {
      drawn = draw ∷ [];
      drew = AreDraws-one (random_of g.R.Random c.args.random.now)
          (random_of g.R.Random c.draw.new.self) draw
          (drew-value (random_of g.R.Random c.args.random.now)
          (random_of g.R.Random c.draw.new.self) (Ok c.in-Ok.value) c.in-Ok.ensures.gives
          c.in-Ok.ensures.cause);
      once = sym (ap draws_for none);
      at = ServesAt-same g.K.Keeper.can_count (desk_state g.K.Keeper c.args.desk.now)
          (desk_state g.K.Keeper c.serve_new.new.desk)
          (λ draws replies. serve c.args.mode c.args.t c.args.request ((draw ∷ []) ++ draws)
          replies)
          (serve_new c.args.mode c.in-Ok.value c.args.t c.args.request) answer
          (without-id c.args.mode c.args.t c.args.request draw c.in-Ok.value none refl)
          (subst (λ (i : List ℕ). ServesAt g.K.Keeper.can_count
          (serve_new c.args.mode i c.args.t c.args.request) (desk_state g.K.Keeper c.args.desk.now)
          (desk_state g.K.Keeper c.serve_new.new.desk) answer) c.from_random.ensures one);
    })

pub returns-in-Ok-clause-cut : goal.returns-in-Ok-clause-cut
returns-in-Ok-clause-cut g c =
    let none = no_id c.args.mode c.args.request (sym c.page_with_id.ensures ∙ c.in_default.is) in
    let draw : Draw = record {
      value = Some c.in-Ok.value;
      faults = g.R.Random.faults c.draw.new.self;
    } in
    on_err c.serve_new.result c.serve_new.ensures.cut (λ one. record {
      drawn = draw ∷ [];
      drew = AreDraws-one (random_of g.R.Random c.args.random.now)
          (random_of g.R.Random c.draw.new.self) draw
          (drew-value (random_of g.R.Random c.args.random.now)
          (random_of g.R.Random c.draw.new.self) (Ok c.in-Ok.value) c.in-Ok.ensures.gives
          c.in-Ok.ensures.cause);
      once = sym (ap draws_for none);
      at = CutsAt-same g.K.Keeper.can_count (desk_state g.K.Keeper c.args.desk.now)
          (desk_state g.K.Keeper c.serve_new.new.desk)
          (λ draws replies. serve c.args.mode c.args.t c.args.request ((draw ∷ []) ++ draws)
          replies)
          (serve_new c.args.mode c.in-Ok.value c.args.t c.args.request)
          (without-id c.args.mode c.args.t c.args.request draw c.in-Ok.value none refl)
          (subst (λ (i : List ℕ). CutsAt g.K.Keeper.can_count
          (serve_new c.args.mode i c.args.t c.args.request) (desk_state g.K.Keeper c.args.desk.now)
          (desk_state g.K.Keeper c.serve_new.new.desk)) c.from_random.ensures one);
    })

pub returns-in-Err-clause-served : goal.returns-in-Err-clause-served
returns-in-Err-clause-served g c =
    let none = no_id c.args.mode c.args.request (sym c.page_with_id.ensures ∙ c.in_default.is) in
    let desk = desk_state g.K.Keeper c.args.desk.now in
    let draw : Draw = record {
      value = None;
      faults = g.R.Random.faults c.draw.new.self;
    } in
    subst (λ (a : Answer). ServesPage g.K.Keeper.can_count c.args.mode c.args.t c.args.request desk desk
    (random_of g.R.Random c.args.random.now) (random_of g.R.Random c.draw.new.self) a)
    (sym c.plain_answer.ensures) (record {
      drawn = draw ∷ [];
      drew = AreDraws-one (random_of g.R.Random c.args.random.now)
          (random_of g.R.Random c.draw.new.self) draw (record {
            gives = c.in-Err.ensures.gives;
            count = refl;
            later = c.in-Err.ensures.cause.later;
            failed = c.in-Err.ensures.cause.failed;
          });
      once = sym (ap draws_for none);
      at = ServesAt-same g.K.Keeper.can_count desk desk
          (λ draws replies. serve c.args.mode c.args.t c.args.request ((draw ∷ []) ++ draws)
          replies)
          (without_page (plain_answer statuses.NoIdentifier None))
          (plain_answer statuses.NoIdentifier None)
          (failed-id c.args.mode c.args.t c.args.request draw none refl)
          (without_page-served g.K.Keeper.can_count desk (plain_answer statuses.NoIdentifier None));
    })
