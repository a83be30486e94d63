use Rattle.std.proofs.Common.{refl, sym, ◌∙◌, inl}
use Rattle.command_loop.specs.Flow.{flow}
use Rattle.pipe_command.specs.Commands.{Seen}
use Rattle.plain_desk.specs.Openings.{cookies_of, opening_over}
use Rattle.stored_command.proofs.StoredLemmas.{does_from, opening_items}
use Rattle.stored_command.proofs.stored.command_stored.Goals as goal

pub returns-in-Ok-clause-does : goal.returns-in-Ok-clause-does
returns-in-Ok-clause-does g c =
    let G = g.K.Keeper in
    let seen : Seen g.row.S.Denot g.row.K.Denot = record {
      source = c.args.source.now;
      source' = c.run_stored.new.source;
      flow = flow (g.S.Source.told c.args.source.now) (g.S.Source.told c.run_stored.new.source)
          (g.T.Sink.taken c.args.sink.now) (g.T.Sink.taken c.run_stored.new.sink);
      keeper = c.args.keeper;
      result = c.run_stored.result;
    } in
    let least = sym c.least_of.ensures.value in
    rw (sym c.stored_of.ensures.value) (rw c.in-Some.is (inl (
      opening_over G c.set_aside.new.self (cookies_of c.in-Ok.cookies),
      record {
        block = c.in-Ok.cookies;
        cookies = refl;
        fits = rw least c.in-Ok.ensures.block;
        above = c.in-Ok.ensures.above;
        fresh = c.in-Ok.ensures.fresh;
        floor = c.run_stored.ensures.floor ∙ c.in-Ok.ensures.floor;
        count = c.in-Ok.ensures.counted;
        items = rw least (opening_items (G.told c.args.keeper) (G.told c.set_aside.new.self)
            (G.told c.run_stored.result.keeper) c.least_of.result (G.floor c.args.keeper)
            c.in-Ok.cookies c.in-Ok.ensures.same c.in-Ok.ensures.least c.run_stored.ensures.tells);
      },
      does_from G seen c.set_aside.new.self _ c.in-Some.command c.run_stored.ensures.does,
    )))
