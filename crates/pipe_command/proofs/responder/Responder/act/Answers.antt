use Rattle.std.proofs.Common.{sym, subst, ap, refl, arith}
use Rattle.asp_base.specs.Moments.{Ticking}
use Rattle.asp_messages.specs.declared.request.Message.{Message}
use Rattle.pipe_command.specs.Answering.{AnswersAtMoment}
use Rattle.pipe_command.specs.Responding.{state_of_responder}
use Rattle.pipe_command.proofs.responder.Responder.act.Goals as goal

pub returns-in-Fit-clause-answers : goal.returns-in-Fit-clause-answers
returns-in-Fit-clause-answers g c =
    subst (λ (m : Message). AnswersAtMoment g.K.Keeper.can_count m
    (state_of_responder g.K.Keeper c.args.self.now)
    (state_of_responder g.K.Keeper (record c.args.self.now {
      clock = c.tick-moment.new.self;
      desk = c.act-acted.new.self;
    }))
    (record {
      moment = c.tick-moment.result;
      drawn = c.act-acted.result.drawn;
      reply = c.act-acted.result.reply;
    })) (sym c.in-Fit.is)
    (record {
      moment = c.tick-moment.ensures.moment;
      ticks = record {
        in_range = omega (arith, c.tick-moment.ensures.moment, c.tick-moment.ensures.in_range);
        in_order = c.tick-moment.ensures.in_order;
        step = ap (λ (k : Ticking). k.step) c.tick-moment.ensures.next;
      };
      held = refl;
      replies = record {
        history = λ opening list stand.
            c.act-acted.ensures.stands opening.cookies.next 0 opening.items opening.count list
            (omega arith) stand;
        last = c.act-acted.ensures.last;
      };
    })
