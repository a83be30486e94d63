-- A run goes on by one message.
use Rattle.std.proofs.Common.{◌≡◌, ℕ, ◌+◌, List, [], ◌∷◌, ◌++◌, length, map, refl, sym, ap, ◌∙◌, arith, append-nil, length-append}
use Rattle.std.proofs.lemmas.List.{map-append}
use Rattle.asp_base.specs.Moments.{step_moment}
use Rattle.asp_messages.specs.declared.request.Message.{Message}
use Rattle.asp_messages.specs.declared.request.Message.TheVariants.{Fit, Unfit}
use Rattle.asp_messages.specs.declared.request.Request.{Request}
use Rattle.asp_messages.specs.declared.reply.Reply.TheVariants as replies
use Rattle.cookie_source.specs.Counting.{Counter}
use Rattle.asp_messages.specs.ReplyText.{reply_text}
use Rattle.asp_messages.specs.Ranges.{RequestFits}
use Rattle.asp_messages.specs.RequestSpelling.{SpellsRequest}
use Rattle.asp_messages.proofs.StreamLemmas.{Spelled-push, Spelled-append}
use Rattle.asp_messages.proofs.RequestLemmas.{spelled_fits}
use Rattle.plain_desk.specs.Draws.{draw_of, draws_in}
use Rattle.plain_desk.specs.DeskStands.{DeskStandsFor}
use Rattle.session_machine.specs.declared.entry.Entry.{Entry}
use Rattle.session_machine.specs.declared.entry.Deed.TheVariants.{Asked}
use Rattle.stream_core.specs.Whole.{IfFit}
use Rattle.pipe_command.specs.declared.pipe.Output.{Output}
use Rattle.pipe_command.specs.declared.pipe.Output.TheVariants as outputs
use Rattle.pipe_command.specs.declared.responder.Response.{Response}
use Rattle.pipe_command.specs.Answering.{AnswersAtMoment, AnswersMessage, IsAnsweredInto, ServerState, owed_for, entry_of_answer}
use Rattle.pipe_command.specs.PlainRun.{Asking, PipeStart, asking_of, askings, output_of, written_as}
use Rattle.pipe_command.specs.PipeProgress.{Progress, ProgressLast, total_draws}
use Rattle.pipe_command.proofs.PlainRunLemmas.{askings-push, draws_in-plain, written-unfit, written-fit, journal_text-push}

pub fit_of_spelling : (front : List ℕ) (m : Message) → SpellsRequest front m → IfFit m RequestFits
fit_of_spelling front (Fit r) spells = spelled_fits front r spells
fit_of_spelling front Unfit spells = tt

-- a piece more
pub Progress-fed : (CanCount : ℕ
    → Type 0) (start : PipeStart) (bytes due piece : List ℕ) (s : ServerState)
    → Progress CanCount start bytes due s
    → Progress CanCount start (bytes ++ piece) due (record s { held = s.held ++ piece })
Progress-fed CanCount start bytes due piece s run = record {
  messages = run.messages;
  list = run.list;
  spelled = Spelled-append SpellsRequest bytes run.messages s.held piece run.spelled;
  plain = run.plain;
  owed_is = run.owed_is;
  desk = run.desk;
  last_cookie = run.last_cookie;
  moment = run.moment;
  step = run.step;
}

-- what is due with one message more
owed-unfit : (output : Output) (start step : ℕ) (cookies : Counter) (faults : ℕ) (answer : Response) (ms : List Message)
    (list : List Entry) → answer.reply ≡ replies.Bad
    → map asking_of list ≡ askings start step cookies 0 0 ms
    → written_as output (ms ++ Unfit ∷ []) list ≡ written_as output ms list ++ owed_for output Unfit
    answer faults
owed-unfit outputs.Replies start step cookies faults answer ms list bad plain =
    written-unfit start step cookies 0 0 ms list plain
    ∙ ap (λ r. written_as outputs.Replies ms list ++ reply_text r) (sym bad)
owed-unfit outputs.Journal start step cookies faults answer ms list bad plain =
    sym (append-nil (written_as outputs.Journal ms list))

owed-fit : (output : Output) (start step : ℕ) (cookies : Counter) (faults : ℕ) (answer : Response) (ms : List Message)
    (list : List Entry) (r : Request) → map asking_of list ≡ askings start step cookies 0 0 ms
    → written_as output (ms ++ Fit r ∷ []) (list ++ entry_of_answer r answer faults ∷ [])
    ≡ written_as output ms list ++ owed_for output (Fit r) answer faults
owed-fit outputs.Replies start step cookies faults answer ms list r plain =
    written-fit start step cookies 0 0 ms list r (entry_of_answer r answer faults) plain
owed-fit outputs.Journal start step cookies faults answer ms list r plain =
    journal_text-push 0 list (entry_of_answer r answer faults)

module _ (CanCount : ℕ → Type 0) (start : PipeStart) (bytes due front : List ℕ) (s s' : ServerState)
    (answer : Response) (run : Progress CanCount start bytes due (record s {
      held =
          front ++ s'.held;
    }))
  where
    clock-next : (m : Message) → AnswersAtMoment CanCount m s s' answer
        → s'.clock.next ≡ step_moment start.pipe.start start.pipe.step (length (run.messages ++ m ∷ []))
    clock-next m one =
        let now =
        run.moment ∙ ap (λ k. step_moment start.pipe.start k (length run.messages)) (sym run.step) in
        let more : length run.messages + 1 ≡ length (run.messages ++ m ∷ []) =
        omega (arith, length-append run.messages (m ∷ [])) in
        one.ticks.in_order start.pipe.start (length run.messages) now
        ∙ ap (λ k. step_moment start.pipe.start k (length run.messages + 1)) run.step
        ∙ ap (step_moment start.pipe.start start.pipe.step) more

    goes_on-unfit : SpellsRequest front Unfit → AnswersAtMoment CanCount Unfit s s' answer
        → ProgressLast CanCount start bytes due
        (owed_for (output_of start.pipe.journal) Unfit answer s'.desk.faults) s'
    goes_on-unfit spells one =
        let replied : AnswersMessage CanCount Unfit s s' answer = one.replies in
        let desk = rw (← replied.1) at run.desk in
        let next : Progress CanCount start bytes
        (due ++ owed_for (output_of start.pipe.journal) Unfit answer s'.desk.faults) s' = record {
          messages = run.messages ++ Unfit ∷ [];
          list = run.list;
          spelled =
              Spelled-push SpellsRequest bytes run.messages front s'.held Unfit run.spelled spells;
          plain = run.plain
              ∙ sym (askings-push start.pipe.start start.pipe.step start.opening.cookies 0 0 run.messages Unfit
              ∙ append-nil _);
          owed_is =
              ap (λ t. t ++ owed_for (output_of start.pipe.journal) Unfit answer s'.desk.faults)
              run.owed_is
              ∙ sym (owed-unfit (output_of start.pipe.journal) start.pipe.start start.pipe.step start.opening.cookies
              s'.desk.faults
              answer
              run.messages run.list replied.0 run.plain);
          desk = desk;
          last_cookie = ap (λ k. k.cookies.last) replied.1 ∙ run.last_cookie;
          moment = clock-next Unfit one;
          step = one.ticks.step ∙ run.step;
        } in
        record {
          progress = next;
          parts = record {
            heard = run.messages;
            message = Unfit;
            before = run.list;
            own = [];
            messages_are = refl;
            list_is = sym (append-nil run.list);
            plain = run.plain;
            whole_is = run.owed_is;
            owed_is = sym next.owed_is;
          };
        }

    goes_on-fit : (r : Request) → SpellsRequest front (Fit r)
        → AnswersAtMoment CanCount (Fit r) s s' answer
        → ProgressLast CanCount start bytes due
        (owed_for (output_of start.pipe.journal) (Fit r) answer s'.desk.faults) s'
    goes_on-fit r spells one =
        let next : Progress CanCount start bytes
        (due ++ owed_for (output_of start.pipe.journal) (Fit r) answer s'.desk.faults) s' = record {
          messages = run.messages ++ Fit r ∷ [];
          list = run.list ++ entry_of_answer r answer s'.desk.faults ∷ [];
          spelled =
              Spelled-push SpellsRequest bytes run.messages front s'.held
              (Fit r) run.spelled spells;
          plain =
              map-append asking_of run.list (entry_of_answer r answer s'.desk.faults ∷ [])
              ∙ ap (λ t. t ++ (0, answer.moment, Asked r, answer.drawn) ∷ []) run.plain
              ∙ ap (λ t. asking t answer.drawn) moment
              ∙ ap (asking (step_moment start.pipe.start start.pipe.step (0 + length run.messages))) drawn_is
              ∙ sym (askings-push start.pipe.start start.pipe.step start.opening.cookies 0 0 run.messages (Fit r));
          owed_is =
              ap (λ t. t ++ owed_for (output_of start.pipe.journal) (Fit r) answer s'.desk.faults)
              run.owed_is
              ∙ sym (owed-fit (output_of start.pipe.journal) start.pipe.start start.pipe.step start.opening.cookies
              s'.desk.faults answer
              run.messages run.list r run.plain);
          desk = stands.1;
          last_cookie = one.replies.last ∙ run.last_cookie;
          moment = clock-next (Fit r) one;
          step = one.ticks.step ∙ run.step;
        } in
        record {
          progress = next;
          parts = record {
            heard = run.messages;
            message = Fit r;
            before = run.list;
            own = entry_of_answer r answer s'.desk.faults ∷ [];
            messages_are = refl;
            list_is = refl;
            plain = run.plain;
            whole_is = run.owed_is;
            owed_is = sym next.owed_is;
          };
        }
      where
        stands : (answer.drawn ≡ draw_of start.opening.cookies.next s.desk.cookies.last (draws_in run.list) r.ask)
            × DeskStandsFor CanCount start.opening.cookies.next start.opening.items start.opening.count
            (run.list ++ entry_of_answer r answer s'.desk.faults ∷ [])
            s'.desk
        stands = one.replies.history start.opening run.list run.desk

        drawn_is : answer.drawn ≡ draw_of start.opening.cookies.next start.opening.cookies.last (0 + total_draws run.messages)
            r.ask
        drawn_is =
            let all =
            draws_in-plain start.pipe.start start.pipe.step start.opening.cookies 0 0 run.messages run.list run.plain in
            let at : draws_in run.list ≡ 0 + total_draws run.messages = omega (arith, all) in
            stands.0 ∙ ap (λ l. draw_of start.opening.cookies.next l (draws_in run.list) r.ask) run.last_cookie
            ∙ ap (λ n. draw_of start.opening.cookies.next start.opening.cookies.last n r.ask) at

        moment : answer.moment ≡ step_moment start.pipe.start start.pipe.step (0 + length run.messages)
        moment =
            let at : length run.messages ≡ 0 + length run.messages = omega arith in
            one.moment ∙ run.moment ∙ ap (step_moment start.pipe.start start.pipe.step) at

        asking : (t d : ℕ) → List Asking
        asking t d =
            askings start.pipe.start start.pipe.step start.opening.cookies 0 0 run.messages ++ (0, t, Asked r, d) ∷ []

-- the line or the reply that stands for a message
pub goes_on : (CanCount : ℕ → Type 0) (start : PipeStart) (bytes due front : List ℕ) (Gives : List ℕ
    → Type 0)
    (s s' : ServerState) (m : Message)
    (one : IsAnsweredInto CanCount (output_of start.pipe.journal) Gives m s s') → SpellsRequest front m
    → Progress CanCount start bytes due (record s { held = front ++ s'.held })
    → ProgressLast CanCount start bytes due
    (owed_for (output_of start.pipe.journal) m one.answer s'.desk.faults) s'
goes_on CanCount start bytes due front Gives s s' (Fit r) one spells run =
    goes_on-fit CanCount start bytes due front s s' one.answer run r spells one.answers
goes_on CanCount start bytes due front Gives s s' Unfit one spells run =
    goes_on-unfit CanCount start bytes due front s s' one.answer run spells one.answers
