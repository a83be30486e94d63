-- A run goes on by one request.
use Rattle.std.proofs.Common.{◌≡◌, ℕ, ◌+◌, List, [], ◌∷◌, ◌++◌, length, map, Some, refl, sym, ap, ◌∙◌, arith, subst, append_assoc, append-nil, length-append}
use Rattle.std.specs.Prelude.{IfSome}
use Rattle.std.proofs.lemmas.List.{map-append}
use Rattle.asp_base.specs.Moments.{step_moment}
use Rattle.asp_messages.specs.declared.reply.Reply.{Reply}
use Rattle.asp_messages.specs.Stream.{Spelled}
use Rattle.asp_messages.proofs.StreamLemmas.{Spelled-push, Spelled-append}
use Rattle.plain_desk.specs.Draws.{draws_in}
use Rattle.session_machine.specs.declared.entry.Entry.{Entry}
use Rattle.session_machine.proofs.HistoryLemmas.{All-push}
use Rattle.visit_core.specs.VisitRule.{Event}
use Rattle.page_requests.specs.declared.request.PageRequest.{PageRequest}
use Rattle.page_requests.specs.Requests.{SpellsPage}
use Rattle.page_visit.specs.Asked.{Adds, said, asked, events_draw, replies_of}
use Rattle.page_visit.proofs.AskedLemmas.{asked-append, draws_in-asked, replies-asked}
use Rattle.id_gateway.specs.declared.answer.Answer.{Answer}
use Rattle.id_gateway.specs.declared.words.GateTerms.{GateTerms}
use Rattle.id_gateway.specs.Answers.{answer_text}
use Rattle.id_gateway.specs.Draws.{Draw, RandomState, AreDraws}
use Rattle.id_gateway.specs.Gate.{IsLawfulVisit}
use Rattle.id_gateway.specs.Giving.{ClockTicks, page_start}
use Rattle.id_gateway.specs.Keeping.{GateState, GateProgress, Lacking, ServesPage, CutsPage}
use Rattle.id_gateway.specs.Serving.{Served, Serving, serve, serves, events, visited_events, page_moment, IsAnswered}
use Rattle.id_gateway.proofs.DrawLemmas.{AreDraws-append}
use Rattle.id_gateway.proofs.ServingLemmas.{draws_needed-push, events-push, same_moment, texts-push}

module _ (CanCount : ℕ → Type 0) (gate : GateTerms) (start : RandomState) where
  -- a piece more
  pub GateProgress-fed : (bytes due piece : List ℕ) (s : GateState) → GateProgress CanCount gate start bytes due s
      → GateProgress CanCount gate start (bytes ++ piece) due (record s { held = s.held ++ piece })
  GateProgress-fed bytes due piece s run = record {
    requests = run.requests;
    draws = run.draws;
    list = run.list;
    served = run.served;
    spelled = Spelled-append SpellsPage bytes run.requests s.held piece run.spelled;
    follows = run.follows;
    due_is = run.due_is;
    answered = run.answered;
    lawful = run.lawful;
    asks = run.asks;
    desk = run.desk;
    drew = run.drew;
    drew_once = run.drew_once;
    moment = run.moment;
    step = run.step;
  }

  -- what the whole list of draws and replies gives
  pub so_far : (bytes due : List ℕ) (s : GateState) (run : GateProgress CanCount gate start bytes due s)
      → run.served ≡ serves gate 0 run.requests run.draws
      (map (λ (e : Entry). e.reply) run.list)
  so_far bytes due s run =
      let replies = map (λ (e : Entry). e.reply) run.list in
      sym (ap (λ r. serves gate 0 r run.draws replies) (sym (append-nil run.requests))
      ∙ ap (λ d. serves gate 0 (run.requests ++ []) d replies) (sym (append-nil run.draws))
      ∙ ap (λ r. serves gate 0 (run.requests ++ []) (run.draws ++ []) r) (sym (append-nil replies))
      ∙ run.follows [] [] []
      ∙ append-nil run.served)

  -- nothing lacks
  pub lacks_none : (bytes due : List ℕ) (s : GateState) → GateProgress CanCount gate start bytes due s
      → Lacking CanCount gate start bytes s.held due s.desk s.random
  lacks_none bytes due s run = record {
    requests = run.requests;
    draws = run.draws;
    list = run.list;
    served = run.served;
    front = run.served;
    spelled = run.spelled;
    served_is = so_far bytes due s run;
    but_last = record {
      last = [];
      parts = sym (append-nil run.served);
      few = omega arith;
      answered = run.answered;
    };
    due_is = run.due_is;
    lawful = run.lawful;
    asks = run.asks;
    has = run.desk;
    drew = run.drew;
    drew_once = run.drew_once;
  }

  module _ (bytes due front : List ℕ) (s s' : GateState) (request : PageRequest)
      (run : GateProgress CanCount gate start bytes due (record s { held = front ++ s'.held }))
      (spells : SpellsPage front request)
    where
      requests : List PageRequest
      requests = run.requests ++ request ∷ []

      spelled-now : Spelled SpellsPage bytes (run.requests ++ request ∷ []) s'.held
      spelled-now = Spelled-push SpellsPage bytes run.requests front s'.held request run.spelled
          spells

      -- the entries of events behind those so far
      asks-more : (served : List Served) (past : List Event) (more : List Entry)
          → map said run.list ≡ asked 0 (events run.served)
          → map said more ≡ asked (draws_in run.list) past
          → events served ≡ events run.served ++ past
          → map said (run.list ++ more) ≡ asked 0 (events served)
      asks-more served past more before says is =
          let drew : draws_in run.list ≡ 0 + events_draw (events run.served) =
          let all = draws_in-asked 0 run.list (events run.served) before in omega (arith, all) in
          map-append said run.list more
          ∙ ap (λ t. t ++ map said more) before
          ∙ ap (λ t. asked 0 (events run.served) ++ t) (says ∙ ap (λ n. asked n past) drew)
          ∙ sym (asked-append 0 (events run.served) past)
          ∙ ap (asked 0) (sym is)

      -- the replies in those entries
      replies-more : (past : List Event) (more : List Entry)
          → map said more ≡ asked (draws_in run.list) past → (behind : List Reply)
          → map (λ (e : Entry). e.reply) (run.list ++ more) ++ behind
          ≡ map (λ (e : Entry). e.reply) run.list ++ (replies_of past ++ behind)
      replies-more past more says behind =
          ap (λ t. t ++ behind) (map-append (λ (e : Entry). e.reply) run.list more
          ∙ ap (λ t. map (λ (e : Entry). e.reply) run.list ++ t)
          (replies-asked (draws_in run.list) more past says))
          ∙ append_assoc (map (λ (e : Entry). e.reply) run.list) (replies_of past) behind

      moment-is : page_start s.clock ≡ page_moment gate (length run.requests)
      moment-is = same_moment gate s.clock (length run.requests) run.moment

      -- the step of this request, at its own moment
      abbrev at_moment : List Draw → List Reply → Serving
      at_moment draws replies =
          serve gate.mode (page_moment gate (length run.requests)) request draws replies

      same_step : (draws : List Draw) (replies : List Reply)
          → serve gate.mode (page_start s.clock) request draws replies ≡ at_moment draws replies
      same_step draws replies = ap (λ t. serve gate.mode t request draws replies) moment-is

      module _ (answer : Answer)
          (one : ServesPage CanCount gate.mode (page_start s.clock) request s.desk s'.desk s.random
          s'.random answer)
        where
          adds : Adds CanCount run.list (visited_events one.at.visited) s'.desk
          adds = one.at.did run.list run.desk

          served_one : Served
          served_one = record { answer = Some answer; visited = one.at.visited }

          -- what follows behind it
          follows-now : (later : List PageRequest) (ds : List Draw) (more : List Reply)
              → serves gate 0 (requests ++ later) ((run.draws ++ one.drawn) ++ ds)
              (map (λ (e : Entry). e.reply) (run.list ++ adds.more) ++ more)
              ≡ (run.served ++ served_one ∷ [])
              ++ serves gate (length requests) later ds more
          unfolding requests served_one
          follows-now later ds more =
              let replies = map (λ (e : Entry). e.reply) (run.list ++ adds.more) ++ more in
              let behind = replies_of (visited_events one.at.visited) ++ more in
              let step : at_moment (one.drawn ++ ds) behind ≡ record {
                served = record { answer = Some answer; visited = one.at.visited };
                draws = ds;
                replies = more;
              } = sym (same_step (one.drawn ++ ds) behind) ∙ one.at.step ds more in
              let count : length run.requests + 1 ≡ length (run.requests ++ request ∷ []) =
              let sum = length-append run.requests (request ∷ []) in omega (arith, sum) in
              ap (λ r. serves gate 0 r ((run.draws ++ one.drawn) ++ ds) replies)
              (append_assoc run.requests (request ∷ []) later)
              ∙ ap (λ d. serves gate 0 (run.requests ++ request ∷ later) d replies)
              (append_assoc run.draws one.drawn ds)
              ∙ ap (λ r. serves gate 0 (run.requests ++ request ∷ later)
              (run.draws ++ (one.drawn ++ ds)) r)
              (replies-more (visited_events one.at.visited) adds.more adds.says more)
              ∙ run.follows (request ∷ later) (one.drawn ++ ds) behind
              ∙ ap (λ (x : Serving). run.served
              ++ (x.served ∷ serves gate (length run.requests + 1) later x.draws x.replies)) step
              ∙ sym (append_assoc run.served (served_one ∷ [])
              (serves gate (length run.requests + 1) later ds more))
              ∙ ap (λ n. (run.served ++ served_one ∷ []) ++ serves gate n later ds more) count

          pub GateProgress-served : ClockTicks s.clock s'.clock
              → GateProgress CanCount gate start bytes (due ++ answer_text answer) s'
          unfolding requests served_one
          GateProgress-served ticks = record {
            requests = requests;
            draws = run.draws ++ one.drawn;
            list = run.list ++ adds.more;
            served = run.served ++ served_one ∷ [];
            spelled = spelled-now;
            follows = follows-now;
            due_is = ap (λ d. d ++ answer_text answer) run.due_is
                ∙ sym (texts-push run.served served_one);
            answered = All-push IsAnswered run.served served_one run.answered refl;
            lawful = All-push (λ (x : Served). IfSome x.visited IsLawfulVisit) run.served served_one
                run.lawful one.at.lawful;
            asks = asks-more (run.served ++ served_one ∷ []) (visited_events one.at.visited) adds.more
                run.asks adds.says (events-push run.served served_one);
            desk = adds.has;
            drew = AreDraws-append start s.random s'.random run.draws one.drawn run.drew one.drew;
            drew_once =
                let a = length-append run.draws one.drawn in
                let b = draws_needed-push gate.mode run.requests request in
                let c = run.drew_once in
                let d = one.once in
                omega (arith, a, b, c, d);
            moment =
                let sum : length run.requests + 1 ≡ length (run.requests ++ request ∷ []) =
                let all = length-append run.requests (request ∷ []) in omega (arith, all) in
                let next = ticks.in_order gate.start (length run.requests)
                (run.moment ∙ ap (λ n. step_moment gate.start n (length run.requests))
                (sym run.step)) in
                next ∙ ap (λ n. step_moment gate.start n (length run.requests + 1)) run.step
                ∙ ap (step_moment gate.start gate.step) sum;
            step = ticks.step ∙ run.step;
          }

          -- it was served, and its answer was not given
          pub lacks_answer : Lacking CanCount gate start bytes s'.held due s'.desk s'.random
          unfolding requests served_one
          lacks_answer = record {
            requests = requests;
            draws = run.draws ++ one.drawn;
            list = run.list ++ adds.more;
            served = run.served ++ served_one ∷ [];
            front = run.served;
            spelled = spelled-now;
            served_is = sym (ap (λ r. serves gate 0 r (run.draws ++ one.drawn)
                (map (λ (e : Entry). e.reply) (run.list ++ adds.more))) (sym (append-nil requests))
                ∙ ap (λ d. serves gate 0 (requests ++ []) d
                (map (λ (e : Entry). e.reply) (run.list ++ adds.more)))
                (sym (append-nil (run.draws ++ one.drawn)))
                ∙ ap (λ r. serves gate 0 (requests ++ []) ((run.draws ++ one.drawn) ++ []) r)
                (sym (append-nil (map (λ (e : Entry). e.reply) (run.list ++ adds.more))))
                ∙ follows-now [] [] []
                ∙ append-nil (run.served ++ served_one ∷ []));
            but_last = record {
              last = served_one ∷ [];
              parts = refl;
              few = omega arith;
              answered = run.answered;
            };
            due_is = run.due_is;
            lawful = All-push (λ (x : Served). IfSome x.visited IsLawfulVisit) run.served served_one
                run.lawful one.at.lawful;
            asks = asks-more (run.served ++ served_one ∷ []) (visited_events one.at.visited) adds.more
                run.asks adds.says (events-push run.served served_one);
            has = adds.has;
            drew = AreDraws-append start s.random s'.random run.draws one.drawn run.drew one.drew;
            drew_once =
                let a = length-append run.draws one.drawn in
                let b = draws_needed-push gate.mode run.requests request in
                let c = run.drew_once in
                let d = one.once in
                omega (arith, a, b, c, d);
          }

      -- it was cut off
      pub lacks_page : CutsPage CanCount gate.mode (page_start s.clock) request s.desk s'.desk s.random
          s'.random → Lacking CanCount gate start bytes s'.held due s'.desk s'.random
      unfolding requests
      lacks_page cut =
          let adds = cut.at.did run.list run.desk in
          let step = serve gate.mode (page_start s.clock) request (cut.drawn ++ [])
          (replies_of cut.at.past) in
          let drawn : cut.drawn ++ [] ≡ cut.drawn = append-nil cut.drawn in
          let now : at_moment (cut.drawn ++ []) (replies_of cut.at.past ++ []) ≡ step =
          sym (same_step (cut.drawn ++ []) (replies_of cut.at.past ++ []))
          ∙ ap (serve gate.mode (page_start s.clock) request (cut.drawn ++ []))
          (append-nil (replies_of cut.at.past)) in
          record {
            requests = requests;
            draws = run.draws ++ (cut.drawn ++ []);
            list = run.list ++ adds.more;
            served = run.served ++ step.served ∷ [];
            front = run.served;
            spelled = spelled-now;
            served_is = sym (ap (λ r. serves gate 0 requests (run.draws ++ (cut.drawn ++ [])) r)
                (sym (append-nil (map (λ (e : Entry). e.reply) (run.list ++ adds.more)))
                ∙ replies-more cut.at.past adds.more adds.says [])
                ∙ run.follows (request ∷ []) (cut.drawn ++ []) (replies_of cut.at.past ++ [])
                ∙ ap (λ (x : Serving). run.served ++ (x.served ∷ [])) now);
            but_last = record {
              last = step.served ∷ [];
              parts = refl;
              few = omega arith;
              answered = run.answered;
            };
            due_is = run.due_is;
            lawful = All-push (λ (x : Served). IfSome x.visited IsLawfulVisit) run.served
                step.served run.lawful (cut.at.lawful []);
            asks = map-append said run.list adds.more
                ∙ ap (λ t. t ++ map said adds.more) run.asks
                ∙ ap (λ t. asked 0 (events run.served) ++ t) (adds.says
                ∙ sym (cut.at.asks [] (draws_in run.list))
                ∙ ap (λ n. asked n (visited_events step.served.visited))
                (let all = draws_in-asked 0 run.list (events run.served) run.asks in
                let e : draws_in run.list ≡ 0 + events_draw (events run.served) =
                omega (arith, all) in e))
                ∙ sym (asked-append 0 (events run.served) (visited_events step.served.visited))
                ∙ ap (asked 0) (sym (events-push run.served step.served));
            has = adds.has;
            drew = AreDraws-append start s.random s'.random run.draws (cut.drawn ++ []) run.drew
                (subst (λ d. AreDraws s.random d s'.random) (sym drawn) cut.drew);
            drew_once =
                let a = length-append run.draws (cut.drawn ++ []) in
                let b = draws_needed-push gate.mode run.requests request in
                let c = run.drew_once in
                let d = cut.once in
                let e = ap length drawn in
                omega (arith, a, b, c, d, e);
          }
