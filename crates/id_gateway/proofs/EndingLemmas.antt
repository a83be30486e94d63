-- A run of a gatekeeper from its beginning to its end.
use Rattle.std.proofs.Common.{◌≡◌, ℕ, ◌+◌, ◌<◌, ◌≤◌, Bool, true, false, List, [], ◌∷◌, ◌++◌, length, take, Option, Some, None, refl, sym, ap, ◌∙◌, arith, subst, inl, inr, append-nil, append_assoc, length-append}
use Rattle.std.specs.Prelude.{◌⊎◌, ◌≢◌, IsTrue}
use Rattle.std.proofs.Math.Seq.{take-append-add}
use Rattle.asp_base.specs.Limits.{most_input}
use Rattle.asp_base.specs.Moments.{step_moment}
use Rattle.asp_base.specs.Outside.{Takes, TakesFront}
use Rattle.asp_messages.specs.Fields.{most_cookie}
use Rattle.asp_messages.specs.Stream.{Spelled, HasNoMessage, IsHopeless}
use Rattle.plain_desk.specs.DeskStands.{desk_state}
use Rattle.keeper.specs.declared.keeping.Keeper as keepers
use Rattle.message_framing.specs.ReaderState.{empty_reader, CountedReader}
use Rattle.session_machine.specs.History.{nothing}
use Rattle.shard_core.specs.ShardStands.{StandsFor}
use Rattle.command_loop.specs.declared.consumer.Consumer.{Ghosts}
use Rattle.command_loop.specs.declared.ending.RunEnd.TheVariants as ends
use Rattle.command_loop.specs.Ending.{Ended, HasRoom, ConsumerIsOver, IfFewer, RunIsComplete}
use Rattle.command_loop.specs.Flow.{Flow}
use Rattle.page_requests.specs.declared.request.PageRequest.{PageRequest}
use Rattle.page_requests.specs.Requests.{SpellsPage}
use Rattle.page_requests.proofs.RequestLemmas.{SpellsPage-unique, hopeless_some, spelled_some}
use Rattle.id_gateway.specs.declared.gatekeeper.Gatekeeper.{Gatekeeper}
use Rattle.id_gateway.specs.declared.top_call.GateVerdict.{GateVerdict}
use Rattle.id_gateway.specs.declared.top_call.GateVerdict.TheVariants as verdicts
use Rattle.id_gateway.specs.declared.random.Random as randoms
use Rattle.id_gateway.specs.declared.words.GateTerms.{GateTerms}
use Rattle.id_gateway.specs.Gate.{AllAnswered, GateEnd, GateEndsAs, GateFits, IsGateRun, IsWholePages, GateReached, GateStopsBroken, gate_seen, last_bad, status_number}
use Rattle.id_gateway.specs.Giving.{last_body, last_head}
use Rattle.id_gateway.specs.Keeping.{GateBreaks, GateCloses, GateGave, GateGaveSo, HasAnsweredPages, Lacking, GateLacks, GateProgress, GateStays, GateWaits, GateWent, random_of, state_with}
use Rattle.id_gateway.specs.Serving.{Served, texts}
use Rattle.id_gateway.proofs.ConsumerLemmas.{hopeless_none, rest_waits}
use Rattle.id_gateway.proofs.KeepingLemmas.{so_far}

-- ---- a beginning

pub GateWent-start : {K R : Type 0} (G : keepers.Ghosts K) (H : randoms.Ghosts R) (g : Gatekeeper K R)
    → GateFits g.gate → g.reader ≡ record { bytes = empty_reader; looks = 0 }
    → StandsFor nothing 0 [] (G.told g.desk.keeper) (G.count g.desk.keeper)
    → g.desk.cookies ≡ record { next = 1; last = most_cookie }
    → g.clock ≡ record { next = g.gate.start; step = g.gate.step } → GateWent G H g g [] []
GateWent-start G H g fits reader stands cookies clock =
    let first : g.gate.start ≡ step_moment g.gate.start g.gate.step 0 =
    let le = fits.start in omega (arith, le) in
    let last = ap (λ k. k.last) cookies in (
      [],
      inl (
        ap (λ (r : CountedReader). r.bytes.is_broken) reader,
        sym (ap (λ (r : CountedReader). r.bytes.held) reader),
      ),
      record {
        stays = record { gate = refl; floor = refl };
        progress = record {
          requests = [];
          draws = [];
          list = [];
          served = [];
          spelled = refl;
          follows = λ later ds more. refl;
          due_is = refl;
          answered = tt;
          lawful = tt;
          asks = refl;
          desk = record {
            stands = record {
              stands = stands;
              counts = tt;
              next = ap (λ k. k.next) cookies ∙ omega (arith, last);
              in_order = omega arith;
              drawn = tt;
              held = λ left key. tt;
            };
            last = last;
          };
          drew = refl;
          drew_once = refl;
          moment = ap (λ k. k.next) clock ∙ first;
          step = ap (λ k. k.step) clock;
        };
      },
    )

-- ---- endings

none_long : (last : List ℕ) → last ≡ [] → 0 < length last → ⊥
none_long last none some = let long = ap length none in omega (arith, long, some)

room_more : (more : Bool) (count most : ℕ) → IsTrue more → HasRoom more count most → count < most
room_more true count most is room = room
room_more false count most is room = cc

front_of : (sink sink' : Option (List ℕ)) (whole last : List ℕ) (n : ℕ) → n ≤ length last
    → Takes sink sink' (whole ++ take n last) → TakesFront sink sink' (whole ++ last)
front_of sink sink' whole last n le wrote = (
  length whole + n,
  omega (arith, le, length-append whole last),
  subst (Takes sink sink') (sym (take-append-add whole last n)) wrote,
)

module _ {K R : Type 0} (G : keepers.Ghosts K) (H : randoms.Ghosts R) where
  abbrev pub ghosts : Ghosts (Gatekeeper K R) GateVerdict
  ghosts = record {
    went = GateWent G H;
    waits = GateWaits G H;
    gave = GateGaveSo G H;
    lacks = GateLacks G H;
    work = λ now. length now.reader.bytes.held;
    parts = λ now. (last_head now.given now.head.items, last_body now.given);
  }

  module _ (most : ℕ) (first now : Gatekeeper K R) (f : Flow) where
    over_keeps : (verdict : GateVerdict) (bytes whole last : List ℕ)
        → ConsumerIsOver ghosts most first now f.source' bytes verdict whole last → GateStays G H first now
    over_keeps verdicts.Whole bytes whole last (inl (closes, end, some)) = closes.1.stays
    over_keeps verdicts.Broken bytes whole last (inl (closes, end, some)) = closes.1.3.stays
    over_keeps verdicts.Whole bytes whole last (inr (more, breaks, room)) = absurd breaks.1
    over_keeps verdicts.Broken bytes whole last (inr (more, breaks, room)) = breaks.1.1.2.stays

    part_keeps : (bytes whole last : List ℕ)
        → ((verdict : GateVerdict) × ConsumerIsOver ghosts most first now f.source' bytes verdict whole last)
        ⊎ GateGave G H first now bytes whole last → GateStays G H first now
    part_keeps bytes whole last (inl (verdict, over)) = over_keeps verdict bytes whole last over
    part_keeps bytes whole last (inr gave) = gave.1.stays

    -- the floor, and where identifiers come from, at each ending
    pub stays_of : (end : GateEnd) → Ended ghosts most first now f end → GateStays G H first now
    stays_of (ends.Over verdict) run =
        over_keeps verdict run.taken run.ends.0 run.ends.1 run.ends.2
    stays_of ends.ReadFault run = run.ends.1.2.stays
    stays_of ends.WriteFault run = part_keeps run.taken run.ends.0 run.ends.1 run.ends.3
    stays_of ends.NoMemory run = run.ends.1.1
    stays_of ends.Long run = run.ends.1.2.stays

  module _ (gate : GateTerms) (first now : Gatekeeper K R) (f : Flow) (is_gate : first.gate ≡ gate) where
    -- what the run gives
    abbrev Gives : GateEnd → Type 0
    Gives end = IsGateRun G.can_count gate (gate_seen f (random_of H first.random)
        (random_of H now.random) (G.told now.desk.keeper) (G.count now.desk.keeper)) end

    abbrev reached : List ℕ → ℕ → List Served → GateReached
    reached rest count served = record { flow = f; rest = rest; count = count; served = served }

    by_run : (end : GateEnd) (ended : Ended ghosts most_input first now f end) (rest due : List ℕ)
        → HasAnsweredPages G H first now ended.taken rest due
        → ((served : List Served) → AllAnswered served → due ≡ texts served
        → GateEndsAs end (reached rest (length ended.taken) served)) → Gives end
    by_run end ended rest due has how = record {
      bytes = ended.taken;
      requests = run.requests;
      rest = rest;
      draws = run.draws;
      list = run.list;
      given = ended.given;
      within = ended.within;
      spelled = run.spelled;
      drew = run.drew;
      drew_once = run.drew_once;
      served = run.served;
      served_is = so_far G.can_count gate (random_of H first.random) ended.taken due
          (state_with G H now rest) run;
      asks = run.asks;
      lawful = run.lawful;
      counts = run.desk.stands.counts;
      stands = run.desk.stands.stands;
      ends = how run.served run.answered run.due_is;
    }
      where
        run : GateProgress G.can_count gate (random_of H first.random) ended.taken due
            (state_with G H now rest)
        run = subst (λ g. GateProgress G.can_count g (random_of H first.random) ended.taken due
            (state_with G H now rest)) is_gate has.progress

    -- bytes that are the texts, and a tail behind them
    wrote-texts : (Wrote : List ℕ → Type 0) (whole tail : List ℕ) (served : List Served)
        → whole ≡ texts served → Wrote (whole ++ tail) → Wrote (texts served ++ tail)
    wrote-texts Wrote whole tail served is = subst (λ w. Wrote (w ++ tail)) is

    wrote-all : (Wrote : List ℕ → Type 0) (whole : List ℕ) (served : List Served)
        → whole ≡ texts served → Wrote whole → Wrote (texts served)
    wrote-all Wrote whole served is = subst Wrote is

    -- the rest of an input that is broken, with what closes it
    module _ (end : GateEnd) (ended : Ended ghosts most_input first now f end) (whole last : List ℕ)
        (Wrote : List ℕ → Type 0)
        (how : (rest : List ℕ) (served : List Served) → AllAnswered served
        → GateStopsBroken (reached rest (length ended.taken) served)
        → Wrote (texts served ++ last_bad)
        → GateEndsAs end (reached rest (length ended.taken) served))
      where
        broken_run : ConsumerIsOver ghosts most_input first now f.source' ended.taken verdicts.Broken whole
            last → Wrote (whole ++ last) → Gives end
        broken_run (inl (closes, at_end, some)) wrote =
            let (is, (rest, more, none, has)) = closes in
            by_run end ended rest whole has (λ served all texts_are.
            how rest served all ((more, inr at_end), none, some)
            (wrote-texts Wrote whole last_bad served texts_are
            (subst (λ l. Wrote (whole ++ l)) is wrote)))
        broken_run (inr (more, breaks, room)) wrote =
            let (is_more, (is, (rest, hopeless, has))) = breaks in
            by_run end ended rest whole has (λ served all texts_are.
            how rest served all (
              (hopeless_some rest hopeless, inl hopeless),
              hopeless_none rest hopeless,
              room_more more (length ended.taken) most_input is_more room,
            )
            (wrote-texts Wrote whole last_bad served texts_are
            (subst (λ l. Wrote (whole ++ l)) is wrote)))

    over_run : (verdict : GateVerdict)
        (ended : Ended ghosts most_input first now f (ends.Over verdict)) (whole last : List ℕ)
        → ConsumerIsOver ghosts most_input first now f.source' ended.taken verdict whole last
        → Takes f.sink f.sink' (whole ++ last) → Gives (ends.Over verdict)
    over_run verdicts.Whole ended whole last (inl (closes, at_end, some)) wrote =
        by_run (ends.Over verdicts.Whole) ended [] whole closes.1 (λ served all texts_are. (
          all,
          at_end,
          refl,
          some,
          wrote-all (Takes f.sink f.sink') whole served texts_are
              (subst (Takes f.sink f.sink') (ap (λ l. whole ++ l) closes.0 ∙ append-nil whole)
              wrote),
        ))
    over_run verdicts.Whole ended whole last (inr (more, breaks, room)) wrote = absurd breaks.1
    over_run verdicts.Broken ended whole last over wrote =
        broken_run (ends.Over verdicts.Broken) ended whole last (Takes f.sink f.sink')
        (λ rest served all stops closed. (all, stops, closed)) over wrote

    part_run : (ended : Ended ghosts most_input first now f ends.WriteFault) (whole last : List ℕ)
        (n : ℕ)
        → ((verdict : GateVerdict)
        × ConsumerIsOver ghosts most_input first now f.source' ended.taken verdict whole last)
        ⊎ GateGave G H first now ended.taken whole last
        → 0 < length last → n ≤ length last → Takes f.sink f.sink' (whole ++ take n last)
        → Gives ends.WriteFault
    part_run ended whole last n (inl (verdicts.Whole, inl (closes, at_end, some))) long le wrote =
        absurd (none_long last closes.0 long)
    part_run ended whole last n (inl (verdicts.Whole, inr (more, breaks, room))) long le wrote =
        absurd breaks.1
    part_run ended whole last n (inl (verdicts.Broken, over)) long le wrote =
        broken_run ends.WriteFault ended whole last (TakesFront f.sink f.sink')
        (λ rest served all stops closed. (all, inr (stops, closed))) over
        (front_of f.sink f.sink' whole last n le wrote)
    part_run ended whole last n (inr gave) long le wrote =
        by_run ends.WriteFault ended gave.0 (whole ++ last) gave.1 (λ served all texts_are. (
          all,
          inl (wrote-all (TakesFront f.sink f.sink') (whole ++ last) served texts_are
              (front_of f.sink f.sink' whole last n le wrote)),
        ))

    lacks_run : (ended : Ended ghosts most_input first now f ends.NoMemory) (rest due : List ℕ)
        → Lacking G.can_count first.gate (random_of H first.random) ended.taken rest due
        (desk_state G now.desk) (random_of H now.random)
        → Takes f.sink f.sink' due → Gives ends.NoMemory
    lacks_run ended rest due has wrote = record {
      bytes = ended.taken;
      requests = run.requests;
      rest = rest;
      draws = run.draws;
      list = run.list;
      given = ended.given;
      within = ended.within;
      spelled = run.spelled;
      drew = run.drew;
      drew_once = run.drew_once;
      served = run.served;
      served_is = run.served_is;
      asks = run.asks;
      lawful = run.lawful;
      counts = run.has.stands.counts;
      stands = run.has.stands.stands;
      ends = (
        run.front,
        run.but_last,
        wrote-all (Takes f.sink f.sink') due run.front run.due_is wrote,
      );
    }
      where
        run : Lacking G.can_count gate (random_of H first.random) ended.taken rest due
            (desk_state G now.desk) (random_of H now.random)
        run = subst (λ g. Lacking G.can_count g (random_of H first.random) ended.taken rest due
            (desk_state G now.desk) (random_of H now.random)) is_gate has

    pub run_of : (end : GateEnd) → Ended ghosts most_input first now f end → Gives end
    run_of (ends.Over verdict) ended =
        over_run verdict ended ended.ends.0 ended.ends.1 ended.ends.2 ended.ends.3
    run_of ends.ReadFault ended =
        let (due, (rest, is, has), waits, some, wrote) = ended.ends in
        by_run ends.ReadFault ended rest due has (λ served all texts_are. (
          all,
          rest_waits now.reader.bytes rest is waits.none,
          some,
          wrote-all (Takes f.sink f.sink') due served texts_are wrote,
        ))
    run_of ends.WriteFault ended =
        let (whole, last, n, either, some, le, wrote) = ended.ends in
        part_run ended whole last n either some le wrote
    run_of ends.NoMemory ended =
        let (due, (rest, stays, has), wrote) = ended.ends in lacks_run ended rest due has wrote
    run_of ends.Long ended =
        let (due, (rest, is, has), waits, all_taken, wrote) = ended.ends in
        by_run ends.Long ended rest due has (λ served all texts_are. (
          all,
          rest_waits now.reader.bytes rest is waits.none,
          all_taken,
          wrote-all (Takes f.sink f.sink') due served texts_are wrote,
        ))

-- ---- whole input

nothing_front : (a b : List ℕ) → a ++ b ≡ [] → a ≡ []
nothing_front [] b none = refl
nothing_front (x ∷ a) b none = cc

rest_whole : (bytes rest more : List ℕ) (ms all : List PageRequest)
    → Spelled SpellsPage bytes ms rest → Spelled SpellsPage (bytes ++ more) all []
    → (left : List PageRequest) × Spelled SpellsPage (rest ++ more) left []
rest_whole bytes rest more [] all is whole =
    (all, subst (λ t. Spelled SpellsPage (t ++ more) all []) is whole)
rest_whole bytes rest more (m ∷ ms) [] (front, back, is, one, others) whole =
    let empty =
    nothing_front front (back ++ more) (sym (append_assoc front back more)
    ∙ ap (λ t. t ++ more) (sym is) ∙ whole) in
    absurd (omega (arith, spelled_some front m one, ap length empty))
rest_whole bytes rest more (m ∷ ms) (n ∷ ns) (front, back, is, one, others)
    (front', back', is', other, behind) =
    let same =
    SpellsPage-unique (bytes ++ more) front (back ++ more) front' back' m n
    (ap (λ t. t ++ more) is ∙ append_assoc front back more) one is' other in
    rest_whole back rest more ms ns others
    (subst (λ t. Spelled SpellsPage t ns []) (sym same.1) behind)

ended_whole : (rest : List ℕ) (left : List PageRequest) → rest ≢ [] → HasNoMessage SpellsPage rest
    → Spelled SpellsPage (rest ++ []) left [] → ⊥
ended_whole rest [] some none whole = some (nothing_front rest [] whole)
ended_whole rest (m ∷ ms) some none (front, back, is, one, others) =
    none front back m (sym (append-nil rest) ∙ is) one

hopeless_whole : (rest more : List ℕ) (left : List PageRequest) → IsHopeless SpellsPage rest
    → Spelled SpellsPage (rest ++ more) left [] → ⊥
hopeless_whole rest more [] hopeless whole =
    hopeless_some rest hopeless (nothing_front rest more whole)
hopeless_whole rest more (m ∷ ms) hopeless (front, back, is, one, others) =
    hopeless more front back m is one

module _ {K R : Type 0} (G : keepers.Ghosts K) (H : randoms.Ghosts R)
    (first now : Gatekeeper K R) (f : Flow)
  where
    left_whole : (front more rest due : List ℕ) (all : List PageRequest)
        → HasAnsweredPages G H first now front rest due → Spelled SpellsPage (front ++ more) all []
        → (left : List PageRequest) × Spelled SpellsPage (rest ++ more) left []
    left_whole front more rest due all has whole =
        rest_whole front rest more has.progress.requests all has.progress.spelled whole

    broken_whole : (input whole last : List ℕ) (all : List PageRequest)
        → GateCloses G H verdicts.Broken first now input whole last
        ⊎ ((front : List ℕ) × (behind : List ℕ) × (more : Bool) × (input ≡ front ++ behind)
        × (IsTrue more × GateBreaks G H verdicts.Broken first now front whole last))
        → Spelled SpellsPage input all [] → ⊥
    broken_whole input whole last all (inl (is, (rest, some, none, has))) spelled =
        let left = left_whole input [] rest whole all has
        (subst (λ t. Spelled SpellsPage t all []) (sym (append-nil input)) spelled) in
        ended_whole rest left.0 some none left.1
    broken_whole input whole last all (inr (front, behind, more, is, breaks)) spelled =
        let (is_more, (closed, (rest, hopeless, has))) = breaks in
        let left = left_whole front behind rest whole all has
        (subst (λ t. Spelled SpellsPage t all []) is spelled) in
        hopeless_whole rest behind left.0 hopeless left.1

    pub complete_run : (told : Option (List ℕ × List ℕ)) (end : GateEnd)
        → IfFewer told most_input (RunIsComplete (ghosts G H) first now f end) → IsWholePages told
        → (status_number end ≡ 0) ⊎ (status_number end ≡ 6)
    complete_run None end complete input = absurd input
    complete_run (Some told) (ends.Over verdicts.Whole) complete input = inl refl
    complete_run (Some told) (ends.Over verdicts.Broken) complete input =
        let (whole, last, over, wrote) = complete input.0 in
        absurd (broken_whole told.1 whole last input.1.0 over input.1.1)
    complete_run (Some told) ends.NoMemory complete input = inr refl
    complete_run (Some told) ends.ReadFault complete input = absurd (complete input.0)
    complete_run (Some told) ends.WriteFault complete input = absurd (complete input.0)
    complete_run (Some told) ends.Long complete input = absurd (complete input.0)
