-- A run of a responder from its beginning to its end.
use Rattle.std.proofs.Common.{◌≡◌, ℕ, ◌+◌, ◌<◌, ◌≤◌, Bool, true, false, not, List, [], ◌∷◌, ◌++◌, length, take, Option, Some, None, refl, sym, ap, ◌∙◌, arith, subst, inl, inr, append-nil}
use Rattle.std.specs.List.{AllByRecursion}
use Rattle.std.specs.Prelude.{◌⊎◌, ◌≢◌, All, IsTrue}
use Rattle.std.proofs.lemmas.List.Elements.{All-from_recursion}
use Rattle.asp_base.specs.Moments.{step_moment}
use Rattle.asp_base.specs.Outside.{Takes}
use Rattle.asp_messages.specs.declared.request.Ask.TheVariants.{Read}
use Rattle.asp_messages.specs.declared.request.Message.TheVariants.{Fit}
use Rattle.asp_messages.specs.declared.request.Request.{Request}
use Rattle.asp_messages.specs.Ranges.{RequestFits}
use Rattle.asp_messages.specs.RequestSpelling.{SpellsRequest}
use Rattle.asp_messages.specs.RequestText.{request_text}
use Rattle.asp_messages.specs.Stream.{IsHopeless}
use Rattle.asp_messages.proofs.SentRequestLemmas.{request_spelled}
use Rattle.keeper.specs.declared.keeping.Keeper as keepers
use Rattle.lock_laws.proofs.LawLemmas.{LocksHold-of_legal}
use Rattle.lock_laws.proofs.FaultLemmas.{faults-counted, no-counts}
use Rattle.message_framing.specs.ReaderState.{empty_reader}
use Rattle.percent_encoding.proofs.PercentLemmas.{IsByte}
use Rattle.session_machine.specs.declared.entry.Entry.{Entry}
use Rattle.session_machine.specs.declared.item.Item.{Item}
use Rattle.plain_desk.specs.Openings.{NeverBegins, Opening, HasHistoryFrom, opening_over}
use Rattle.session_machine.specs.History.{IsLegal}
use Rattle.session_machine.specs.Profiles.{newest}
use Rattle.shard_core.specs.ShardStands.{StandsFor}
use Rattle.stream_core.specs.Connection.{Connection}
use Rattle.command_loop.specs.declared.consumer.Consumer.{Ghosts}
use Rattle.command_loop.specs.declared.ending.RunEnd.TheVariants as ends
use Rattle.command_loop.specs.Ending.{Ended, HasRoom, ConsumerIsOver}
use Rattle.command_loop.specs.Flow.{Flow}
use Rattle.pipe_command.specs.declared.pipe.Pipe.{Pipe}
use Rattle.pipe_command.specs.declared.pipe.PipeVerdict.{PipeVerdict}
use Rattle.pipe_command.specs.declared.pipe.PipeVerdict.TheVariants as verdicts
use Rattle.pipe_command.specs.declared.responder.Responder.{Responder}
use Rattle.pipe_command.specs.Giving.{given_body, given_head}
use Rattle.pipe_command.specs.PlainRun.{PipeStart, closing, output_of, written_as}
use Rattle.pipe_command.specs.PipeProgress.{Progress, ProgressLast}
use Rattle.pipe_command.specs.Responding.{PipeGave, GaveSo, HasAnswered, IsUnbegun, PipeLacks, PipeWaits, PipeWent, owing, start_with, state_of_responder, unbegun}
use Rattle.pipe_command.specs.PipeRun.{PipeEnd, PipeEndsAs, IsRun, PipeFits, PipeReached, StopsBroken, NeverFails, TellsLocks, Wrote, PipeWroteInPart, closing_in, owed_in}
use Rattle.pipe_command.proofs.ResponderLemmas.{owed_of, hopeless_none, rest_waits}

-- ---- a beginning

-- what is due at first is the first line of a journal
begins : (journal is_begun : Bool) → is_begun ≡ not journal
    → owing is_begun [] ≡ written_as (output_of journal) [] []
begins false is_begun is = ap (λ b. owing b []) is
begins true is_begun is = ap (λ b. owing b []) is

-- and nothing was taken before it
unbegun_first : (journal is_begun : Bool) → is_begun ≡ not journal
    → IsUnbegun is_begun journal [] []
unbegun_first false is_begun is = subst (λ b. IsUnbegun b false [] []) (sym is) tt
unbegun_first true is_begun is = subst (λ b. IsUnbegun b true [] []) (sym is) (refl, refl, refl)

pub PipeWent-start : {K : Type 0} (G : keepers.Ghosts K) (r : Responder K) → PipeFits r.pipe
    → r.is_begun ≡ not r.pipe.journal → r.stream ≡ record { reader = empty_reader }
    → HasHistoryFrom G (opening_over G r.desk.keeper r.desk.cookies) [] r.desk
    → r.clock ≡ record { next = r.pipe.start; step = r.pipe.step } → PipeWent G r r [] []
PipeWent-start G r fits begun stream desk clock =
    let first : r.pipe.start ≡ step_moment r.pipe.start r.pipe.step 0 =
    let le = fits.start in omega arith in (
      [],
      inl (
        ap (λ (s : Connection). s.reader.is_broken) stream,
        sym (ap (λ (s : Connection). s.reader.held) stream),
      ),
      record {
        pipe = refl;
        floor = refl;
        tells = λ none. none;
        progress = record {
          messages = [];
          list = [];
          spelled = refl;
          plain = refl;
          owed_is = begins r.pipe.journal r.is_begun begun;
          desk = desk;
          last_cookie = refl;
          moment = ap (λ k. k.next) clock ∙ first;
          step = ap (λ k. k.step) clock;
        };
      },
      unbegun_first r.pipe.journal r.is_begun begun,
    )

-- ---- endings

-- a history that a keeper stands for gives what locks give
locks_of : (opening : Opening) (told : Option (List ℕ → Option Item)) (faults : ℕ)
    (list : List Entry) → StandsFor opening.items opening.count list told faults
    → TellsLocks opening told list
locks_of opening None faults list stands = tt
locks_of opening (Some items) faults list stands =
    LocksHold-of_legal opening.items opening.count list stands.told_is.0

-- over a keeper that never counts a fault none is answered
no_faults_of : (CanCount : ℕ → Type 0) (opening : Opening) (told : Option (List ℕ → Option Item))
    (faults : ℕ) (list : List Entry) → CanCount opening.count
    → StandsFor opening.items opening.count list told faults
    → AllByRecursion (λ e. CanCount e.faults) list → NeverFails CanCount told list
no_faults_of CanCount opening None faults list can stands counts = tt
no_faults_of CanCount opening (Some items) faults list can stands counts =
    λ never. faults-counted newest opening.items list
    (subst (λ count. IsLegal opening.items count list) (never opening.count can) stands.told_is.0)
    (no-counts CanCount list counts never)

-- a rest that is hopeless is not empty: a read of `/` could follow it
hopeless_after : (r : Request) → RequestFits r → All IsByte r.key → (rest : List ℕ)
    → IsHopeless SpellsRequest rest → rest ≢ []
hopeless_after r fits bytes rest hopeless none =
    hopeless (request_text r) (request_text r) [] (Fit r)
    (ap (λ t. t ++ request_text r) none ∙ sym (append-nil _)) (request_spelled r fits bytes)

pub hopeless_some : (rest : List ℕ) → IsHopeless SpellsRequest rest → rest ≢ []
hopeless_some rest hopeless =
    hopeless_after (record { key = 47 ∷ []; ask = Read })
    (record { key = (omega arith, omega arith); ask = tt })
    (All-from_recursion IsByte (47 ∷ []) (omega arith, tt)) rest hopeless

none_long : (last : List ℕ) → last ≡ [] → 0 < length last → ⊥
none_long last none some = let long = ap length none in omega (arith, long, some)

room_more : (more : Bool) (count most : ℕ) → IsTrue more → HasRoom more count most → count < most
room_more true count most is room = room
room_more false count most is room = cc

module _ {K : Type 0} (G : keepers.Ghosts K) where
  abbrev pub ghosts : Ghosts (Responder K) PipeVerdict
  ghosts = record {
    went = PipeWent G;
    waits = PipeWaits;
    gave = GaveSo G;
    lacks = PipeLacks G;
    work = λ now. length now.stream.reader.held + unbegun now.is_begun;
    parts = λ now. (given_head now.given now.line.items, given_body now.given);
  }

  module _ (most : ℕ) (first now : Responder K) (f : Flow) where
    -- the floor is kept at each ending, and the keeper did not begin to tell
    abbrev KeepsFloor : Type 0
    KeepsFloor = (G.floor now.desk.keeper ≡ G.floor first.desk.keeper)
        × NeverBegins (G.told first.desk.keeper) (G.told now.desk.keeper)

    over_floor : (verdict : PipeVerdict) (bytes whole last : List ℕ)
        → ConsumerIsOver ghosts most first now f.source' bytes verdict whole last → KeepsFloor
    over_floor verdicts.Whole bytes whole last (inl (closes, end, some)) = (closes.1.floor, closes.1.tells)
    over_floor verdicts.Broken bytes whole last (inl (closes, end, some)) = (closes.1.3.floor, closes.1.3.tells)
    over_floor verdicts.Whole bytes whole last (inr (more, breaks, room)) = absurd breaks.1
    over_floor verdicts.Broken bytes whole last (inr (more, breaks, room)) = (breaks.1.1.2.floor, breaks.1.1.2.tells)

    part_floor : (bytes whole last : List ℕ)
        → ((verdict : PipeVerdict)
        × ConsumerIsOver ghosts most first now f.source' bytes verdict whole last)
        ⊎ PipeGave G first now bytes whole last → KeepsFloor
    part_floor bytes whole last (inl (verdict, over)) = over_floor verdict bytes whole last over
    part_floor bytes whole last (inr (rest, inl has)) = (has.floor, has.tells)
    part_floor bytes whole last (inr (rest, inr (has, line))) = (has.floor, has.tells)

    lacks_floor : (bytes due : List ℕ) → PipeLacks G first now bytes due → KeepsFloor
    lacks_floor bytes due (rest, inl has) = (has.floor, has.tells)
    lacks_floor bytes due (rest, inr (journal, (line, has))) = (has.floor, has.tells)

    pub floor_of : (end : PipeEnd) → Ended ghosts most first now f end → KeepsFloor
    floor_of (ends.Over verdict) run =
        over_floor verdict run.taken run.ends.0 run.ends.1 run.ends.2
    floor_of ends.ReadFault run = (run.ends.1.2.floor, run.ends.1.2.tells)
    floor_of ends.WriteFault run = part_floor run.taken run.ends.0 run.ends.1 run.ends.3
    floor_of ends.NoMemory run = lacks_floor run.taken run.ends.0 run.ends.1
    floor_of ends.Long run = (run.ends.1.2.floor, run.ends.1.2.tells)

  module _ (first now : Responder K) (f : Flow) (can : G.can_count (G.count first.desk.keeper))
    where
      -- what the run gives
      abbrev Gives : PipeEnd → Type 0
      Gives end =
          IsRun G.can_count (start_with G first) f (G.told now.desk.keeper) (G.count now.desk.keeper) end

      -- how far it came, with this rest
      abbrev ProgressAt : List ℕ → List ℕ → List ℕ → Type 0
      ProgressAt bytes rest due =
          Progress G.can_count (start_with G first) bytes due
          (record (state_of_responder G now) { held = rest })

      -- where it stood
      abbrev reached : (bytes rest due : List ℕ) → ProgressAt bytes rest due → PipeReached
      reached bytes rest due run = record {
        start = start_with G first;
        flow = f;
        messages = run.messages;
        list = run.list;
        rest = rest;
        count = length bytes;
      }

      by_run : (end : PipeEnd) (ended : Ended ghosts first.pipe.most first now f end)
          (rest due : List ℕ) (run : ProgressAt ended.taken rest due)
          → PipeEndsAs end (reached ended.taken rest due run) → Gives end
      by_run end ended rest due run how = record {
        bytes = ended.taken;
        messages = run.messages;
        rest = rest;
        list = run.list;
        given = ended.given;
        within = ended.within;
        spelled = run.spelled;
        plain = run.plain;
        counts = run.desk.counts;
        stands = run.desk.stands;
        locks = locks_of (start_with G first).opening (G.told now.desk.keeper) (G.count now.desk.keeper) run.list run.desk.stands;
        no_faults = no_faults_of G.can_count (start_with G first).opening (G.told now.desk.keeper)
            (G.count now.desk.keeper) run.list can run.desk.stands run.desk.counts;
        ends = how;
      }

      -- all that is due was written
      all_wrote : (bytes rest due : List ℕ) (run : ProgressAt bytes rest due)
          → Takes f.sink f.sink' due
          → Wrote (reached bytes rest due run) (owed_in (reached bytes rest due run))
      all_wrote bytes rest due run wrote = subst (Takes f.sink f.sink') run.owed_is wrote

      -- so many bytes of what is due for the last message were
      part_wrote : (bytes rest whole last : List ℕ) (n : ℕ)
          (run : ProgressLast G.can_count (start_with G first) bytes whole last
          (record (state_of_responder G now) { held = rest }))
          → n ≤ length last → Takes f.sink f.sink' (whole ++ take n last)
          → PipeWroteInPart (reached bytes rest (whole ++ last) run.progress) n
      part_wrote bytes rest whole last n run le wrote =
          record { whole = whole; last = last; splits = run.parts; part = le; took = wrote }

      -- the rest of an input that is broken, with what closes it
      module _ (end : PipeEnd) (ended : Ended ghosts first.pipe.most first now f end)
          (whole last : List ℕ) (Closed : List ℕ → List ℕ → Type 0)
          (closed : Closed whole last)
          (how : (rest : List ℕ) (run : ProgressAt ended.taken rest whole)
          → StopsBroken (reached ended.taken rest whole run)
          → Closed (owed_in (reached ended.taken rest whole run))
          (closing_in (reached ended.taken rest whole run))
          → PipeEndsAs end (reached ended.taken rest whole run))
        where
          with_run : (rest : List ℕ) (has : HasAnswered G first now ended.taken rest whole)
              → last ≡ closing (output_of first.pipe.journal)
              → StopsBroken (reached ended.taken rest whole has.progress) → Gives end
          with_run rest has is stops =
              by_run end ended rest whole has.progress (how rest has.progress stops
              (subst (λ d. Closed d (closing (output_of first.pipe.journal))) has.progress.owed_is
              (subst (λ l. Closed whole l) is closed)))

          broken_run : ConsumerIsOver ghosts first.pipe.most first now f.source' ended.taken
              verdicts.Broken
              whole last → Gives end
          broken_run (inl (closes, at_end, some)) =
              let (is, (rest, more, none, has)) = closes in
              with_run rest has is ((more, inr at_end), none, some)
          broken_run (inr (more, breaks, room)) =
              let (is_more, (is, (rest, hopeless, has))) = breaks in
              with_run rest has is (
                (hopeless_some rest hopeless, inl hopeless),
                hopeless_none rest hopeless,
                room_more more (length ended.taken) first.pipe.most is_more room,
              )

      over_run : (verdict : PipeVerdict)
          (ended : Ended ghosts first.pipe.most first now f (ends.Over verdict))
          (whole last : List ℕ)
          → ConsumerIsOver ghosts first.pipe.most first now f.source' ended.taken verdict whole last
          → Takes f.sink f.sink' (whole ++ last) → Gives (ends.Over verdict)
      over_run verdicts.Whole ended whole last (inl (closes, at_end, some)) wrote =
          by_run (ends.Over verdicts.Whole) ended [] whole closes.1.progress (
            at_end,
            refl,
            some,
            all_wrote ended.taken [] whole closes.1.progress
                (subst (Takes f.sink f.sink') (ap (λ l. whole ++ l) closes.0 ∙ append-nil whole)
                wrote),
          )
      over_run verdicts.Whole ended whole last (inr (more, breaks, room)) wrote = absurd breaks.1
      over_run verdicts.Broken ended whole last over wrote =
          broken_run (ends.Over verdicts.Broken) ended whole last
          (λ due closing. Takes f.sink f.sink' (due ++ closing)) wrote
          (λ rest run stops closed. (stops, closed)) over

      gave_run : (ended : Ended ghosts first.pipe.most first now f ends.WriteFault)
          (whole last : List ℕ) (n : ℕ) → PipeGave G first now ended.taken whole last
          → n ≤ length last → Takes f.sink f.sink' (whole ++ take n last) → Gives ends.WriteFault
      gave_run ended whole last n (rest, inl has) le wrote =
          by_run ends.WriteFault ended rest (whole ++ last) has.progress.progress
          (n, inl (part_wrote ended.taken rest whole last n has.progress le wrote))
      gave_run ended whole last n (rest, inr (has, (journal, no_bytes, no_whole, line))) le wrote =
          by_run ends.WriteFault ended rest (whole ++ last) has.progress (
            n,
            inr (inl (
              journal,
              ap length no_bytes,
              subst (λ l. n ≤ length l) line le,
              subst (λ l. Takes f.sink f.sink' (take n l)) line
                  (subst (λ w. Takes f.sink f.sink' (w ++ take n last)) no_whole wrote),
            )),
          )

      part_run : (ended : Ended ghosts first.pipe.most first now f ends.WriteFault)
          (whole last : List ℕ) (n : ℕ)
          → ((verdict : PipeVerdict)
          × ConsumerIsOver ghosts first.pipe.most first now f.source' ended.taken verdict whole last)
          ⊎ PipeGave G first now ended.taken whole last
          → 0 < length last → n ≤ length last → Takes f.sink f.sink' (whole ++ take n last)
          → Gives ends.WriteFault
      part_run ended whole last n (inl (verdicts.Whole, inl (closes, at_end, some))) long le wrote =
          absurd (none_long last closes.0 long)
      part_run ended whole last n (inl (verdicts.Whole, inr (more, breaks, room))) long le wrote =
          absurd breaks.1
      part_run ended whole last n (inl (verdicts.Broken, over)) long le wrote =
          broken_run ends.WriteFault ended whole last
          (λ due closing. (n ≤ length closing) × Takes f.sink f.sink' (due ++ take n closing))
          (le, wrote) (λ rest run stops closed. (n, inr (inr (stops, closed)))) over
      part_run ended whole last n (inr gave) long le wrote = gave_run ended whole last n gave le wrote

      lacks_run : (ended : Ended ghosts first.pipe.most first now f ends.NoMemory) (due : List ℕ)
          → PipeLacks G first now ended.taken due → Takes f.sink f.sink' due → Gives ends.NoMemory
      lacks_run ended due (rest, inl has) wrote =
          by_run ends.NoMemory ended rest due has.progress
          (inl (all_wrote ended.taken rest due has.progress wrote))
      lacks_run ended due (rest, inr (journal, (line, has))) wrote =
          by_run ends.NoMemory ended rest (due ++ line) has.progress.progress (inr (
            journal,
            part_wrote ended.taken rest due line 0 has.progress (omega arith)
                (subst (Takes f.sink f.sink') (sym (append-nil due)) wrote),
          ))

      ended_run : (end : PipeEnd) → Ended ghosts first.pipe.most first now f end → Gives end
      ended_run (ends.Over verdict) ended =
          over_run verdict ended ended.ends.0 ended.ends.1 ended.ends.2 ended.ends.3
      ended_run ends.ReadFault ended =
          let (due, (rest, is, has, none), waits, some, wrote) = ended.ends in
          let now_has = owed_of G first now ended.taken rest due waits.is_begun has in
          by_run ends.ReadFault ended rest due now_has.progress (
            rest_waits now.stream.reader rest is waits.none,
            some,
            all_wrote ended.taken rest due now_has.progress wrote,
          )
      ended_run ends.WriteFault ended =
          let (whole, last, n, either, some, le, wrote) = ended.ends in
          part_run ended whole last n either some le wrote
      ended_run ends.NoMemory ended =
          lacks_run ended ended.ends.0 ended.ends.1 ended.ends.2
      ended_run ends.Long ended =
          let (due, (rest, is, has, none), waits, all, wrote) = ended.ends in
          let now_has = owed_of G first now ended.taken rest due waits.is_begun has in
          by_run ends.Long ended rest due now_has.progress (
            rest_waits now.stream.reader rest is waits.none,
            all,
            all_wrote ended.taken rest due now_has.progress wrote,
          )

  pub run_of : (start : PipeStart) (first now : Responder K) (f : Flow)
      → G.can_count (G.count first.desk.keeper) → start_with G first ≡ start
      → (end : PipeEnd) → Ended ghosts start.pipe.most first now f end
      → IsRun G.can_count start f (G.told now.desk.keeper) (G.count now.desk.keeper) end
  run_of start first now f can is end ended =
      subst (λ (p : PipeStart). IsRun G.can_count p f (G.told now.desk.keeper)
      (G.count now.desk.keeper) end) is
      (ended_run first now f can end
      (subst (λ (p : PipeStart). Ended ghosts p.pipe.most first now f end) (sym is) ended))
