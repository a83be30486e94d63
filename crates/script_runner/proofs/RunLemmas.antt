-- A run from its beginning to its end.
use Rattle.std.proofs.Common.{◌≡◌, ℕ, ◌+◌, ◌<◌, ◌≤◌, Bool, true, false, List, [], ◌∷◌, ◌++◌, length, take, drop, Option, refl, sym, ap, ◌∙◌, arith, subst, inl, inr, append_assoc, append-nil}
use Rattle.std.specs.Prelude.{◌⊎◌, IsTrue, ⊤}
use Rattle.asp_base.specs.Outside.{Takes}
use Rattle.plain_words.specs.Words.{HasNo, SplitsAt}
use Rattle.shard_core.specs.ShardStands.{StandsFor}
use Rattle.page_script.specs.declared.line.Line.{Line}
use Rattle.page_script.specs.declared.script.Script.{Script}
use Rattle.page_script.specs.Lines.{most_script_line}
use Rattle.page_script.specs.World.{World, world_from, history, IsLawfulWorld, PagesForceOldLocks}
use Rattle.plain_desk.specs.Openings.{Opening}
use Rattle.page_script.specs.ScriptStands.{ScriptStands, opening_of, IsAppended, WorldTakesText, EachWorldTakesText, EachWorldMayTakeText, NoWorldTakesText, IfTold}
use Rattle.keeper.specs.declared.keeping.Keeper as keepers
use Rattle.script_runner.specs.declared.driver.Driver.{Driver}
use Rattle.script_runner.specs.declared.script_verdict.ScriptVerdict.{ScriptVerdict}
use Rattle.script_runner.specs.declared.script_verdict.ScriptVerdict.TheVariants as verdicts
use Rattle.script_runner.specs.Drive.{DriveStart, ScriptEnd, script_text, BeginsNoScript, ScriptWroteInPart, ScriptReached, ScriptEndsAs, IsDrive}
use Rattle.script_runner.specs.ScriptRunning.{HasRun, HasRunLast, KeepsFloor, ScriptWent, ScriptWaits, ScriptGave, ScriptLacks}
use Rattle.command_loop.specs.declared.consumer.Consumer.{Ghosts}
use Rattle.command_loop.specs.declared.ending.RunEnd.TheVariants as ends
use Rattle.command_loop.specs.Ending.{Ended, ConsumerIsOver, HasRoom}
use Rattle.command_loop.specs.Feeding.{GoesOn}
use Rattle.command_loop.specs.Flow.{flow}
use Rattle.page_script.proofs.RunLemmas.{leads-opening}
use Rattle.script_runner.proofs.LineLemmas.{script_text-push, line_of, AreScriptLines-push, Leads-push}

module _ {K : Type 0} (G : keepers.Ghosts K) where
  pub HasRun-start : (opening : Opening) (held : List ℕ) (script : Script K) → held ≡ []
      → ScriptStands G script (world_from opening) → HasRun G opening script [] held []
  HasRun-start opening held script none stands = record {
    lines = [];
    world = world_from opening;
    spelled =
        sym none;
    are_lines = tt;
    run = (refl, refl);
    stands = stands;
  }

  -- a piece more
  pub HasRun-fed : (opening : Opening) (script : Script K) (bytes held held' piece due : List ℕ)
      → HasRun G opening script bytes held due → held' ≡ held ++ piece
      → HasRun G opening script (bytes ++ piece) held' due
  HasRun-fed opening script bytes held held' piece due run is = record {
    lines = run.lines;
    world = run.world;
    spelled = ap (λ t. t ++ piece) run.spelled ∙ append_assoc (script_text run.lines) held piece
        ∙ ap (λ h. script_text run.lines ++ h) (sym is);
    are_lines = run.are_lines;
    run = run.run;
    stands = run.stands;
  }

  -- the last line is a line
  pub HasRun-last : (opening : Opening) (script : Script K) (bytes rest whole last : List ℕ)
      → HasRunLast G opening script bytes rest whole last
      → HasRun G opening script bytes rest (whole ++ last)
  HasRun-last opening script bytes rest whole last ran = record {
    lines = ran.earlier ++ ran.last ∷ [];
    world = ran.world;
    spelled = ran.spelled;
    are_lines = ran.are_lines;
    run = Leads-push (world_from opening) ran.earlier ran.middle whole ran.last ran.world last ran.run
        ran.step;
    stands = ran.stands;
  }

  -- ---- one line more

  -- the first line of the bytes held, as the calls name them
  pub split_of : (old held shown held' : List ℕ) (len : ℕ) → held ≡ old → shown ≡ held
      → held' ≡ drop (len + 1) held → SplitsAt 10 old (take len old) (drop (len + 1) old)
      → SplitsAt 10 held (take len shown) held'
  split_of old held shown held' len same shows is split =
      subst (SplitsAt 10 held (take len shown)) (sym is)
      (subst (λ s. SplitsAt 10 held (take len s) (drop (len + 1) held)) (sym shows)
      (subst (λ (h : List ℕ). SplitsAt 10 h (take len h) (drop (len + 1) h)) (sym same) split))

  module _ (opening : Opening) (script script' : Script K) (bytes held text held' due : List ℕ)
      (run : HasRun G opening script bytes held due) (split : SplitsAt 10 held text held') where
    took_last : (Prints : List ℕ → Type 0)
        → (took : WorldTakesText G script' run.world text Prints)
        → HasRunLast G opening script' bytes held' due took.takes.printed
    took_last Prints took = record {
      earlier = run.lines;
      last = took.line;
      middle = run.world;
      world = took.takes.world';
      spelled =
          run.spelled
          ∙ ap (λ h. script_text run.lines ++ h) (split.joined
          ∙ ap (λ t. t ++ 10 ∷ held') (sym took.is_line.spelled))
          ∙ sym (script_text-push run.lines took.line held');
      are_lines =
          AreScriptLines-push run.lines took.line run.are_lines
          (line_of text took.line took.is_line);
      run = run.run;
      step = took.takes.step;
      stands = took.takes.stands;
    }

    -- a line was run, and its print was appended to nothing
    pub line_done : (out out' : List ℕ) → out ≡ []
        → EachWorldTakesText G script script' text (IsAppended out out')
        → HasRunLast G opening script' bytes held' due (out' ++ [])
    line_done out out' empty takes =
        let took = takes run.world run.stands in
        subst (HasRunLast G opening script' bytes held' due)
        (sym (append-nil out' ∙ took.takes.prints ∙ ap (λ o. o ++ took.takes.printed) empty))
        (took_last (IsAppended out out') took)

    -- it is none that may follow
    pub line_wrong : script' ≡ script → NoWorldTakesText G script text
        → (ran : HasRun G opening script' bytes held due) × BeginsNoScript ran.world held
    line_wrong same none =
        subst (λ s. (ran : HasRun G opening s bytes held due) × BeginsNoScript ran.world held) (sym same) (
          run,
          record {
            text = text;
            behind = held';
            split = split;
            none = λ line is. none line is run.world run.stands;
          },
        )

    -- memory was wanting
    pub line_lacks : EachWorldMayTakeText G script script' text → (rest : List ℕ)
        × (HasRun G opening script' bytes rest due
        ⊎ ((printed : List ℕ) × HasRunLast G opening script' bytes rest due printed))
    line_lacks either = of (either run.world run.stands)
      where
        of : ScriptStands G script' run.world
            ⊎ WorldTakesText G script' run.world text (λ printed. ⊤)
            → (rest : List ℕ)
            × (HasRun G opening script' bytes rest due
            ⊎ ((printed : List ℕ) × HasRunLast G opening script' bytes rest due printed))
        of (inl stays) = (
          held,
          inl (record {
            lines = run.lines;
            world = run.world;
            spelled =
                run.spelled;
            are_lines = run.are_lines;
            run = run.run;
            stands = stays;
          }),
        )
        of (inr took) = (held', inr (took.takes.printed, took_last (λ printed. ⊤) took))

  -- ---- a run of the consumer

  abbrev pub ghosts : Ghosts (Driver K) ScriptVerdict
  ghosts = record {
    went = ScriptWent G;
    waits = ScriptWaits;
    gave = ScriptGave G;
    lacks = ScriptLacks G;
    work = λ now. length now.held;
    parts = λ now. (now.print.items, []);
  }

  none_long : (last : List ℕ) → last ≡ [] → 0 < length last → ⊥
  none_long last none some = let long = ap length none in omega (arith, long, some)

  room_more : (more : Bool) (count most : ℕ) → IsTrue more → HasRoom more count most → count < most
  room_more true count most is room = room
  room_more false count most is room = cc

  whole_only : (sink sink' : Option (List ℕ)) (whole last : List ℕ) → last ≡ []
      → Takes sink sink' (whole ++ last) → Takes sink sink' whole
  whole_only sink sink' whole last none wrote =
      subst (Takes sink sink') (ap (λ l. whole ++ l) none ∙ append-nil whole) wrote

  abbrev pub start_of : ℕ → Driver K → DriveStart
  start_of most first = record { most = most; opening = opening_of G first.script }

  module _ (most : ℕ) (first now : Driver K) (source source' : Option (List ℕ
      × List ℕ)) (sink sink' : Option (List ℕ)) where
    -- the floor is kept at each ending
    over_keeps : (verdict : ScriptVerdict) (bytes whole last : List ℕ)
        → ConsumerIsOver ghosts most first now source' bytes verdict whole last → (last ≡ [])
        × KeepsFloor G first now
    over_keeps verdicts.Whole bytes whole last (inl (closes, end, some)) = (closes.0, closes.1)
    over_keeps verdicts.Broken bytes whole last (inl (closes, end, some)) = (closes.0, closes.1)
    over_keeps verdicts.Whole bytes whole last (inr (more, breaks, room)) = absurd breaks.2
    over_keeps verdicts.Broken bytes whole last (inr (more, breaks, room)) = (breaks.0, breaks.1)

    part_keeps : (bytes whole last : List ℕ)
        → ((verdict : ScriptVerdict)
        × ConsumerIsOver ghosts most first now source' bytes verdict whole last)
        ⊎ ScriptGave G GoesOn first now bytes whole last → KeepsFloor G first now
    part_keeps bytes whole last (inl (verdict, over)) = (over_keeps verdict bytes whole last over).1
    part_keeps bytes whole last (inr gave) = gave.1

    pub floor_of : (end : ScriptEnd)
        → Ended ghosts most first now (flow source source' sink sink') end
        → KeepsFloor G first now
    floor_of (ends.Over verdict) run =
        (over_keeps verdict run.taken run.ends.0 run.ends.1 run.ends.2).1
    floor_of ends.ReadFault run = run.ends.1.1
    floor_of ends.WriteFault run = part_keeps run.taken run.ends.0 run.ends.1 run.ends.3
    floor_of ends.NoMemory run = run.ends.1.0
    floor_of ends.Long run = run.ends.1.1

    module _ (keeper : K)
        (history_stands : (world : World) → ScriptStands G now.script world
        → StandsFor world.opening.items world.opening.count (history world.turns) (G.told keeper)
        (G.count keeper))
        (lawful : (world : World) → ScriptStands G now.script world
        → IsLawfulWorld world)
        (forced : (world : World) → ScriptStands G now.script world
        → IfTold (G.told keeper) (PagesForceOldLocks world))
      where
        -- where a run stood that ended here
        abbrev reached : List Line → World → List ℕ → List ℕ → ℕ → ScriptReached
        reached script world output rest count = record {
          start = start_of most first;
          flow = flow source source' sink sink';
          script = script;
          world = world;
          output = output;
          rest = rest;
          count = count;
        }

        by_run : (end : ScriptEnd)
            (ended : Ended ghosts most first now (flow source source' sink sink')
            end) (rest output : List ℕ) (ran : HasRun G (opening_of G first.script) now.script ended.taken rest output)
            → ScriptEndsAs end (reached ran.lines ran.world output rest (length ended.taken))
            → IsDrive G.can_count (start_of most first) (flow source source' sink sink') (G.told keeper)
            (G.count keeper) end
        by_run end ended rest output ran how = record {
          bytes = ended.taken;
          script = ran.lines;
          rest = rest;
          world = ran.world;
          output = output;
          given = ended.given;
          within = ended.within;
          spelled = ran.spelled;
          lines = ran.are_lines;
          run = ran.run;
          counts = ran.stands.desk.stands.counts;
          stands = subst (λ (o : Opening). StandsFor o.items o.count (history ran.world.turns)
              (G.told keeper) (G.count keeper))
              (leads-opening (world_from (opening_of G first.script)) ran.world ran.lines output
              ran.run) (history_stands ran.world ran.stands);
          lawful = lawful ran.world ran.stands;
          forced = forced ran.world ran.stands;
          ends = how;
        }

        wrote_in_part : (bytes rest whole last : List ℕ)
            (ran : HasRunLast G (opening_of G first.script) now.script bytes rest whole last) (n : ℕ) → n ≤ length last
            → Takes sink sink' (whole ++ take n last)
            → ScriptWroteInPart (reached (ran.earlier ++ ran.last ∷ []) ran.world (whole ++ last)
            rest (length bytes)) n
        wrote_in_part bytes rest whole last ran n within wrote = record {
          earlier = ran.earlier;
          last = ran.last;
          middle = ran.middle;
          before = whole;
          printed = last;
          lines = refl;
          run = ran.run;
          step = ran.step;
          whole = refl;
          within = within;
          written = wrote;
        }

        over_drive : (verdict : ScriptVerdict)
            (ended : Ended ghosts most first now (flow source source' sink sink')
            (ends.Over verdict)) (whole last : List ℕ)
            → ConsumerIsOver ghosts most first now source' ended.taken verdict whole last
            → Takes sink sink' (whole ++ last)
            → IsDrive G.can_count (start_of most first) (flow source source' sink sink') (G.told keeper)
            (G.count keeper) (ends.Over verdict)
        over_drive verdicts.Whole ended whole last (inl (closes, end, some)) wrote =
            by_run (ends.Over verdicts.Whole) ended now.held whole closes.2
            (end, closes.3, some, whole_only sink sink' whole last closes.0 wrote)
        over_drive verdicts.Broken ended whole last (inl (closes, end, some)) wrote =
            by_run (ends.Over verdicts.Broken) ended now.held whole closes.2 (
              inr ((closes.3, inr (closes.4, end)), some),
              whole_only sink sink' whole last
                  closes.0 wrote,
            )
        over_drive verdicts.Whole ended whole last (inr (more, breaks, room)) wrote =
            absurd breaks.2
        over_drive verdicts.Broken ended whole last (inr (more, breaks, room)) wrote = of breaks.2.1
          where
            of : BeginsNoScript breaks.2.0.world now.held
                ⊎ (HasNo 10 now.held × (most_script_line < length now.held) × IsTrue more)
                → IsDrive G.can_count (start_of most first) (flow source source' sink sink') (G.told keeper)
                (G.count keeper) (ends.Over verdicts.Broken)
            of (inl wrong) =
                by_run (ends.Over verdicts.Broken) ended now.held whole breaks.2.0
                (inl wrong, whole_only sink sink' whole last breaks.0 wrote)
            of (inr (unseen, long, is)) =
                by_run (ends.Over verdicts.Broken) ended now.held whole breaks.2.0 (
                  inr ((unseen, inl long), room_more more (length ended.taken) most is room),
                  whole_only sink sink' whole last breaks.0 wrote,
                )

        part_drive : (ended : Ended ghosts most first now (flow source source' sink sink')
            ends.WriteFault) (whole last : List ℕ) (n : ℕ)
            → ((verdict : ScriptVerdict)
            × ConsumerIsOver ghosts most first now source' ended.taken verdict whole last)
            ⊎ ScriptGave G GoesOn first now ended.taken whole last
            → 0 < length last → n ≤ length last → Takes sink sink' (whole ++ take n last)
            → IsDrive G.can_count (start_of most first) (flow source source' sink sink') (G.told keeper)
            (G.count keeper) ends.WriteFault
        unfolding HasRun-last
        part_drive ended whole last n (inl (verdict, over)) some within wrote =
            absurd (none_long last (over_keeps verdict ended.taken whole last over).0 some)
        part_drive ended whole last n (inr gave) some within wrote =
            by_run ends.WriteFault ended now.held (whole ++ last)
            (HasRun-last (opening_of G first.script) now.script ended.taken now.held whole last gave.0)
            (n, wrote_in_part ended.taken now.held whole last gave.0 n within wrote)

        lacks_drive : (ended : Ended ghosts most first now (flow source source' sink sink')
            ends.NoMemory) (due rest : List ℕ)
            → HasRun G (opening_of G first.script) now.script ended.taken rest due
            ⊎ ((printed : List ℕ) × HasRunLast G (opening_of G first.script) now.script ended.taken rest due printed)
            → Takes sink sink' due
            → IsDrive G.can_count (start_of most first) (flow source source' sink sink') (G.told keeper)
            (G.count keeper) ends.NoMemory
        unfolding HasRun-last
        lacks_drive ended due rest (inl ran) wrote =
            by_run ends.NoMemory ended rest due ran (inl wrote)
        lacks_drive ended due rest (inr (printed, ran)) wrote =
            by_run ends.NoMemory ended rest (due ++ printed)
            (HasRun-last (opening_of G first.script) now.script ended.taken rest due printed ran)
            (inr (wrote_in_part ended.taken rest due printed ran 0 (omega arith)
            (subst (Takes sink sink') (sym (append-nil due)) wrote)))

        pub drive_of : (end : ScriptEnd)
            → Ended ghosts most first now (flow source source' sink sink') end
            → IsDrive G.can_count (start_of most first) (flow source source' sink sink') (G.told keeper)
            (G.count keeper) end
        drive_of (ends.Over verdict) ended =
            over_drive verdict ended ended.ends.0 ended.ends.1 ended.ends.2 ended.ends.3
        drive_of ends.ReadFault ended =
            let (due, went, waits, some, wrote) = ended.ends in
            by_run ends.ReadFault ended now.held due went.0 (waits.0, waits.1 refl, some, wrote)
        drive_of ends.WriteFault ended =
            part_drive ended ended.ends.0 ended.ends.1 ended.ends.2 ended.ends.3 ended.ends.4
            ended.ends.5 ended.ends.6
        drive_of ends.NoMemory ended =
            lacks_drive ended ended.ends.0 ended.ends.1.1.0 ended.ends.1.1.1 ended.ends.2
        drive_of ends.Long ended =
            let (due, went, waits, all, wrote) = ended.ends in
            by_run ends.Long ended now.held due went.0 (waits.0, all, wrote)
