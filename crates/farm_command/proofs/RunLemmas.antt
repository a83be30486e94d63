-- A run over a farm from its beginning to its end.
use Rattle.std.proofs.Common.{◌≡◌, ℕ, ◌+◌, ◌<◌, ◌≤◌, Bool, true, false, List, [], ◌∷◌, ◌++◌, length, take, Option, refl, sym, ap, ◌∙◌, arith, subst, inl, inr, append_assoc, append-nil}
use Rattle.std.specs.Prelude.{◌⊎◌, IsTrue, decimal, ⊤}
use Rattle.asp_base.specs.Outside.{Takes}
use Rattle.command_loop.specs.declared.consumer.Consumer.{Ghosts}
use Rattle.command_loop.specs.declared.ending.RunEnd.TheVariants as ends
use Rattle.command_loop.specs.Ending.{Ended, ConsumerIsOver, HasRoom}
use Rattle.command_loop.specs.Feeding.{GoesOn}
use Rattle.command_loop.specs.Flow.{flow}
use Rattle.keeper.specs.declared.keeping.Keeper as keepers
use Rattle.page_script.specs.declared.line.Line.{Line}
use Rattle.page_script.specs.declared.script.Script.{Script}
use Rattle.page_script.specs.Lines.{most_script_line}
use Rattle.page_script.specs.ScriptStands.{IsAppended}
use Rattle.partition.specs.declared.farm_script.FarmScript.{FarmScript}
use Rattle.partition.specs.Farm.{FarmLine, FarmRun, IsFarmRun, empty_run, farm_text}
use Rattle.partition.specs.FarmStands.{EachRunMayTakeText, EachRunTakesText, FarmStands, FarmTakesText, IsSameFarm, NoRunTakesText, ScriptsStand, servers_of}
use Rattle.partition.specs.Shares.{MayFollow}
use Rattle.partition.proofs.TakeLemmas.{farm-stays}
use Rattle.plain_words.specs.Words.{HasNo, SplitsAt}
use Rattle.script_runner.specs.declared.script_verdict.ScriptVerdict.{ScriptVerdict}
use Rattle.script_runner.specs.declared.script_verdict.ScriptVerdict.TheVariants as verdicts
use Rattle.script_runner.specs.Drive.{AreScriptLines, ScriptEnd, script_text}
use Rattle.script_runner.proofs.LineLemmas.{AreScriptLines-push, line_of, script_text-push}
use Rattle.farm_command.specs.declared.driver.FarmDriver.{FarmDriver}
use Rattle.farm_command.specs.FarmDrive.{BeginsNoFarmLine, FarmEndsAs, FarmReached, FarmWroteInPart, IsFarm}
use Rattle.farm_command.specs.FarmRunning.{FarmGave, FarmLacks, FarmWaits, FarmWent, HasFarmRun, HasFarmRunLast, KeepsServers}

farm_text-append : (some more : List FarmLine)
    → farm_text (some ++ more) ≡ farm_text some ++ farm_text more
farm_text-append [] more = refl
farm_text-append (line ∷ some) more =
    ap (λ t. decimal line.server ++ 32 ∷ (line.text ++ t)) (farm_text-append some more)
    ∙ ap (λ t. decimal line.server ++ 32 ∷ t)
    (sym (append_assoc line.text (farm_text some) (farm_text more)))
    ∙ sym (append_assoc (decimal line.server) (32 ∷ (line.text ++ farm_text some)) (farm_text more))

module _ {K : Type 0} (G : keepers.Ghosts K) where
  pub HasFarmRun-start : (held : List ℕ) (farm : FarmScript K) → held ≡ []
      → FarmStands G farm empty_run → HasFarmRun G farm [] held []
  HasFarmRun-start held farm none stands = record {
    run = empty_run;
    spelled = sym none;
    are_lines = tt;
    stands = stands;
    printed = refl;
  }

  -- a piece more
  pub HasFarmRun-fed : (farm : FarmScript K) (bytes held held' piece due : List ℕ)
      → HasFarmRun G farm bytes held due → held' ≡ held ++ piece
      → HasFarmRun G farm (bytes ++ piece) held' due
  HasFarmRun-fed farm bytes held held' piece due ran is = record {
    run = ran.run;
    spelled =
        ap (λ t. t ++ piece) ran.spelled ∙ append_assoc (script_text ran.run.script) held piece
        ∙ ap (λ h. script_text ran.run.script ++ h) (sym is);
    are_lines = ran.are_lines;
    stands = ran.stands;
    printed = ran.printed;
  }

  -- the last line is a line
  pub HasFarmRun-last : (farm : FarmScript K) (bytes rest whole last : List ℕ)
      → HasFarmRunLast G farm bytes rest whole last → HasFarmRun G farm bytes rest (whole ++ last)
  HasFarmRun-last farm bytes rest whole last ran = record {
    run = ran.run;
    spelled = ran.spelled;
    are_lines = ran.are_lines;
    stands = ran.stands;
    printed =
        ap farm_text ran.step.behind ∙ farm_text-append ran.earlier.printed ran.lines
        ∙ ap (λ t. t ++ farm_text ran.lines) ran.before ∙ ap (λ t. whole ++ t) ran.behind;
  }

  -- ---- one line more

  module _ (farm farm' : FarmScript K) (bytes held text held' due : List ℕ)
      (ran : HasFarmRun G farm bytes held due) (split : SplitsAt 10 held text held') where
    took_last : (same : servers_of farm' ≡ servers_of farm) (Prints : List ℕ → Type 0)
        → (took : FarmTakesText G farm' ran.run text Prints)
        → HasFarmRunLast G farm' bytes held' due (farm_text took.takes.printed)
    took_last same Prints took = record {
      earlier = ran.run;
      last = took.line;
      lines = took.takes.printed;
      run = took.takes.run';
      spelled =
          ran.spelled
          ∙ ap (λ h. script_text ran.run.script ++ h) (split.joined
          ∙ ap (λ t. t ++ 10 ∷ held') (sym took.is_line.spelled))
          ∙ sym (script_text-push ran.run.script took.line held')
          ∙ ap (λ (s : List Line). script_text s ++ held') (sym took.takes.step.script);
      are_lines =
          subst AreScriptLines (sym took.takes.step.script)
          (AreScriptLines-push ran.run.script took.line ran.are_lines
          (line_of text took.line took.is_line));
      was_run = subst (λ (n : ℕ). IsFarmRun n ran.run) (sym same) ran.stands.is_run;
      step = took.takes.step;
      stands = took.takes.stands;
      before = ran.printed;
      behind = refl;
    }

    -- a line was run, and its print was appended to nothing
    pub farm_done : servers_of farm' ≡ servers_of farm → (out out' : List ℕ) → out ≡ []
        → EachRunTakesText G farm farm' text (IsAppended out out')
        → HasFarmRunLast G farm' bytes held' due (out' ++ [])
    farm_done same out out' empty takes =
        let took = takes ran.run ran.stands in
        subst (HasFarmRunLast G farm' bytes held' due)
        (sym (append-nil out' ∙ took.takes.prints
        ∙ ap (λ o. o ++ farm_text took.takes.printed) empty))
        (took_last same (IsAppended out out') took)

    -- it is none that may follow
    pub farm_wrong : IsSameFarm farm farm' → NoRunTakesText G farm text
        → (now : HasFarmRun G farm' bytes held due)
        × BeginsNoFarmLine (servers_of farm') now.run.script held
    farm_wrong same none = (
      record {
        run = ran.run;
        spelled = ran.spelled;
        are_lines = ran.are_lines;
        stands = farm-stays G farm farm' (ap length same.scripts) ran.run ran.stands
            (subst (λ (ss : List (Script K)). ScriptsStand G ss ran.run.worlds) (sym same.scripts)
            ran.stands.scripts) same.pages;
        printed = ran.printed;
      },
      record {
        text = text;
        behind = held';
        split = split;
        none = λ line is may. none line is ran.run ran.stands
            (subst (λ (n : ℕ). MayFollow n ran.run.script line) (ap length same.scripts) may);
      },
    )

    -- memory was wanting
    pub farm_lacks : servers_of farm' ≡ servers_of farm → EachRunMayTakeText G farm farm' text
        → (rest : List ℕ) × (HasFarmRun G farm' bytes rest due
        ⊎ ((printed : List ℕ) × HasFarmRunLast G farm' bytes rest due printed))
    farm_lacks same either = of (either ran.run ran.stands)
      where
        of : FarmStands G farm' ran.run ⊎ FarmTakesText G farm' ran.run text (λ printed. ⊤)
            → (rest : List ℕ) × (HasFarmRun G farm' bytes rest due
            ⊎ ((printed : List ℕ) × HasFarmRunLast G farm' bytes rest due printed))
        of (inl stays) = (
          held,
          inl (record {
            run = ran.run;
            spelled = ran.spelled;
            are_lines = ran.are_lines;
            stands = stays;
            printed = ran.printed;
          }),
        )
        of (inr took) =
            (held', inr (farm_text took.takes.printed, took_last same (λ printed. ⊤) took))

  -- ---- a run of the consumer

  abbrev pub ghosts : Ghosts (FarmDriver K) ScriptVerdict
  ghosts = record {
    went = FarmWent G;
    waits = FarmWaits;
    gave = FarmGave G;
    lacks = FarmLacks G;
    work = λ now. length now.held;
    parts = λ now. (now.print.items, []);
  }

  none_long : (last : List ℕ) → last ≡ [] → 0 < length last → ⊥
  none_long last none some = let long = ap length none in omega (arith, long, some)

  room_more : (more : Bool) (count most : ℕ) → IsTrue more → HasRoom more count most → count < most
  room_more true count most is room = room
  room_more false count most is room = cc

  whole_only : (sink sink' : Option (List ℕ)) (whole last : List ℕ) → last ≡ []
      → Takes sink sink' (whole ++ last) → Takes sink sink' whole
  whole_only sink sink' whole last none wrote =
      subst (Takes sink sink') (ap (λ l. whole ++ l) none ∙ append-nil whole) wrote

  module _ (most : ℕ) (first now : FarmDriver K) (source source' : Option (List ℕ × List ℕ))
      (sink sink' : Option (List ℕ)) where
    over_keeps : (verdict : ScriptVerdict) (bytes whole last : List ℕ)
        → ConsumerIsOver ghosts most first now source' bytes verdict whole last → (last ≡ [])
        × KeepsServers G first now
    over_keeps verdict bytes whole last (inl (closes, end, some)) = (closes.0, closes.1)
    over_keeps verdict bytes whole last (inr (more, breaks, room)) = (breaks.0, breaks.1)

    part_keeps : (bytes whole last : List ℕ)
        → ((verdict : ScriptVerdict)
        × ConsumerIsOver ghosts most first now source' bytes verdict whole last)
        ⊎ FarmGave G GoesOn first now bytes whole last → KeepsServers G first now
    part_keeps bytes whole last (inl (verdict, over)) = (over_keeps verdict bytes whole last over).1
    part_keeps bytes whole last (inr gave) = gave.1

    -- there are as many servers at each ending
    pub servers_kept : (end : ScriptEnd)
        → Ended ghosts most first now (flow source source' sink sink') end
        → KeepsServers G first now
    servers_kept (ends.Over verdict) ran =
        (over_keeps verdict ran.taken ran.ends.0 ran.ends.1 ran.ends.2).1
    servers_kept ends.ReadFault ran = ran.ends.1.1
    servers_kept ends.WriteFault ran = part_keeps ran.taken ran.ends.0 ran.ends.1 ran.ends.3
    servers_kept ends.NoMemory ran = ran.ends.1.0
    servers_kept ends.Long ran = ran.ends.1.1

    -- where a run stood that ended here
    abbrev reached : FarmRun → List ℕ → ℕ → FarmReached
    reached run rest count = record {
      servers = servers_of now.scripts;
      most = most;
      flow = flow source source' sink sink';
      run = run;
      rest = rest;
      count = count;
    }

    wrote : (text output : List ℕ) → text ≡ output → Takes sink sink' output → Takes sink sink' text
    wrote text output is took = subst (Takes sink sink') (sym is) took

    by_run : (end : ScriptEnd)
        (ended : Ended ghosts most first now (flow source source' sink sink') end)
        (rest output : List ℕ) (ran : HasFarmRun G now.scripts ended.taken rest output)
        → FarmEndsAs end (reached ran.run rest (length ended.taken))
        → IsFarm G now.scripts most (flow source source' sink sink') end
    by_run end ended rest output ran how = record {
      bytes = ended.taken;
      run = ran.run;
      rest = rest;
      given = ended.given;
      within = ended.within;
      spelled = ran.spelled;
      lines = ran.are_lines;
      is_run = ran.stands.is_run;
      stands = ran.stands;
      ends = how;
    }

    wrote_in_part : (bytes rest whole last : List ℕ)
        (ran : HasFarmRunLast G now.scripts bytes rest whole last) (n : ℕ) → n ≤ length last
        → Takes sink sink' (whole ++ take n last)
        → FarmWroteInPart (reached ran.run rest (length bytes)) n
    wrote_in_part bytes rest whole last ran n within took = record {
      earlier = ran.earlier;
      last = ran.last;
      printed = ran.lines;
      is_run = ran.was_run;
      step = ran.step;
      within = subst (λ (t : List ℕ). n ≤ length t) (sym ran.behind) within;
      written =
          subst (λ (t : List ℕ). Takes sink sink' (t ++ take n (farm_text ran.lines)))
          (sym ran.before)
          (subst (λ (t : List ℕ). Takes sink sink' (whole ++ take n t)) (sym ran.behind) took);
    }

    over_farm : (verdict : ScriptVerdict)
        (ended : Ended ghosts most first now (flow source source' sink sink') (ends.Over verdict))
        (whole last : List ℕ)
        → ConsumerIsOver ghosts most first now source' ended.taken verdict whole last
        → Takes sink sink' (whole ++ last)
        → IsFarm G now.scripts most (flow source source' sink sink') (ends.Over verdict)
    over_farm verdicts.Whole ended whole last (inl (closes, end, some)) took =
        by_run (ends.Over verdicts.Whole) ended now.held whole closes.2.0 (
          end,
          closes.2.1,
          some,
          wrote _ whole closes.2.0.printed
              (whole_only sink sink' whole last closes.0 took),
        )
    over_farm verdicts.Broken ended whole last (inl (closes, end, some)) took =
        by_run (ends.Over verdicts.Broken) ended now.held whole closes.2.0 (
          inr ((closes.2.1, inr (closes.2.2, end)), some),
          wrote _ whole closes.2.0.printed (whole_only sink sink' whole last closes.0 took),
        )
    over_farm verdicts.Whole ended whole last (inr (more, breaks, room)) took = absurd breaks.2
    over_farm verdicts.Broken ended whole last (inr (more, breaks, room)) took = of breaks.2.1
      where
        of : BeginsNoFarmLine (servers_of now.scripts) breaks.2.0.run.script now.held
            ⊎ (HasNo 10 now.held × (most_script_line < length now.held) × IsTrue more)
            → IsFarm G now.scripts most (flow source source' sink sink')
            (ends.Over verdicts.Broken)
        of (inl wrong) =
            by_run (ends.Over verdicts.Broken) ended now.held whole breaks.2.0 (
              inl wrong,
              wrote _ whole breaks.2.0.printed
                  (whole_only sink sink' whole last breaks.0 took),
            )
        of (inr (unseen, long, is)) =
            by_run (ends.Over verdicts.Broken) ended now.held whole breaks.2.0 (
              inr ((unseen, inl long), room_more more (length ended.taken) most is room),
              wrote _ whole breaks.2.0.printed (whole_only sink sink' whole last breaks.0 took),
            )

    part_farm : (ended : Ended ghosts most first now (flow source source' sink sink')
        ends.WriteFault) (whole last : List ℕ) (n : ℕ)
        → ((verdict : ScriptVerdict)
        × ConsumerIsOver ghosts most first now source' ended.taken verdict whole last)
        ⊎ FarmGave G GoesOn first now ended.taken whole last
        → 0 < length last → n ≤ length last → Takes sink sink' (whole ++ take n last)
        → IsFarm G now.scripts most (flow source source' sink sink') ends.WriteFault
    unfolding HasFarmRun-last
    part_farm ended whole last n (inl (verdict, over)) some within took =
        absurd (none_long last (over_keeps verdict ended.taken whole last over).0 some)
    part_farm ended whole last n (inr gave) some within took =
        by_run ends.WriteFault ended now.held (whole ++ last)
        (HasFarmRun-last now.scripts ended.taken now.held whole last gave.0)
        (n, wrote_in_part ended.taken now.held whole last gave.0 n within took)

    lacks_farm : (ended : Ended ghosts most first now (flow source source' sink sink')
        ends.NoMemory) (due rest : List ℕ)
        → HasFarmRun G now.scripts ended.taken rest due
        ⊎ ((printed : List ℕ) × HasFarmRunLast G now.scripts ended.taken rest due printed)
        → Takes sink sink' due
        → IsFarm G now.scripts most (flow source source' sink sink') ends.NoMemory
    unfolding HasFarmRun-last
    lacks_farm ended due rest (inl ran) took =
        by_run ends.NoMemory ended rest due ran (inl (wrote _ due ran.printed took))
    lacks_farm ended due rest (inr (printed, ran)) took =
        by_run ends.NoMemory ended rest (due ++ printed)
        (HasFarmRun-last now.scripts ended.taken rest due printed ran)
        (inr (wrote_in_part ended.taken rest due printed ran 0 (omega arith)
        (subst (Takes sink sink') (sym (append-nil due)) took)))

    pub farm_of : (end : ScriptEnd)
        → Ended ghosts most first now (flow source source' sink sink') end
        → IsFarm G now.scripts most (flow source source' sink sink') end
    farm_of (ends.Over verdict) ended =
        over_farm verdict ended ended.ends.0 ended.ends.1 ended.ends.2 ended.ends.3
    farm_of ends.ReadFault ended =
        let (due, went, waits, some, took) = ended.ends in
        by_run ends.ReadFault ended now.held due went.0
        (waits.0, waits.1 refl, some, wrote _ due went.0.printed took)
    farm_of ends.WriteFault ended =
        part_farm ended ended.ends.0 ended.ends.1 ended.ends.2 ended.ends.3 ended.ends.4
        ended.ends.5 ended.ends.6
    farm_of ends.NoMemory ended =
        lacks_farm ended ended.ends.0 ended.ends.1.1.0 ended.ends.1.1.1 ended.ends.2
    farm_of ends.Long ended =
        let (due, went, waits, all, took) = ended.ends in
        by_run ends.Long ended now.held due went.0 (waits.0, all, wrote _ due went.0.printed took)
