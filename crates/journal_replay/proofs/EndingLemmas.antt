-- A replay from its beginning to its end.
use Rattle.std.proofs.Common.{◌≡◌, ℕ, ◌<◌, ◌≤◌, List, [], ◌++◌, length, take, Option, Some, None, Bool, refl, sym, ap, ◌∙◌, arith, append-nil, subst, inl, inr}
use Rattle.std.specs.Prelude.{◌⊎◌}
use Rattle.asp_base.specs.Outside.{Takes, TakesFront}
use Rattle.lock_laws.proofs.LawLemmas.{LocksHoldIn-of_legal}
use Rattle.session_machine.specs.declared.entry.Entry.{Entry}
use Rattle.session_machine.specs.declared.item.Profile.{Profile}
use Rattle.session_machine.specs.History.{nothing}
use Rattle.journal_text.specs.declared.judging.judgement.Judgement.{Judgement}
use Rattle.journal_text.specs.declared.judging.judgement.Judgement.TheVariants.{Legal, Illegal}
use Rattle.journal_text.specs.JudgingChecker.{Checked, HasTaken}
use Rattle.journal_text.specs.WritingText.{IsJournal}
use Rattle.journal_text.specs.JudgingEntries.{Judges}
use Rattle.journal_text.specs.ReadingText.{JournalReading, Taken, IsJournalOf, StopsAt, HasRead}
use Rattle.journal_text.proofs.JournalLemmas.{journal_one, journal_stops}
use Rattle.journal_replay.proofs.LineLemmas.{lines_of}
use Rattle.journal_replay.specs.declared.report.ReplayReport.{ReplayReport}
use Rattle.journal_replay.specs.declared.replay_verdict.ReplayVerdict.{ReplayVerdict}
use Rattle.journal_replay.specs.declared.replay_verdict.ReplayVerdict.TheVariants as verdicts
use Rattle.journal_replay.specs.declared.replayer.Replayer.{Replayer}
use Rattle.journal_replay.specs.ReplayProgress.{ReplayBreaks, Checks, Finds, ReplayGave, HasReplayed, ReplayLacks, ReplayWaits, ReplayWent, ReportsJudged, ReportsTaken, verdict_of}
use Rattle.journal_replay.specs.Replay.{ReplayEnd, ReplayEndsAs, GivesLocks, IsOwedText, IsJudged, IsReplay, IsStatusOf, TellsJournal, TellsNoJournal, status_of_replay, replay_verdict_status}
use Rattle.command_loop.specs.declared.consumer.Consumer.{Ghosts}
use Rattle.command_loop.specs.declared.ending.RunEnd.TheVariants as ends
use Rattle.command_loop.specs.Ending.{Ended, ConsumerIsOver, IfFewer, RunIsComplete}
use Rattle.command_loop.specs.Feeding.{OverAtEnd}
use Rattle.command_loop.specs.Flow.{Flow, flow}

-- ---- what is found at the end of the input

locks_of : (profile : Profile) (judgement : Judgement) (place : ℕ) (list : List Entry)
    → Judges profile place list judgement → GivesLocks profile judgement list
locks_of profile (Legal entries) place list judges =
    LocksHoldIn-of_legal profile nothing 0 list judges.0
locks_of profile (Illegal at why) place list judges = tt

-- the judgement that a checker gives of what it took
judged_of : (bytes : List ℕ) (checker : Checked) (taken : Taken)
    → IsJournalOf bytes taken → Checks taken checker
    → (judged : IsJudged bytes checker.verdict) × (judged.profile ≡ checker.known.profile)
    × HasTaken checker judged.list
judged_of bytes checker None journal checks = absurd journal
judged_of bytes checker (Some t) journal checks =
    let judged : Judges t.0 t.1 t.2 checker.verdict =
    subst (λ v. Judges v t.1 t.2 checker.verdict) checks.0
    (subst (λ p. Judges checker.known.profile p t.2 checker.verdict) checks.1 checks.2.judges) in (
      record {
        profile = t.0;
        place = t.1;
        list = t.2;
        journal = journal;
        judges = judged;
        locks = locks_of t.0 checker.verdict t.1 t.2 judged;
      },
      sym checks.0,
      checks.2,
    )

-- what a checker's judgement finds, with its report
pub finds_reported : (report : ReplayReport) (verdict : ReplayVerdict) (bytes text : List ℕ)
    (reader : JournalReading) (checker : Checked)
    → ((text : List ℕ) (taken : Taken) → HasRead text taken reader → IsJournalOf text taken)
    → ReportsTaken report checker text → verdict ≡ verdict_of checker.verdict
    → HasReplayed bytes reader checker → Finds report verdict bytes text
finds_reported report verdict bytes text reader checker journal reports is has =
    subst (λ v. Finds report v bytes text) (sym is)
    (let found = judged_of bytes checker has.taken (journal bytes has.taken has.read) has.checks in
    finds checker.verdict found.0
    (subst (λ p. ReportsJudged report p found.0.list checker.verdict text) (sym found.1)
    (reports found.0.list found.2)))
  where
    finds : (judgement : Judgement) (judged : IsJudged bytes judgement)
        → ReportsJudged report judged.profile judged.list judgement text
        → Finds report (verdict_of judgement) bytes text
    finds (Legal entries) judged told = (entries, judged, told)
    finds (Illegal place why) judged told = (place, why, judged, told)

-- ---- a run of the consumer is a replay

abbrev pub ghosts : Ghosts Replayer ReplayVerdict
ghosts = record {
  went = ReplayWent;
  waits = λ more now. ReplayWaits now.reader;
  gave = ReplayGave;
  lacks = ReplayLacks;
  work = λ now. length now.reader.held;
  parts = λ now. (now.text.items, []);
}

nothing_taken : (sink sink' : Option (List ℕ)) → Takes sink sink' [] → sink' ≡ sink
nothing_taken None None takes = refl
nothing_taken None (Some new) takes = absurd takes
nothing_taken (Some old) None takes = absurd takes
nothing_taken (Some old) (Some new) takes = ap Some (takes ∙ append-nil old)

module _ (most : ℕ) (first now : Replayer) (source' : Option (List ℕ
    × List ℕ)) (sink sink' : Option (List ℕ)) (bytes : List ℕ) where
  -- what a replay is over with is owed, and nothing was written before it
  owed_of : (verdict : ReplayVerdict) (whole last : List ℕ)
      → ConsumerIsOver ghosts most first now source' bytes verdict whole last → (whole ≡ [])
      × IsOwedText first.report verdict source' bytes most last
  owed_of verdicts.Legal whole last (inl (closes, end, some)) = (closes.0, ((end, some), closes.1))
  owed_of verdicts.Illegal whole last (inl (closes, end, some)) =
      (closes.0, ((end, some), closes.1))
  owed_of verdicts.NotAJournal whole last (inl (closes, end, some)) =
      (closes.0, (closes.1.0, inl ((end, some), closes.1.1), closes.1.2))
  owed_of verdicts.Legal whole last (inr (more, breaks, room)) = absurd breaks
  owed_of verdicts.Illegal whole last (inr (more, breaks, room)) = absurd breaks
  owed_of verdicts.NotAJournal whole last (inr (more, breaks, room)) =
      (breaks.0, (breaks.1.0, inr breaks.1.1, breaks.1.2))

  -- nothing stands before the last line
  last_only : (whole last : List ℕ) → whole ≡ [] → Takes sink sink' (whole ++ last)
      → Takes sink sink' last
  last_only whole last none wrote = subst (λ w. Takes sink sink' (w ++ last)) none wrote

  last_front : (whole last : List ℕ) (n : ℕ) → whole ≡ [] → n ≤ length last
      → Takes sink sink' (whole ++ take n last) → TakesFront sink sink' last
  last_front whole last n none le wrote = (n, le, last_only whole (take n last) none wrote)

  none_taken : (owed : List ℕ) → owed ≡ [] → Takes sink sink' owed → sink' ≡ sink
  none_taken owed none wrote = nothing_taken sink sink' (subst (Takes sink sink') none wrote)

module _ (most : ℕ) (first now : Replayer) (source source' : Option (List ℕ × List ℕ))
    (sink sink' : Option (List ℕ))
  where
    ends_of : (end : ReplayEnd)
        (run : Ended ghosts most first now (flow source source' sink sink') end)
        → ReplayEndsAs first.report end source' sink sink' run.taken most
    ends_of (ends.Over verdict) run =
        let (whole, last, over, wrote) = run.ends in
        let owed = owed_of most first now source' sink sink' run.taken verdict whole last over in (
          last,
          owed.1,
          last_only most first now source' sink sink' run.taken whole last owed.0
              wrote,
        )
    ends_of ends.ReadFault run =
        let (owed, went, waits, some, wrote) = run.ends in (
          lines_of run.taken now.reader now.checker went.0 waits,
          some,
          none_taken most first now source' sink sink' run.taken owed went.1 wrote,
        )
    ends_of ends.WriteFault run =
        in_part run.ends.0 run.ends.1 run.ends.2 run.ends.3 run.ends.4 run.ends.5 run.ends.6
      where
        in_part : (whole last : List ℕ) (n : ℕ)
            → ((verdict : ReplayVerdict)
            × ConsumerIsOver ghosts most first now source' run.taken verdict whole last)
            ⊎ (last ≡ [])
            → 0 < length last → n ≤ length last → Takes sink sink' (whole ++ take n last)
            → ReplayEndsAs first.report ends.WriteFault source' sink sink' run.taken most
        in_part whole last n (inl (found, over)) some le wrote =
            let owed = owed_of most first now source' sink sink' run.taken found whole last
            over in (
              found,
              last,
              owed.1,
              last_front most first now source' sink sink' run.taken whole last n owed.0 le wrote,
            )
        in_part whole last n (inr none) some le wrote =
            absurd (let none_long = ap length none in let wrong : ⊥ =
            omega (arith, none_long, some) in wrong)
    ends_of ends.NoMemory run =
        none_taken most first now source' sink sink' run.taken run.ends.0 run.ends.1 run.ends.2
    ends_of ends.Long run =
        let (owed, went, waits, all, wrote) = run.ends in (
          lines_of run.taken now.reader now.checker went.0 waits,
          all,
          none_taken most first now source' sink sink' run.taken owed went.1 wrote,
        )

    pub replay_of : (end : ReplayEnd)
        → Ended ghosts most first now (flow source source' sink sink') end
        → IsReplay first.report most source source' sink sink' end
    replay_of end run = record {
      bytes = run.taken;
      given = run.given;
      within = run.within;
      ends = ends_of end run;
    }

-- ---- completeness: what the loop's clause says of an input that is told

module _ (first now : Replayer) (input : List ℕ) where
  -- what is found is found of the whole input
  found_of : (verdict : ReplayVerdict) (whole last : List ℕ)
      → ReplayGave (OverAtEnd verdict) first now input whole last
      ⊎ ((front : List ℕ) × (behind : List ℕ) × (more : Bool) × (input ≡ front ++ behind)
      × ReplayBreaks verdict front whole last)
      → (line : List ℕ) × Finds first.report verdict input line
  found_of verdict whole last (inl closes) = (last, closes.1)
  found_of verdicts.NotAJournal whole last (inr (front, behind, more, is, breaks)) = (
    last,
    (
      breaks.1.0,
      subst (λ t. StopsAt t breaks.1.0) (sym is) (breaks.1.1 behind),
      breaks.1.2,
    ),
  )
  found_of verdicts.Legal whole last (inr (front, behind, more, is, breaks)) = absurd breaks
  found_of verdicts.Illegal whole last (inr (front, behind, more, is, breaks)) = absurd breaks

module _ (report : ReplayReport) (input : List ℕ) where
  judges_of : (judgement : Judgement) → IsJudged input judgement → (profile : Profile) (place : ℕ)
      (list : List Entry) → IsJournal input profile place list
      → Judges profile place list judgement
  judges_of judgement judged profile place list journal =
      let one = journal_one input judged.profile profile judged.place place judged.list list
      judged.journal journal in
      subst (λ v. Judges v place list judgement) one.0
      (subst (λ p. Judges judged.profile p list judgement) one.1
      (subst (λ l. Judges judged.profile judged.place l judgement) one.2 judged.judges))

  status_judged : (verdict : ReplayVerdict) (line : List ℕ) → Finds report verdict input line
      → (profile : Profile) (place : ℕ) (list : List Entry) → IsJournal input profile place list
      → IsStatusOf (replay_verdict_status verdict) profile place list
  status_judged verdicts.Legal line (entries, judged, is) profile place list journal =
      inl (Legal entries, judges_of (Legal entries) judged profile place list journal, refl)
  status_judged verdicts.Illegal line (at, why, judged, is) profile place list journal =
      inl (Illegal at why, judges_of (Illegal at why) judged profile place list journal, refl)
  status_judged verdicts.NotAJournal line (offset, stops, is) profile place list journal =
      absurd (journal_stops input profile place offset list journal stops)

  status_refused : (verdict : ReplayVerdict) (line : List ℕ) → Finds report verdict input line
      → ((profile : Profile) (place : ℕ) (list : List Entry) → IsJournal input profile place list
      → ⊥)
      → (replay_verdict_status verdict ≡ 3) ⊎ (replay_verdict_status verdict ≡ 6)
  status_refused verdicts.Legal line (entries, judged, is) none =
      absurd (none judged.profile judged.place judged.list judged.journal)
  status_refused verdicts.Illegal line (at, why, judged, is) none =
      absurd (none judged.profile judged.place judged.list judged.journal)
  status_refused verdicts.NotAJournal line found none = inl refl

module _ (most : ℕ) (first now : Replayer) (f : Flow) where
  pub judged-complete : (told : Option (List ℕ × List ℕ)) (end : ReplayEnd)
      → IfFewer told most (RunIsComplete ghosts first now f end)
      → (profile : Profile) (place : ℕ) (list : List Entry)
      → TellsJournal told most profile place list → IsStatusOf (status_of_replay end) profile place
      list
  judged-complete None end complete profile place list tells = absurd tells
  judged-complete (Some told) (ends.Over verdict) complete profile place list tells =
      let (whole, last, over, wrote) = complete tells.0 in
      let found = found_of first now told.1 verdict whole last over in
      status_judged first.report told.1 verdict found.0 found.1 profile place list tells.1
  judged-complete (Some told) ends.NoMemory complete profile place list tells = inr refl
  judged-complete (Some told) ends.ReadFault complete profile place list tells =
      absurd (complete tells.0)
  judged-complete (Some told) ends.WriteFault complete profile place list tells =
      absurd (complete tells.0)
  judged-complete (Some told) ends.Long complete profile place list tells =
      absurd (complete tells.0)

  pub refused-complete : (told : Option (List ℕ × List ℕ)) (end : ReplayEnd)
      → IfFewer told most (RunIsComplete ghosts first now f end)
      → TellsNoJournal told most → (status_of_replay end ≡ 3) ⊎ (status_of_replay end ≡ 6)
  refused-complete None end complete tells = absurd tells
  refused-complete (Some told) (ends.Over verdict) complete tells =
      let (whole, last, over, wrote) = complete tells.0 in
      let found = found_of first now told.1 verdict whole last over in
      status_refused first.report told.1 verdict found.0 found.1 tells.1
  refused-complete (Some told) ends.NoMemory complete tells = inr refl
  refused-complete (Some told) ends.ReadFault complete tells = absurd (complete tells.0)
  refused-complete (Some told) ends.WriteFault complete tells = absurd (complete tells.0)
  refused-complete (Some told) ends.Long complete tells = absurd (complete tells.0)
