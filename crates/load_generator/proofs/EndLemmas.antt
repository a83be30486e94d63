-- How a load ends.
use Rattle.std.proofs.Common.{◌≡◌, ℕ, ◌+◌, List, [], ◌++◌, length, Option, refl, sym, ap, ◌∙◌, arith, subst, inl, inr, append-nil}
use Rattle.std.specs.Prelude.{◌⊎◌}
use Rattle.std.specs.List.{AllByRecursion}
use Rattle.asp_base.specs.Outside.{Takes, TakesFront}
use Rattle.plain_desk.specs.DeskStands.{DeskState}
use Rattle.session_machine.specs.declared.entry.Entry.{Entry}
use Rattle.session_machine.specs.History.{nothing}
use Rattle.shard_core.specs.ShardStands.{StandsFor}
use Rattle.load_generator.specs.declared.status_counts.Counts.{Counts}
use Rattle.load_generator.specs.declared.load.Load.{Load}
use Rattle.load_generator.specs.StatusCounting.{CountsAre, counts_text}
use Rattle.load_generator.specs.Load.{seeded}
use Rattle.load_generator.specs.LoadRun.{LoadEnd, IsLoad, EndsLoad, EndsLoadSweep, load_text}
use Rattle.load_generator.specs.LoadRunning.{WritesCounts}
use Rattle.load_generator.specs.LoadSteps.{HasAsked, SweepsLoad}
use Rattle.load_generator.proofs.LoadLemmas.{counts_text-is}
use Rattle.load_generator.proofs.CoverLemmas.{few_removed}

-- the end of a load that left its desk in this state
abbrev ended : ℕ → Option (List ℕ) → DeskState → LoadEnd
ended status sink state = record {
  status = status;
  sink = sink;
  told = state.told;
  faults = state.faults;
}

-- there was no memory for a request
pub unfinished : (CanCount : ℕ → Type 0) (load : Load) (sink : Option (List ℕ)) (state : DeskState)
    (list : List Entry) → HasAsked CanCount load.seed list state
    → IsLoad CanCount load sink (ended 6 sink state)
unfinished CanCount load sink state list asked = record {
  requests = list;
  removals = [];
  looks = [];
  made = asked.made;
  removed = tt;
  few = omega arith;
  stands = subst (λ (l : List Entry). StandsFor nothing 0 l state.told state.faults)
      (sym same) asked.desk.stands;
  counts = subst (λ (l : List Entry). AllByRecursion (λ e. CanCount e.faults) l) (sym same)
      asked.desk.counts;
  ends = inr (inr (refl, refl));
}
  where
    same : list ++ [] ++ [] ≡ list
    same = append-nil (list ++ []) ∙ append-nil list

-- all requests were made, and the sweep too
pub finished : (CanCount : ℕ → Type 0) (load : Load) (removed status : ℕ)
    (sink sink' : Option (List ℕ)) (state : DeskState) (counts : Counts) (list : List Entry)
    → (made : (before : DeskState) × HasAsked CanCount load.seed list before)
    → length list ≡ load.requests → CountsAre counts list
    → SweepsLoad CanCount 1 (load.requests + 1) list state removed
    → WritesCounts status sink sink' (counts_text load.requests counts removed)
    → IsLoad CanCount load sink (ended status sink' state)
finished CanCount load removed status sink sink' state counts list made all are swept writes =
    record {
      requests = list;
      removals = swept.removals;
      looks = swept.looks;
      made = made.1.made;
      removed = swept.expired;
      few = swept.few;
      stands = swept.desk.stands;
      counts = swept.desk.counts;
      ends = by_status writes;
    }
  where
    text : counts_text load.requests counts removed ≡ load_text list swept.removals
    text =
        ap (λ k. counts_text k counts removed) (sym all)
        ∙ ap (counts_text (length list) counts) (sym swept.counted)
        ∙ counts_text-is counts list swept.removals are

    by_looks : ((swept.looks ≡ []) × (removed ≡ load.requests + 1))
        ⊎ EndsLoadSweep state.told swept.looks
        → EndsLoadSweep state.told swept.looks
    by_looks (inl none) =
        let counted = swept.counted in
        subst (λ (l : List Entry). EndsLoadSweep state.told l) (sym none.0)
        (few_removed (seeded load.seed) list swept.removals state.told made.1.made swept.expired
        (subst (λ (l : List Entry). StandsFor nothing 0 l state.told state.faults)
        (ap (λ (l : List Entry). list ++ swept.removals ++ l) none.0
        ∙ append-nil (list ++ swept.removals)) swept.desk.stands).told_is
        (omega (arith, counted, none.1, all)))
    by_looks (inr ends) = ends

    by_status : WritesCounts status sink sink' (counts_text load.requests counts removed)
        → EndsLoad load.requests sink (ended status sink' state)
        (record { requests = list; removals = swept.removals; looks = swept.looks })
    by_status (inl whole) = inl (
      whole.0,
      all,
      by_looks swept.ends,
      subst (Takes sink sink') text
          whole.1,
    )
    by_status (inr (inl front)) = inr (inl (
      front.0,
      all,
      by_looks swept.ends,
      subst
          (TakesFront sink sink') text front.1,
    ))
    by_status (inr (inr none)) = inr (inr (none.0, none.1))
