use Rattle.std.proofs.Common.{[], ◌∷◌, ◌++◌, subst, sym}
use Rattle.session_machine.specs.History.{IsLegalIn, nothing}
use Rattle.journal_text.specs.JudgingChecker.{Known, KnowsHistory}
use Rattle.journal_text.proofs.DeedLemmas.{admitted}
use Rattle.journal_text.proofs.judging.history_state.HistoryState.admit.Goals as goal

pub returns-in-None-clause-admitted : goal.returns-in-None-clause-admitted
returns-in-None-clause-admitted c = λ before legal knows.
    let inside : Known = record {
      profile = c.self.inside.profile;
      faults = c.self.inside.faults;
      draw = c.self.inside.above;
      items = c.self.inside.items.entries;
    } in
    let acted = rw c.in-None.is at c.in_ok-why.ensures.acted in
    let done = rw c.has_risen-rose.ensures at acted in
    let before_legal : IsLegalIn inside.profile nothing 0 before =
    subst (λ (k : Known). IsLegalIn k.profile nothing 0 before) (sym c.self.view_is) legal in
    let goes_on = admitted inside before c.args.entry c.requires
    (subst (λ k. KnowsHistory k before) (sym c.self.view_is) knows) c.if-faults-self.false
    (c.raises.ensures.raises c.if-not-raises.false) c.act.new.items.entries before_legal done in (
      subst (λ (k : Known). IsLegalIn k.profile nothing 0 (before ++ c.args.entry ∷ []))
          c.self.view_is goes_on.0,
      rw c.max-self-inside.ensures goes_on.1,
    )
