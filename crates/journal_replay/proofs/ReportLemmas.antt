-- What a checker's judgement is reported by.
use Rattle.std.proofs.Common.{◌≡◌, ℕ, List, ◌++◌, Result, Ok, Err, OnOk, Option, refl, subst}
use Rattle.session_machine.specs.declared.entry.Entry.{Entry}
use Rattle.session_machine.specs.declared.item.Item.{Item}
use Rattle.session_machine.specs.declared.item.Profile.{Profile}
use Rattle.session_listing.specs.Listing.{ListsSessions}
use Rattle.journal_text.specs.declared.judging.judgement.Judgement.{Judgement}
use Rattle.journal_text.specs.declared.judging.judgement.Judgement.TheVariants.{Legal, Illegal}
use Rattle.journal_text.specs.JudgingChecker.{Checked, HasTaken, item_among, legal_front}
use Rattle.journal_text.specs.JudgingEntries.{item_before}
use Rattle.journal_text.specs.JudgingLine.{judgement_line}
use Rattle.journal_replay.specs.declared.report.ReplayReport.{ReplayReport}
use Rattle.journal_replay.specs.declared.report.ReplayReport.TheVariants as reports
use Rattle.journal_replay.specs.ReplayProgress.{IsLegalVerdict, ReportsJudged, ReportsTaken}

-- a text that was appended, with a fact of it
pub with_fact : {T E : Type 0} (r : Result T E) (old new text : List ℕ) (P : List ℕ → Type 0)
    → OnOk r (new ≡ old ++ text) → P text
    → OnOk r ((t : List ℕ) × (new ≡ old ++ t) × P t)
with_fact (Ok x) old new text P is p = (text, is, p)
with_fact (Err x) old new text P is p = tt

line_judged : (profile : Profile) (list : List Entry) (verdict : Judgement)
    → ReportsJudged reports.Judgement profile list verdict (judgement_line profile verdict)
line_judged profile list (Legal entries) = refl
line_judged profile list (Illegal place why) = refl

-- the line of the judgement, where that is asked for
pub line_reported : (checker : Checked) (profile : Profile) (verdict : Judgement)
    → profile ≡ checker.known.profile → verdict ≡ checker.verdict
    → ReportsTaken reports.Judgement checker (judgement_line profile verdict)
line_reported checker profile verdict profile_is verdict_is list has =
    subst (λ p. ReportsJudged reports.Judgement p list checker.verdict
    (judgement_line profile verdict)) profile_is
    (subst (λ v. ReportsJudged reports.Judgement profile list v (judgement_line profile verdict))
    verdict_is (line_judged profile list verdict))

illegal_judged : (report : ReplayReport) (profile : Profile) (list : List Entry)
    (verdict : Judgement) → (IsLegalVerdict verdict → ⊥)
    → ReportsJudged report profile list verdict (judgement_line profile verdict)
illegal_judged report profile list (Legal entries) illegal = absurd (illegal tt)
illegal_judged report profile list (Illegal place why) illegal = refl

-- the line of the judgement, where the history is not legal
pub illegal_reported : (report : ReplayReport) (checker : Checked) (profile : Profile)
    (verdict : Judgement) → profile ≡ checker.known.profile → verdict ≡ checker.verdict
    → (IsLegalVerdict verdict → ⊥)
    → ReportsTaken report checker (judgement_line profile verdict)
illegal_reported report checker profile verdict profile_is verdict_is illegal list has =
    subst (λ p. ReportsJudged report p list checker.verdict
    (judgement_line profile verdict)) profile_is
    (subst (λ v. ReportsJudged report profile list v (judgement_line profile verdict))
    verdict_is (illegal_judged report profile list verdict illegal))

-- the sessions, where they are asked for and the history is legal
pub sessions_reported : (moment : ℕ) (checker : Checked) (items : List (List ℕ × Item))
    (text : List ℕ) → IsLegalVerdict checker.verdict
    → ((list : List Entry) → HasTaken checker list → (key : List ℕ)
    → item_among items key ≡ item_before checker.known.profile
    (legal_front checker.first_place checker.verdict list) key)
    → ((at : List ℕ → Option Item) → ((key : List ℕ) → item_among items key ≡ at key)
    → ListsSessions moment at text)
    → ReportsTaken (reports.Sessions moment) checker text
sessions_reported moment checker items text legal map lists list has =
    by_verdict checker.verdict legal (map list has)
  where
    by_verdict : (verdict : Judgement) → IsLegalVerdict verdict
        → ((key : List ℕ) → item_among items key ≡ item_before checker.known.profile
        (legal_front checker.first_place verdict list) key)
        → ReportsJudged (reports.Sessions moment) checker.known.profile list verdict text
    by_verdict (Legal entries) legal' each = lists (item_before checker.known.profile list) each
    by_verdict (Illegal place why) legal' each = absurd legal'
