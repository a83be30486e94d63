-- A visit by the words of a command line.
use Rattle.std.specs.Prelude.{◌≡◌, ◌≢◌, ◌⊎◌, ℕ, ◌+◌, List, [], ◌∷◌, ◌++◌, Option}
use Rattle.asp_base.specs.WrittenLine.{WritesLine}
use Rattle.page_link.specs.declared.visit_end.VisitEnd.{VisitEnd}
use Rattle.page_link.specs.declared.visit_end.VisitEnd.TheVariants.{Over, BadReply, NoMemory}
use Rattle.page_link.specs.Visits.{IsNew, IsVisit, scene}
use Rattle.visit_core.specs.declared.outcome.Outcome.{Outcome}
use Rattle.visit_core.specs.declared.outcome.Outcome.TheVariants.{Done, LostLocked, LostMissing, GaveUp, LinkFault, Refused}
use Rattle.visit_core.specs.OutcomeText.{outcome_spelling}
use Rattle.visit_core.specs.Stages.{VisitState}
use Rattle.visit_core.specs.Terms.{VisitTerms, default_limits, most_requests}
use Rattle.visit_command.specs.declared.visit_words.PageWords.{PageWords}

-- the exit status of an outcome
abbrev pub outcome_status : Outcome → ℕ
outcome_status Done = 0
outcome_status (LostLocked cookie age) = 11
outcome_status LostMissing = 11
outcome_status (GaveUp cookie age) = 12
outcome_status LinkFault = 13
outcome_status (Refused status) = 14

-- What the link, the clock and the sink tell at one time.
pub record Outside : Type 0 where
  pub link : Option (List ℕ × List ℕ)
  pub pauses : Option (List ℕ × ℕ)
  pub clock : Option (ℕ → ℕ)
  pub sink : Option (List ℕ)

-- what they tell, by its parts
abbrev pub tellings : Option (List ℕ × List ℕ) → Option (List ℕ × ℕ) → Option (ℕ → ℕ)
    → Option (List ℕ) → Outside
tellings link pauses clock sink =
    record { link = link; pauses = pauses; clock = clock; sink = sink }

-- the terms of the page, by the limits that ASP.NET has by default, and 1,000 polls
abbrev pub terms_of_page : PageWords → VisitTerms
terms_of_page page = record { key = page.key; need = page.need; limits = default_limits }

-- So many replies are enough for a visit of any page: it hears no more than it sends requests. One
-- more is asked for, so that no visit comes to the end of the replies.
abbrev pub enough_replies : ℕ
enough_replies = most_requests default_limits + 1

-- What is written at an end, and the status: an outcome's line, and else nothing.
abbrev pub Tells : VisitEnd → ℕ → Option (List ℕ) → Option (List ℕ) → Type 0
Tells (Over outcome) status sink sink' =
    WritesLine status (outcome_status outcome) sink sink' (outcome_spelling outcome ++ 10 ∷ [])
Tells BadReply status sink sink' = (status ≡ 15) × (sink' ≡ sink)
Tells NoMemory status sink sink' = (status ≡ 6) × (sink' ≡ sink)

-- A visit of the page was made, from its first turn to its end, and its end was told.
pub record HasVisited (page : PageWords) (before after : Outside) (status : ℕ) : Type 0 where
  pub start : VisitState
  pub stop : VisitState
  pub end : VisitEnd
  pub terms : start.terms ≡ terms_of_page page
  pub new : IsNew start
  pub visit : IsVisit page.ending (scene start before.link before.pauses before.clock)
      (scene stop after.link after.pauses after.clock) end
  pub tells : Tells end status before.sink after.sink

-- memory was wanting before the visit began, or it was made
abbrev pub IsVisitOf : PageWords → Outside → Outside → ℕ → Type 0
IsVisitOf page before after status =
    ((status ≡ 6) × (after ≡ before)) ⊎ HasVisited page before after status

-- the status is that of an outcome, and the link was not lost
abbrev pub EndsWithOutcome : ℕ → Type 0
EndsWithOutcome status =
    (outcome : Outcome) × (outcome ≢ LinkFault) × (status ≡ outcome_status outcome)
