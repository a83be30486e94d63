-- Inside a page's run: where it stands between two acts.
use Rattle.std.specs.Prelude.{◌≡◌, ℕ, ◌+◌, ◌*◌, ◌≤◌, ◌<◌, ◌^◌, List, [], ◌∷◌, ◌++◌, Option, Some, None, false, IfSome, IsSome}
use Rattle.asp_messages.specs.declared.reply.Reply.{Reply as ReplyValue}
use Rattle.plain_desk.specs.DeskStands.{DeskState}
use Rattle.visit_core.specs.declared.act.Ending.{Ending}
use Rattle.visit_core.specs.declared.outcome.Outcome.{Outcome}
use Rattle.visit_core.specs.VisitRule.{Event, ended, has_ended, latest_answer, IsLawful}
use Rattle.visit_core.specs.Stages.{HasPast, steps_left}
use Rattle.visit_core.specs.Terms.{VisitTerms, EndingFits, kept_ending, most_requests}
use Rattle.page_visit.specs.declared.open_page.OpenPage.{OpenPage}
use Rattle.page_visit.specs.Asked.{DeskDoes, asked, replies_of}
use Rattle.page_visit.specs.Runs.{came_to, page_from, page_run}

-- A page that may take its next act: its moments stay in range, and its ending is kept until it is
-- told.
pub record PageMayAct (page : OpenPage) : Type 0 where
  pub past : List Event
  pub stands : HasPast page.visit past
  pub poll : page.visit.terms.limits.poll_ms ≤ 500
  pub early : page.moment + 500 * steps_left page.visit page.moment ≤ 2 ^ 62
  pub left : has_ended past ≡ false → IsSome page.ending
  pub fits : IfSome page.ending EndingFits

-- What a page began with: its terms, its ending, its first moment, and the desk.
pub record PageStart : Type 0 where
  pub terms : VisitTerms
  pub ending : Ending
  pub moment : ℕ
  pub desk : DeskState

-- A page with its desk, behind so many acts.
pub record Underway (CanCount : ℕ → Type 0) (start : PageStart) (acts : ℕ) (page : OpenPage)
    (desk : DeskState) : Type 0 where
  pub past : List Event
  pub stands : HasPast page.visit past
  pub terms : page.visit.terms ≡ start.terms
  pub steps : acts + steps_left page.visit page.moment ≤ most_requests start.terms.limits
  pub follows : (n : ℕ) (more : List ReplyValue)
      → page_from (acts + n) start.terms start.ending [] start.moment None
      (replies_of past ++ more)
      ≡ page_from n start.terms start.ending past page.moment page.content more
  pub desk_did : DeskDoes CanCount start.desk desk past
  pub kept : page.ending ≡ kept_ending (has_ended past) start.ending
  pub late : latest_answer past + 500 * steps_left page.visit page.moment ≤ 2 ^ 62
  pub early : page.moment + 500 * steps_left page.visit page.moment ≤ 2 ^ 62

-- each page that was underway is, behind one act more
abbrev pub PageGoesOn : (ℕ → Type 0) → OpenPage → DeskState → OpenPage → DeskState → Type 0
PageGoesOn CanCount page desk page' desk' = (start : PageStart) (acts : ℕ)
    → Underway CanCount start acts page desk → Underway CanCount start (acts + 1) page' desk'

-- A page came to an outcome, having run on this content: these are its events, and it hears no
-- reply behind theirs.
pub record PageComesTo (CanCount : ℕ → Type 0) (start : PageStart) (desk : DeskState)
    (outcome : Outcome) (content : Option (List ℕ)) : Type 0 where
  pub past : List Event
  pub run_is : (more : List ReplyValue)
      → page_run start.terms start.ending start.moment (replies_of past ++ more)
      ≡ record { past = past; end = came_to outcome content; left = more }
  pub lawful : IsLawful start.terms past
  pub desk_did : DeskDoes CanCount start.desk desk past

-- A page was cut off: with the replies so far it asks just what these events ask.
pub record PageIsCut (CanCount : ℕ → Type 0) (start : PageStart) (desk : DeskState) : Type 0 where
  pub past : List Event
  pub asks : (j : ℕ)
      → asked j (page_run start.terms start.ending start.moment (replies_of past)).past
      ≡ asked j past
  pub lawful : IsLawful start.terms
      (page_run start.terms start.ending start.moment (replies_of past)).past
  pub desk_did : DeskDoes CanCount start.desk desk past

-- The page ran on this content, and its visit was told its ending.
pub record PageEnds (old new : OpenPage) (content : Option (List ℕ)) : Type 0 where
  pub ending : Ending
  pub told : old.ending ≡ Some ending
  pub same : new ≡ record old { visit = new.visit; ending = None; content = content }
  pub terms : new.visit.terms ≡ old.visit.terms
  pub past : (past : List Event) → HasPast old.visit past
      → HasPast new.visit (past ++ ended ending ∷ [])
  pub fewer : (t u : ℕ) → steps_left new.visit u < steps_left old.visit t
