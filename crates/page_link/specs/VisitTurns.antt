-- The turns of a visit: in each it does once what its rule says at the moment that its clock gives.
use Rattle.std.specs.Prelude.{◌≡◌, ℕ, ◌+◌, ◌<◌, List, [], ◌∷◌, length, slice_index, Option, Some, None, Bool, true, false, ⊤}
use Rattle.std.specs.List.{flat_map}
use Rattle.asp_messages.specs.declared.request.Request.{Request}
use Rattle.asp_messages.specs.ReplySpelling.{StreamAnswer, reply, strange}
use Rattle.asp_messages.specs.RequestText.{request_text}
use Rattle.visit_core.specs.declared.act.Ending.{Ending}
use Rattle.visit_core.specs.declared.act.Heard.{Heard}
use Rattle.visit_core.specs.declared.act.Heard.TheVariants.{Reply, Strange}
use Rattle.visit_core.specs.VisitRule.{Event, heard, ended, lost}

-- a turn at a moment: a request was sent and answered, the visit paused until a later moment, or
-- the page ran and ended
pub data VisitTurn : Type 0 where
  asked : ℕ → Request → StreamAnswer → VisitTurn
  paused : ℕ → ℕ → VisitTurn
  ran : ℕ → VisitTurn

abbrev pub moment_of : VisitTurn → ℕ
moment_of (asked t request answer) = t
moment_of (paused t until) = t
moment_of (ran t) = t

-- what the visit hears of an answer
abbrev pub heard_of : StreamAnswer → Heard
heard_of (reply r) = Reply r
heard_of (strange status) = Strange status

-- the event that a turn adds to the past of a visit with this ending; a pause adds none
abbrev pub events_of : Ending → VisitTurn → List Event
events_of ending (asked t request answer) = heard t request (heard_of answer) ∷ []
events_of ending (paused t until) = []
events_of ending (ran t) = ended ending ∷ []

-- the text of the request that was sent
abbrev pub turn_text : VisitTurn → List ℕ
turn_text (asked t request answer) = request_text request
turn_text (paused t until) = []
turn_text (ran t) = []

-- the answer that was heard
abbrev pub answer_heard : VisitTurn → List StreamAnswer
answer_heard (asked t request answer) = answer ∷ []
answer_heard (paused t until) = []
answer_heard (ran t) = []

-- the moment until which the visit paused
abbrev pub pause_of : VisitTurn → List ℕ
pause_of (asked t request answer) = []
pause_of (paused t until) = until ∷ []
pause_of (ran t) = []

-- the past of a visit with this ending, the texts of the requests that were answered, the answers,
-- and the moments until which the visit paused, all in order
abbrev pub past_of : Ending → List VisitTurn → List Event
past_of ending turns = flat_map (events_of ending) turns

abbrev pub texts_of : List VisitTurn → List ℕ
texts_of turns = flat_map turn_text turns

abbrev pub answers_of : List VisitTurn → List StreamAnswer
answers_of turns = flat_map answer_heard turns

abbrev pub pauses_of : List VisitTurn → List ℕ
pauses_of turns = flat_map pause_of turns

-- the link was lost
abbrev pub has_lost : List Event → Bool
has_lost [] = false
has_lost (heard t request answer ∷ past) = has_lost past
has_lost (ended ending ∷ past) = has_lost past
has_lost (lost ∷ past) = true

-- a clock gave these moments: it tells nothing, or the k-th of them was the k-th to come, and those
-- behind them still are
abbrev pub GaveMoments : Option (ℕ → ℕ) → Option (ℕ → ℕ) → List ℕ → Type 0
GaveMoments None None moments = ⊤
GaveMoments None (Some new) moments = ⊥
GaveMoments (Some old) None moments = ⊥
GaveMoments (Some old) (Some new) moments =
    ((k : ℕ) → k < length moments → slice_index moments k ≡ old k)
    × ((k : ℕ) → new k ≡ old (length moments + k))
