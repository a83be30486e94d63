-- Inside a run: where it stands between two messages.
use Rattle.std.specs.Prelude.{◌≡◌, ℕ, ◌+◌, List, [], ◌∷◌, ◌++◌, length}
use Rattle.asp_base.specs.Moments.{step_moment}
use Rattle.asp_messages.specs.declared.request.Message.{Message}
use Rattle.asp_messages.specs.declared.request.Message.TheVariants.{Fit, Unfit}
use Rattle.asp_messages.specs.RequestSpelling.{SpellsRequest}
use Rattle.asp_messages.specs.Stream.{Spelled}
use Rattle.plain_desk.specs.Draws.{draws}
use Rattle.plain_desk.specs.DeskStands.{DeskStandsFor}
use Rattle.session_machine.specs.declared.entry.Entry.{Entry}
use Rattle.pipe_command.specs.PlainRun.{IsPlainRun, PipeStart, SplitsAtLast, output_of, written_as}
use Rattle.pipe_command.specs.Answering.{ServerState}

-- how many cookies the messages draw
abbrev pub total_draws : List Message → ℕ
total_draws [] = 0
total_draws (Unfit ∷ ms) = total_draws ms
total_draws (Fit r ∷ ms) = draws r.ask + total_draws ms

-- The bytes taken so far are messages and what is held, and the bytes that are owed so far are what
-- a run of them writes.
pub record Progress (CanCount : ℕ → Type 0) (start : PipeStart) (bytes owed : List ℕ)
    (s : ServerState) : Type 0 where
  pub messages : List Message
  pub list : List Entry
  pub spelled : Spelled SpellsRequest bytes messages s.held
  pub plain : IsPlainRun start messages list
  pub owed_is : owed ≡ written_as (output_of start.pipe.journal) messages list
  pub desk : DeskStandsFor CanCount start.opening.cookies.next start.opening.items
      start.opening.count list s.desk
  pub last_cookie : s.desk.cookies.last ≡ start.opening.cookies.last
  pub moment : s.clock.next ≡ step_moment start.pipe.start start.pipe.step (length messages)
  pub step : s.clock.step ≡ start.pipe.step

-- The same, and what is owed is in two parts: for the messages before the last, and for the last.
pub record ProgressLast (CanCount : ℕ → Type 0) (start : PipeStart) (bytes whole last : List ℕ)
    (s : ServerState) : Type 0 where
  pub progress : Progress CanCount start bytes (whole ++ last) s
  pub parts : SplitsAtLast start progress.messages progress.list whole last
