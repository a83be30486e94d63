-- What one message does to a server: to its items, to the cookies that are left, and to its clock.
use Rattle.std.specs.Prelude.{◌≡◌, ℕ, ◌+◌, ◌≤◌, ◌^◌, List, [], ◌∷◌, ◌++◌}
use Rattle.asp_base.specs.Moments.{Ticking, step_moment}
use Rattle.asp_messages.specs.declared.request.Request.{Request}
use Rattle.asp_messages.specs.declared.request.Message.{Message}
use Rattle.asp_messages.specs.declared.request.Message.TheVariants.{Fit, Unfit}
use Rattle.asp_messages.specs.declared.reply.Reply.TheVariants.{Bad}
use Rattle.asp_messages.specs.ReplyText.{reply_text}
use Rattle.plain_desk.specs.Draws.{draw_of, draws_in}
use Rattle.plain_desk.specs.DeskStands.{DeskState, DeskStandsFor}
use Rattle.plain_desk.specs.Openings.{Opening}
use Rattle.session_machine.specs.Profiles.{newest}
use Rattle.journal_text.specs.WritingText.{entry_line}
use Rattle.session_machine.specs.declared.entry.Entry.{Entry}
use Rattle.shard_core.specs.ShardStands.{asked_entry}
use Rattle.pipe_command.specs.declared.pipe.Output.{Output}
use Rattle.pipe_command.specs.declared.pipe.Output.TheVariants.{Replies, Journal}
use Rattle.pipe_command.specs.declared.responder.Response.{Response}

-- A server: the bytes held, the state of its desk, the clock.
pub record ServerState : Type 0 where
  pub held : List ℕ
  pub desk : DeskState
  pub clock : Ticking

-- the entry of a request that was answered so, behind which the keeper counts so many faults
abbrev pub entry_of_answer : Request → Response → ℕ → Entry
entry_of_answer r answer faults = asked_entry 0 answer.moment r answer.drawn answer.reply faults

-- A request was answered: behind each history that the desk stands for, its entry makes a history
-- that it stands for, and its cookie is the next by counting.
pub record AnswersRequest (CanCount : ℕ → Type 0) (r : Request) (old new : ServerState)
    (answer : Response) : Type 0 where
  pub history : (opening : Opening) (list : List Entry)
      → DeskStandsFor CanCount opening.cookies.next opening.items opening.count list old.desk
      → (answer.drawn
      ≡ draw_of opening.cookies.next old.desk.cookies.last (draws_in list) r.ask)
      × DeskStandsFor CanCount opening.cookies.next opening.items opening.count
      (list ++ entry_of_answer r answer new.desk.faults ∷ [])
      new.desk
  pub last : new.desk.cookies.last ≡ old.desk.cookies.last

-- a message was answered; one that is no request changes nothing
abbrev pub AnswersMessage : (ℕ → Type 0) → Message → ServerState → ServerState → Response → Type 0
AnswersMessage CanCount (Fit r) old new answer = AnswersRequest CanCount r old new answer
AnswersMessage CanCount Unfit old new answer =
    (answer.reply ≡ Bad) × (new.desk ≡ old.desk)

-- The clock went on by one moment.
pub record Ticks (old new : Ticking) : Type 0 where
  pub in_range : old.next ≤ 2 ^ 62
  pub in_order : (start k : ℕ) → old.next ≡ step_moment start old.step k
      → new.next ≡ step_moment start old.step (k + 1)
  pub step : new.step ≡ old.step

-- A message was answered at the clock's next moment.
pub record AnswersAtMoment (CanCount : ℕ → Type 0) (m : Message) (old new : ServerState)
    (answer : Response)
    : Type 0 where
  pub moment : answer.moment ≡ old.clock.next
  pub ticks : Ticks old.clock new.clock
  pub held : new.held ≡ old.held
  pub replies : AnswersMessage CanCount m old new answer

-- what is owed for a message that was answered: its reply, or its entry's line, where it has an
-- entry
abbrev pub owed_for : Output → Message → Response → ℕ → List ℕ
owed_for Replies m answer faults = reply_text answer.reply
owed_for Journal (Fit r) answer faults = entry_line newest (entry_of_answer r answer faults)
owed_for Journal Unfit answer faults = []

-- A message was answered, and what is owed for it was given so.
pub record IsAnsweredInto (CanCount : ℕ → Type 0) (output : Output) (Gives : List ℕ → Type 0)
    (m : Message) (old new : ServerState) : Type 0 where
  pub answer : Response
  pub answers : AnswersAtMoment CanCount m old new answer
  pub gives : Gives (owed_for output m answer new.desk.faults)
