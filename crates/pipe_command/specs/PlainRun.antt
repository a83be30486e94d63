-- A plain run: what the messages of a stream ask of the session machine, and what is written for
-- them. Nothing here depends on how the bytes were cut.
use Rattle.std.specs.Prelude.{◌≡◌, ℕ, ◌+◌, List, [], ◌∷◌, ◌++◌, map, Bool, true, false}
use Rattle.asp_base.specs.Moments.{step_moment}
use Rattle.asp_messages.specs.declared.request.Message.{Message}
use Rattle.asp_messages.specs.declared.request.Message.TheVariants.{Fit, Unfit}
use Rattle.asp_messages.specs.declared.reply.Reply.{Reply}
use Rattle.asp_messages.specs.declared.reply.Reply.TheVariants.{Bad}
use Rattle.asp_messages.specs.Fields.{most_cookie}
use Rattle.asp_messages.specs.ReplyText.{reply_text}
use Rattle.cookie_source.specs.Counting.{Counter}
use Rattle.plain_desk.specs.Draws.{draws, draw_of}
use Rattle.plain_desk.specs.Openings.{Opening, opening_with}
use Rattle.session_machine.specs.Profiles.{newest}
use Rattle.journal_text.specs.WritingText.{journal_text}
use Rattle.session_machine.specs.declared.entry.Entry.{Entry}
use Rattle.session_machine.specs.declared.entry.Deed.{Deed}
use Rattle.session_machine.specs.declared.entry.Deed.TheVariants.{Asked}
use Rattle.stream_core.specs.Whole.{written}
use Rattle.pipe_command.specs.declared.pipe.Pipe.{Pipe}
use Rattle.pipe_command.specs.declared.pipe.Output.{Output}
use Rattle.pipe_command.specs.declared.pipe.Output.TheVariants.{Replies, Journal}

-- What a run is told, and how the history of its items begins.
pub record PipeStart : Type 0 where
  pub pipe : Pipe
  pub opening : Opening

-- how a run begins over a keeper with no items, with the cookies from the first on that it is told
abbrev pub from_nothing : Pipe → PipeStart
from_nothing pipe = record { pipe = pipe; opening = opening_with pipe.first most_cookie }

-- what is asked of the machine: the caller, the moment, the deed and the drawn cookie
abbrev pub Asking : Type 0
Asking = ℕ × ℕ × Deed × ℕ

-- what an entry says was asked
abbrev pub asking_of : Entry → Asking
asking_of e = (e.caller, e.moment, e.deed, e.drawn)

-- What the messages ask from the k-th moment and the j-th cookie on. Each message has a moment, and
-- each acquire draws a cookie, 0 past the last.
abbrev pub askings : ℕ → ℕ → Counter → ℕ → ℕ → List Message → List Asking
askings start step cookies k j [] = []
askings start step cookies k j (Unfit ∷ ms) = askings start step cookies (k + 1) j ms
askings start step cookies k j (Fit r ∷ ms) =
    (0, step_moment start step k, Asked r, draw_of cookies.next cookies.last j r.ask)
    ∷ askings start step cookies (k + 1) (j + draws r.ask) ms

-- the entries are what the messages ask, in order
abbrev pub IsPlainRun : PipeStart → List Message → List Entry → Type 0
IsPlainRun start ms list =
    map asking_of list ≡ askings start.pipe.start start.pipe.step start.opening.cookies 0 0 ms

-- each message's reply, in order; a message that is no request is answered `Bad`
abbrev pub replies_to : List Message → List Entry → List Reply
replies_to [] list = []
replies_to (Unfit ∷ ms) list = Bad ∷ replies_to ms list
replies_to (Fit r ∷ ms) [] = []
replies_to (Fit r ∷ ms) (e ∷ es) = e.reply ∷ replies_to ms es

-- what a run is to write
abbrev pub output_of : Bool → Output
output_of false = Replies
output_of true = Journal

-- what a run writes: the replies, or the journal of its entries
abbrev pub written_as : Output → List Message → List Entry → List ℕ
written_as Replies ms list = written (replies_to ms list)
written_as Journal ms list = journal_text newest 0 list

-- what is written behind that for bytes that are no whole messages: one more `Bad`, and nothing
-- into a journal
abbrev pub closing : Output → List ℕ
closing Replies = reply_text Bad
closing Journal = []

-- What is owed for the messages is in two parts: whole for those before the last, and last for that
-- one (its reply, or its entry's line).
pub record SplitsAtLast (start : PipeStart) (ms : List Message) (list : List Entry) (whole last : List ℕ)
    : Type 0 where
  pub heard : List Message
  pub message : Message
  pub before : List Entry
  pub own : List Entry
  pub messages_are : ms ≡ heard ++ message ∷ []
  pub list_is : list ≡ before ++ own
  pub plain : IsPlainRun start heard before
  pub whole_is : whole ≡ written_as (output_of start.pipe.journal) heard before
  pub owed_is : written_as (output_of start.pipe.journal) ms list ≡ whole ++ last
