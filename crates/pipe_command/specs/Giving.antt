-- What was given last, in two parts.
use Rattle.std.specs.Prelude.{ℕ, List, []}
use Rattle.asp_messages.specs.ReplyText.{body_of}
use Rattle.session_machine.specs.Profiles.{newest}
use Rattle.journal_text.specs.WritingText.{journal_text}
use Rattle.pipe_command.specs.declared.responder.Given.{Given}
use Rattle.pipe_command.specs.declared.responder.Given.TheVariants as givens

-- the head of a reply, or a line
abbrev pub given_head : Given → List ℕ → List ℕ
given_head givens.Nothing line = []
given_head givens.FirstLine line = journal_text newest 0 []
given_head (givens.Reply head reply) line = head
given_head givens.Line line = line

-- the content of a reply
abbrev pub given_body : Given → List ℕ
given_body givens.Nothing = []
given_body givens.FirstLine = []
given_body (givens.Reply head reply) = body_of reply
given_body givens.Line = []
