-- A run of whole messages, where nothing fails, answers them all.
use Rattle.std.proofs.Common.{◌≡◌, ℕ, List, [], ◌∷◌, ◌++◌, length, Option, Some, None, refl, sym, ap, ◌∙◌, arith, subst, inl, inr, append_assoc, append-nil}
use Rattle.std.specs.Prelude.{◌⊎◌, ◌≢◌, Bool, IsTrue}
use Rattle.asp_messages.specs.declared.request.Message.{Message}
use Rattle.asp_messages.specs.RequestSpelling.{SpellsRequest}
use Rattle.asp_messages.specs.Stream.{Spelled, HasNoMessage, IsHopeless}
use Rattle.asp_messages.proofs.RequestLemmas.{spelling_some, SpellsRequest-unique}
use Rattle.keeper.specs.declared.keeping.Keeper as keepers
use Rattle.stream_core.specs.Whole.{IsWholeInput}
use Rattle.command_loop.specs.declared.ending.RunEnd.TheVariants as ends
use Rattle.command_loop.specs.Ending.{IfFewer, RunIsComplete}
use Rattle.command_loop.specs.Flow.{Flow}
use Rattle.pipe_command.specs.declared.pipe.PipeVerdict.TheVariants as verdicts
use Rattle.pipe_command.specs.declared.responder.Responder.{Responder}
use Rattle.pipe_command.specs.Responding.{PipeBreaks, PipeCloses, HasAnswered}
use Rattle.pipe_command.specs.PipeRun.{PipeEnd, status_of_pipe}
use Rattle.pipe_command.proofs.EndingLemmas.{ghosts, hopeless_some}

nothing_front : (a b : List ℕ) → a ++ b ≡ [] → a ≡ []
nothing_front [] b none = refl
nothing_front (x ∷ a) b none = cc

-- where bytes and more are whole messages, so is what is left behind the messages that the bytes
-- begin with
rest_whole : (bytes rest more : List ℕ) (ms all : List Message)
    → Spelled SpellsRequest bytes ms rest → Spelled SpellsRequest (bytes ++ more) all []
    → (left : List Message) × Spelled SpellsRequest (rest ++ more) left []
rest_whole bytes rest more [] all is whole =
    (all, subst (λ t. Spelled SpellsRequest (t ++ more) all []) is whole)
rest_whole bytes rest more (m ∷ ms) [] (front, back, is, one, others) whole =
    let empty =
    nothing_front front (back ++ more) (sym (append_assoc front back more)
    ∙ ap (λ t. t ++ more) (sym is) ∙ whole) in
    absurd (omega (arith, spelling_some front m one, ap length empty))
rest_whole bytes rest more (m ∷ ms) (n ∷ ns) (front, back, is, one, others)
    (front', back', is', other, behind) =
    let same =
    SpellsRequest-unique (bytes ++ more) front (back ++ more) front' back' m n
    (ap (λ t. t ++ more) is ∙ append_assoc front back more) one is' other in
    rest_whole back rest more ms ns others
    (subst (λ t. Spelled SpellsRequest t ns []) (sym same.1) behind)

-- a rest with no message in front is no whole messages
ended_whole : (rest : List ℕ) (left : List Message) → rest ≢ [] → HasNoMessage SpellsRequest rest
    → Spelled SpellsRequest (rest ++ []) left [] → ⊥
ended_whole rest [] some none whole = some (nothing_front rest [] whole)
ended_whole rest (m ∷ ms) some none (front, back, is, one, others) =
    none front back m (sym (append-nil rest) ∙ is) one

-- nor is a hopeless one a front of them
hopeless_whole : (rest more : List ℕ) (left : List Message) → IsHopeless SpellsRequest rest
    → Spelled SpellsRequest (rest ++ more) left [] → ⊥
hopeless_whole rest more [] hopeless whole =
    hopeless_some rest hopeless (nothing_front rest more whole)
hopeless_whole rest more (m ∷ ms) hopeless (front, back, is, one, others) =
    hopeless more front back m is one

-- ---- what the loop's clause says of an input that is told

module _ {K : Type 0} (G : keepers.Ghosts K) (most : ℕ) (first now : Responder K) (f : Flow) where
  -- a front of whole messages that was answered, and more behind it
  left_whole : (front more rest due : List ℕ) (all : List Message)
      → HasAnswered G first now front rest due → Spelled SpellsRequest (front ++ more) all []
      → (left : List Message) × Spelled SpellsRequest (rest ++ more) left []
  left_whole front more rest due all has whole =
      rest_whole front rest more has.progress.messages all has.progress.spelled whole

  broken_whole : (input whole last : List ℕ) (all : List Message)
      → PipeCloses G verdicts.Broken first now input whole last
      ⊎ ((front : List ℕ) × (behind : List ℕ) × (more : Bool) × (input ≡ front ++ behind)
      × (IsTrue more × PipeBreaks G verdicts.Broken first now front whole last))
      → Spelled SpellsRequest input all [] → ⊥
  broken_whole input whole last all (inl (closing, (rest, some, none, has))) spelled =
      let left = left_whole input [] rest whole all has
      (subst (λ t. Spelled SpellsRequest t all []) (sym (append-nil input)) spelled) in
      ended_whole rest left.0 some none left.1
  broken_whole input whole last all (inr (front, behind, more, is, breaks)) spelled =
      let (is_more, (closing, (rest, hopeless, has))) = breaks in
      let left = left_whole front behind rest whole all has
      (subst (λ t. Spelled SpellsRequest t all []) is spelled) in
      hopeless_whole rest behind left.0 hopeless left.1

  pub complete_run : (told : Option (List ℕ × List ℕ)) (end : PipeEnd)
      → IfFewer told most (RunIsComplete (ghosts G) first now f end) → IsWholeInput told most
      → (status_of_pipe end ≡ 0) ⊎ (status_of_pipe end ≡ 6)
  complete_run None end complete input = absurd input
  complete_run (Some told) (ends.Over verdicts.Whole) complete input = inl refl
  complete_run (Some told) (ends.Over verdicts.Broken) complete input =
      let (whole, last, over, wrote) = complete input.0 in
      absurd (broken_whole told.1 whole last input.1.0 over input.1.1)
  complete_run (Some told) ends.NoMemory complete input = inr refl
  complete_run (Some told) ends.ReadFault complete input = absurd (complete input.0)
  complete_run (Some told) ends.WriteFault complete input = absurd (complete input.0)
  complete_run (Some told) ends.Long complete input = absurd (complete input.0)
