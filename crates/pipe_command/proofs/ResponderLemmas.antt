-- A responder goes on from call to call.
use Rattle.std.proofs.Common.{◌≡◌, ℕ, ◌+◌, ◌<◌, Bool, true, false, List, [], ◌++◌, length, refl, sym, ap, ◌∙◌, arith, subst, inl, inr, cond, append-nil, length-append}
use Rattle.std.specs.Prelude.{◌⊎◌, ◌≢◌, IsTrue, IsFalse, codes, ⊤}
use Rattle.std.proofs.lemmas.Fmt.{decimal_digit}
use Rattle.asp_messages.specs.declared.request.Message.{Message}
use Rattle.asp_messages.specs.RequestSpelling.{SpellsRequest}
use Rattle.asp_messages.specs.Stream.{HasNoMessage, IsHopeless}
use Rattle.asp_messages.proofs.RequestLemmas.{spelling_some}
use Rattle.session_machine.specs.Profiles.{newest}
use Rattle.journal_text.specs.WritingText.{journal_text}
use Rattle.keeper.specs.declared.keeping.Keeper.{Ghosts}
use Rattle.message_framing.specs.ReaderState.{ReaderState, TakesMessage, broken, fed, waiting}
use Rattle.stream_core.specs.Connection.{Connection}
use Rattle.pipe_command.specs.declared.pipe.Output.{Output}
use Rattle.pipe_command.specs.declared.pipe.Output.TheVariants as outputs
use Rattle.pipe_command.specs.declared.pipe.Pipe.{Pipe}
use Rattle.pipe_command.specs.declared.responder.Responder.{Responder}
use Rattle.pipe_command.specs.Answering.{IsAnsweredInto, owed_for}
use Rattle.pipe_command.specs.PlainRun.{output_of}
use Rattle.pipe_command.specs.PipeProgress.{Progress}
use Rattle.plain_desk.specs.DeskStands.{desk_state}
use Rattle.pipe_command.specs.Responding.{PipeGave, HasAnswered, HasAnsweredLast, IsRest, IsUnbegun, Keeps, PipeLacks, PipeWaits, PipeWent, given, owing, start_with, state_of_responder, unbegun}
use Rattle.pipe_command.proofs.ProgressLemmas.{Progress-fed, goes_on}

-- the first line of a journal from place 0
pub first_line : codes "asp-journal 3 0\n" ≡ journal_text newest 0 []
first_line =
    ap (λ (d : List ℕ). codes "asp-journal 3" ++ codes " " ++ d ++ codes "\n" ++ [])
    (sym (decimal_digit 0 (omega arith)))

-- what is no truth is false
pub not_true : (b : Bool) → (b ≡ true → ⊥) → b ≡ false
not_true true none = absurd (none refl)
not_true false none = refl

-- nothing is both
pub not_both : (b : Bool) → b ≡ false → b ≡ true → ⊥
not_both true wrong right = cc
not_both false wrong right = cc

-- where the first line was given, nothing is asked of what came before
pub begun_already : (begun journal : Bool) (bytes due : List ℕ) → IsTrue begun
    → IsUnbegun begun journal bytes due
begun_already true journal bytes due is = tt
begun_already false journal bytes due is = cc

-- ---- what is held

-- the rest of a reader that is not broken is held
pub rest_held : (reader : ReaderState) (rest : List ℕ) → IsFalse reader.is_broken
    → IsRest reader rest
    → rest ≡ reader.held
rest_held reader rest whole (inl (same, is)) = is
rest_held reader rest whole (inr (wrong, hopeless)) = cc

-- the rest of a reader that answers that it is broken can become no message
pub rest_hopeless : (reader : ReaderState) (rest : List ℕ) → IsRest reader rest
    → IsTrue reader.is_broken ⊎ IsHopeless SpellsRequest reader.held → IsHopeless SpellsRequest rest
rest_hopeless reader rest (inr (wrong, hopeless)) either = hopeless
rest_hopeless reader rest (inl (whole, is)) (inl wrong) = cc
rest_hopeless reader rest (inl (whole, is)) (inr hopeless) =
    subst (IsHopeless SpellsRequest) (sym is) hopeless

-- bytes that can become no message have none in front
pub hopeless_none : (rest : List ℕ) → IsHopeless SpellsRequest rest
    → HasNoMessage SpellsRequest rest
hopeless_none rest hopeless front back m is s = hopeless [] front back m (append-nil rest ∙ is) s

-- where no message is whole in what is held, the rest has none in front
pub rest_waits : (reader : ReaderState) (rest : List ℕ) → IsRest reader rest
    → (IsFalse reader.is_broken → HasNoMessage SpellsRequest reader.held)
    → HasNoMessage SpellsRequest rest
rest_waits reader rest (inl (whole, is)) none =
    subst (HasNoMessage SpellsRequest) (sym is) (none whole)
rest_waits reader rest (inr (wrong, hopeless)) none = hopeless_none rest hopeless

-- what is held that was fed a piece
pub fed_held : (old new : ReaderState) (piece : List ℕ) → new ≡ fed old piece
    → IsFalse old.is_broken
    → new.held ≡ old.held ++ piece
fed_held old new piece is whole =
    ap (λ (h : ReaderState). h.held) is ∙ ap (λ b. cond b [] (old.held ++ piece)) whole

-- a reader that waits has the same rest
pub waiting_rest : (old new : ReaderState) (rest : List ℕ) → new ≡ waiting old → IsRest old rest
    → IsRest new rest
waiting_rest old new rest is rested = subst (λ (h : ReaderState). IsRest h rest) (sym is) rested

-- one that is broken has a rest that can become no message
pub broken_rest : (new : ReaderState) (rest : List ℕ) → new ≡ broken → IsHopeless SpellsRequest rest
    → IsRest new rest
broken_rest new rest is hopeless =
    inr (ap (λ (h : ReaderState). h.is_broken) is, hopeless)

-- one that was fed a piece has a longer rest
pub fed_rest : (old new : ReaderState) (rest piece : List ℕ) → new ≡ fed old piece
    → IsFalse old.is_broken → IsRest old rest → IsRest new (rest ++ piece)
fed_rest old new rest piece is whole rested =
    inl (
      ap (λ (h : ReaderState). h.is_broken) is ∙ whole,
      ap (λ r. r ++ piece) (rest_held old rest whole rested)
          ∙ sym (fed_held old new piece is whole),
    )

-- ---- one call

module _ {K : Type 0} (G : Ghosts K) (first : Responder K) where
  -- the rest has another name, and what is due is another list
  pub same_rest : (now : Responder K) (bytes rest rest' due due' : List ℕ) → rest ≡ rest'
      → due ≡ due'
      → HasAnswered G first now bytes rest due → HasAnswered G first now bytes rest' due'
  same_rest now bytes rest rest' due due' is same has =
      subst (λ d. HasAnswered G first now bytes rest' d) same
      (subst (λ r. HasAnswered G first now bytes r due) is has)

  -- what was due, where the first line was given before
  pub owed_of : (now : Responder K) (bytes rest due : List ℕ) → IsTrue now.is_begun
      → HasAnswered G first now bytes rest (owing now.is_begun due)
      → HasAnswered G first now bytes rest due
  owed_of now bytes rest due begun has =
      same_rest now bytes rest rest (owing now.is_begun due) due refl (ap (λ b. owing b due) begun)
      has

  -- the same, of a responder whose settings, items and clock are the same
  pub of_same : (old new : Responder K) (bytes rest due : List ℕ) → new.pipe ≡ old.pipe
      → new.desk ≡ old.desk → new.clock ≡ old.clock → HasAnswered G first old bytes rest due
      → HasAnswered G first new bytes rest due
  of_same old new bytes rest due pipe desk clock has = record {
    pipe = pipe ∙ has.pipe;
    floor = ap (λ d. G.floor d.keeper) desk ∙ has.floor;
    tells = λ none. ap (λ d. G.told d.keeper) desk ∙ has.tells none;
    progress =
        subst (λ d. Progress G.can_count (start_with G first) bytes due (record {
          held = rest;
          desk = desk_state G d;
          clock = new.clock;
        })) (sym desk)
        (subst (λ c. Progress G.can_count (start_with G first) bytes due (record {
          held = rest;
          desk = desk_state G old.desk;
          clock = c;
        })) (sym clock) has.progress);
  }

  -- a piece more
  pub has_fed : (now : Responder K) (bytes rest due piece : List ℕ)
      → HasAnswered G first now bytes rest due
      → HasAnswered G first now (bytes ++ piece) (rest ++ piece) due
  has_fed now bytes rest due piece has = record {
    pipe = has.pipe;
    floor = has.floor;
    tells = has.tells;
    progress = Progress-fed G.can_count (start_with G first) bytes due piece
        (record (state_of_responder G now) { held = rest }) has.progress;
  }

  -- a message was taken from the front of the rest, and answered
  module _ (old mid new : Responder K) (bytes rest due front : List ℕ) (m : Message)
      (has : HasAnswered G first old bytes rest due)
      (pipe : mid.pipe ≡ old.pipe) (desk : mid.desk ≡ old.desk) (clock : mid.clock ≡ old.clock)
      (parts : rest ≡ front ++ mid.stream.reader.held) (spells : SpellsRequest front m)
      (keeps : Keeps G mid new)
    where
      before : HasAnswered G first mid bytes (front ++ new.stream.reader.held) due
      before = same_rest mid bytes rest (front ++ new.stream.reader.held) due due
          (parts ∙ ap (λ (h : ReaderState). front ++ h.held) (sym keeps.reader)) refl
          (of_same old mid bytes rest due pipe desk clock has)

      pub has_answered : (Gives : List ℕ → Type 0)
          (one : IsAnsweredInto G.can_count (output_of mid.pipe.journal) Gives m
          (state_of_responder G mid)
          (state_of_responder G new))
          → HasAnsweredLast G first new bytes new.stream.reader.held due
          (owed_for (output_of mid.pipe.journal) m one.answer (G.count new.desk.keeper))
      has_answered Gives = subst (λ (p : Pipe).
          (one : IsAnsweredInto G.can_count (output_of p.journal) Gives m (state_of_responder G mid)
          (state_of_responder G new))
          → HasAnsweredLast G first new bytes new.stream.reader.held due
          (owed_for (output_of p.journal) m one.answer (G.count new.desk.keeper)))
          (sym before.pipe)
          (λ one. record {
            pipe = keeps.pipe ∙ before.pipe;
            floor = keeps.floor ∙ before.floor;
            tells = λ none. keeps.tells (before.tells none);
            progress =
                goes_on G.can_count (start_with G first) bytes due front Gives (state_of_responder G mid)
                (state_of_responder G new)
                m one spells before.progress;
          })

      -- there was no memory for it, or for its line
      pub lacks_line : IsTrue mid.pipe.journal
          → (new ≡ mid)
          ⊎ IsAnsweredInto G.can_count outputs.Journal (λ due. ⊤) m (state_of_responder G mid)
          (state_of_responder G new)
          → PipeLacks G first new bytes due
      lacks_line journal (inl same) = (
        rest,
        inl (of_same mid new bytes rest due (ap (λ (r : Responder K). r.pipe) same)
            (ap (λ (r : Responder K). r.desk) same) (ap (λ (r : Responder K). r.clock) same)
            (of_same old mid bytes rest due pipe desk clock has)),
      )
      lacks_line journal (inr one) =
          let is : output_of mid.pipe.journal ≡ outputs.Journal = ap output_of journal in (
            new.stream.reader.held,
            inr (
              ap (λ (p : Pipe). p.journal) (sym before.pipe) ∙ journal,
              (
                owed_for outputs.Journal m one.answer (G.count new.desk.keeper),
                by_output outputs.Journal is one,
              ),
            ),
          )
        where
          by_output : (output : Output) → output_of mid.pipe.journal ≡ output
              → (one : IsAnsweredInto G.can_count output (λ due. ⊤) m (state_of_responder G mid)
              (state_of_responder G new))
              → HasAnsweredLast G first new bytes new.stream.reader.held due
              (owed_for output m one.answer (G.count new.desk.keeper))
          by_output output is = subst (λ (o : Output).
              (one : IsAnsweredInto G.can_count o (λ due. ⊤) m (state_of_responder G mid)
              (state_of_responder G new))
              → HasAnsweredLast G first new bytes new.stream.reader.held due
              (owed_for o m one.answer (G.count new.desk.keeper))) is
              (has_answered (λ due. ⊤))

  -- nothing was answered for want of memory
  pub lacks_all : (now : Responder K) (bytes rest due : List ℕ)
      → HasAnswered G first now bytes rest due
      → PipeLacks G first now bytes due
  lacks_all now bytes rest due has = (rest, inl has)

  -- the parts of what is due are forgotten
  pub whole_of : (now : Responder K) (bytes rest whole last : List ℕ)
      → HasAnsweredLast G first now bytes rest whole last
      → HasAnswered G first now bytes rest (whole ++ last)
  whole_of now bytes rest whole last has =
      record {
        pipe = has.pipe;
        floor = has.floor;
        tells = has.tells;
        progress = has.progress.progress;
      }

  -- what is due with the first line, where that was given before
  pub owed : (now : Responder K) (bytes rest due : List ℕ) → IsTrue now.is_begun
      → HasAnswered G first now bytes rest due
      → HasAnswered G first now bytes rest (owing now.is_begun due)
  owed now bytes rest due begun has =
      same_rest now bytes rest rest due (owing now.is_begun due) refl
      (sym (ap (λ b. owing b due) begun)) has

  -- ---- one step

  module _ (old : Responder K) (taken : Connection) (new : Responder K) (bytes due : List ℕ)
      (m : Message) (went : PipeWent G first old bytes due) (begun : IsTrue old.is_begun)
      (whole : IsTrue old.stream.reader.is_broken → ⊥)
      (took : TakesMessage SpellsRequest old.stream.reader taken.reader m)
      (keeps : Keeps G (record old { stream = taken }) new)
    where
      parts_of : IsFalse old.stream.reader.is_broken × (went.0 ≡ took.front ++ taken.reader.held)
      parts_of = of went.1
        where
          of : IsRest old.stream.reader went.0
              → IsFalse old.stream.reader.is_broken × (went.0 ≡ took.front ++ taken.reader.held)
          of (inl (sound, is)) = (sound, is ∙ took.held)
          of (inr (wrong, hopeless)) = absurd (whole wrong)

      has_before : HasAnswered G first old bytes went.0 due
      has_before = owed_of old bytes went.0 due begun went.2

      -- a message was answered
      pub step_did : IsAnsweredInto G.can_count (output_of old.pipe.journal)
          (λ due. given new ≡ due) m
          (state_of_responder G (record old { stream = taken })) (state_of_responder G new)
          → PipeWent G first new bytes (due ++ given new)
          × PipeGave G first new bytes due (given new)
      step_did one =
          let all = has_answered old (record old { stream = taken }) new bytes went.0 due took.front
          m
          has_before refl refl refl parts_of.1 took.spells keeps (λ due. given new ≡ due) one in
          let same : HasAnsweredLast G first new bytes new.stream.reader.held due (given new) =
          subst (λ d. HasAnsweredLast G first new bytes new.stream.reader.held due d)
          (sym one.gives) all in
          let sound : IsFalse new.stream.reader.is_broken =
          ap (λ (h : ReaderState). h.is_broken) keeps.reader ∙ took.whole ∙ parts_of.0 in (
            (
              new.stream.reader.held,
              inl (sound, refl),
              owed new bytes new.stream.reader.held (due ++ given new) (keeps.is_begun ∙ begun)
                  (whole_of new bytes new.stream.reader.held due (given new) same),
              begun_already new.is_begun first.pipe.journal bytes (due ++ given new)
                  (keeps.is_begun ∙ begun),
            ),
            (new.stream.reader.held, inl same),
          )

      -- there was no memory to answer it, or for its line
      pub step_lacks : IsTrue old.pipe.journal
          → (new ≡ record old { stream = taken })
          ⊎ IsAnsweredInto G.can_count outputs.Journal (λ due. ⊤) m
          (state_of_responder G (record old { stream = taken })) (state_of_responder G new)
          → PipeLacks G first new bytes due
      step_lacks journal either =
          lacks_line old (record old { stream = taken }) new bytes went.0 due took.front m
          has_before refl refl refl parts_of.1 took.spells keeps journal either

  -- the first line of a journal is given
  pub begin_did : (old new : Responder K) (bytes due : List ℕ) → new.pipe ≡ old.pipe
      → new.desk ≡ old.desk → new.clock ≡ old.clock → new.stream ≡ old.stream
      → IsFalse old.is_begun → IsTrue new.is_begun → given new ≡ journal_text newest 0 [] ++ []
      → PipeWent G first old bytes due
      → PipeWent G first new bytes (due ++ given new) × PipeGave G first new bytes due (given new)
  begin_did old new bytes due pipe desk clock stream owes begun gives (rest, is, has, none) =
      let first_line = gives ∙ append-nil (journal_text newest 0 []) in
      let (journal, no_bytes, no_due) =
      subst (λ b. IsUnbegun b first.pipe.journal bytes due) owes none in
      let line : due ++ journal_text newest 0 [] ≡ due ++ given new =
      ap (λ l. due ++ l) (sym first_line) in
      let now : HasAnswered G first new bytes rest (due ++ given new) =
      of_same old new bytes rest (due ++ given new) pipe desk clock
      (same_rest old bytes rest rest (owing old.is_begun due) (due ++ given new) refl
      (ap (λ b. owing b due) owes ∙ line) has) in (
        (
          rest,
          subst (λ (s : Connection). IsRest s.reader rest) (sym stream) is,
          owed new bytes rest (due ++ given new) begun now,
          begun_already new.is_begun first.pipe.journal bytes (due ++ given new) begun,
        ),
        (rest, inr (now, (journal, no_bytes, no_due, first_line))),
      )

  -- ---- the calls of the loop

  module _ (old new : Responder K) (bytes due : List ℕ) (pipe : new.pipe ≡ old.pipe)
      (desk : new.desk ≡ old.desk) (clock : new.clock ≡ old.clock)
      (went : PipeWent G first old bytes due)
    where
      -- nothing changed but the bytes held
      has_now : IsTrue old.is_begun → HasAnswered G first new bytes went.0 due
      has_now begun = of_same old new bytes went.0 due pipe desk clock
          (owed_of old bytes went.0 due begun went.2)

      -- a piece was fed
      pub feed_went : (piece : List ℕ) → PipeWaits true old → new.is_begun ≡ old.is_begun
          → new.stream.reader ≡ fed old.stream.reader piece
          → PipeWent G first new (bytes ++ piece) due
      feed_went piece waits begun is = (
        went.0 ++ piece,
        fed_rest old.stream.reader new.stream.reader went.0 piece is (waits.whole refl) went.1,
        owed new (bytes ++ piece) (went.0 ++ piece) due (begun ∙ waits.is_begun)
            (has_fed new bytes went.0 due piece (has_now waits.is_begun)),
        begun_already new.is_begun first.pipe.journal (bytes ++ piece) due (begun ∙ waits.is_begun),
      )

      -- there was no memory for a piece
      pub feed_lacks : (piece : List ℕ) → PipeWaits true old
          → PipeLacks G first new (bytes ++ piece) due
      feed_lacks piece waits =
          lacks_all new (bytes ++ piece) (went.0 ++ piece) due
          (has_fed new bytes went.0 due piece (has_now waits.is_begun))

      -- no message is whole
      pub step_waits : IsTrue old.is_begun → new.is_begun ≡ old.is_begun
          → new.stream.reader ≡ waiting old.stream.reader → PipeWent G first new bytes due
      step_waits begun same is = (
        went.0,
        waiting_rest old.stream.reader new.stream.reader went.0 is went.1,
        owed new bytes went.0 due (same ∙ begun) (has_now begun),
        begun_already new.is_begun first.pipe.journal bytes due (same ∙ begun),
      )

      -- there was no memory for a message
      pub step_lacks_all : IsTrue old.is_begun → PipeLacks G first new bytes due
      step_lacks_all begun = lacks_all new bytes went.0 due (has_now begun)

      module _ (hopeless : IsTrue old.stream.reader.is_broken
          ⊎ IsHopeless SpellsRequest old.stream.reader.held) (begun : IsTrue old.is_begun)
        where
          -- the bytes can become no message, and no more may follow
          pub step_broken : new.is_begun ≡ old.is_begun → new.stream.reader ≡ broken
              → PipeWent G first new bytes due
          step_broken same is = (
            went.0,
            broken_rest new.stream.reader went.0 is
                (rest_hopeless old.stream.reader went.0 went.1 hopeless),
            owed new bytes went.0 due (same ∙ begun) (has_now begun),
            begun_already new.is_begun first.pipe.journal bytes due (same ∙ begun),
          )

          -- or more could follow
          pub step_breaks : (rest : List ℕ) × IsHopeless SpellsRequest rest
              × HasAnswered G first new bytes rest due
          step_breaks =
              (went.0, rest_hopeless old.stream.reader went.0 went.1 hopeless, has_now begun)

      -- the input ended behind a message
      pub finish_whole : PipeWaits true old → old.stream.reader.held ≡ []
          → HasAnswered G first new bytes [] due
      finish_whole waits none =
          same_rest new bytes went.0 [] due due
          (rest_held old.stream.reader went.0 (waits.whole refl) went.1 ∙ none) refl
          (has_now waits.is_begun)

      -- or inside one
      pub finish_broken : PipeWaits true old → (old.stream.reader.held ≡ [] → ⊥)
          → (rest : List ℕ) × (rest ≢ []) × HasNoMessage SpellsRequest rest
          × HasAnswered G first new bytes rest due
      finish_broken waits some =
          let is = rest_held old.stream.reader went.0 (waits.whole refl) went.1 in (
            went.0,
            (λ none. some (sym is ∙ none)),
            rest_waits old.stream.reader went.0 went.1 waits.none,
            has_now waits.is_begun,
          )

-- a message that was taken makes fewer bytes
pub step_smaller : {K : Type 0} (G : Ghosts K) (old : Responder K) (taken : Connection)
    (new : Responder K) (m : Message)
    → TakesMessage SpellsRequest old.stream.reader taken.reader m
    → Keeps G (record old { stream = taken }) new
    → length new.stream.reader.held + unbegun new.is_begun
    < length old.stream.reader.held + unbegun old.is_begun
step_smaller G old taken new m took keeps =
    let held = ap (λ (h : ReaderState). length h.held) keeps.reader in
    let begun = ap unbegun keeps.is_begun in
    omega (
      arith,
      held,
      begun,
      spelling_some took.front m took.spells,
      ap length took.held,
      length-append took.front taken.reader.held,
    )
