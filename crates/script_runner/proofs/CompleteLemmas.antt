-- A run of a script, where nothing fails, runs it all.
use Rattle.std.proofs.Common.{◌≡◌, ℕ, ◌<◌, List, [], ◌∷◌, ◌++◌, length, Option, Some, None, refl, sym, ap, ◌∙◌, arith, subst, inl, inr, append_assoc, append-nil, length-append}
use Rattle.std.specs.Prelude.{◌⊎◌, ◌≢◌}
use Rattle.std.proofs.lemmas.List.Elements.{All-head, All-tail}
use Rattle.plain_words.specs.Words.{HasNo}
use Rattle.plain_words.proofs.SplitLemmas.{split_one}
use Rattle.session_machine.specs.declared.item.Item.{Item}
use Rattle.page_script.specs.declared.line.Line.{Line}
use Rattle.page_script.specs.Lines.{line_text, IsScriptLine}
use Rattle.page_script.specs.World.{World, world_from, Leads}
use Rattle.page_script.proofs.ReadingLemmas.{one_line_each, line_feed_nowhere}
use Rattle.script_runner.specs.declared.script_verdict.ScriptVerdict.TheVariants as verdicts
use Rattle.command_loop.specs.declared.ending.RunEnd.TheVariants as ends
use Rattle.command_loop.specs.Flow.{flow}
use Rattle.script_runner.specs.Drive.{DriveStart, ScriptEnd, script_text, AreScriptLines, BeginsNoScript, IsUnfinished, IsDrive, IsScript, TellsScript, TellsFewer, status_of_script}
use Rattle.script_runner.proofs.NameLemmas.{names, names_after, names-step, MayStandNext-same, MayStandNext-of_step}

heads : (a b : ℕ) (xs ys : List ℕ) → a ∷ xs ≡ b ∷ ys → (a ≡ b) × (xs ≡ ys)
heads a b xs ys e = (cc, cc)

nothing_front : (a b : List ℕ) → a ++ b ≡ [] → a ≡ []
nothing_front [] b none = refl
nothing_front (x ∷ a) b none = cc

-- a front with a line feed in it is not empty
some_front : (text behind more : List ℕ) → (text ++ 10 ∷ behind) ++ more ≡ [] → ⊥
some_front text behind more none =
    omega (
      arith,
      length-append text (10 ∷ behind),
      ap length
          (nothing_front (text ++ 10 ∷ behind) more none),
    )

-- a front without a line feed is no longer than the text before the first one
front_short : (rest more text tail : List ℕ) → rest ++ more ≡ text ++ 10 ∷ tail
    → length text < length rest → HasNo 10 rest → ⊥
front_short [] more text tail e less none = omega (arith, less)
front_short (r ∷ rest) more [] tail e less none =
    All-head (λ b. b ≢ 10) r rest none (heads r 10 (rest ++ more) tail e).0
front_short (r ∷ rest) more (t ∷ text) tail e less none =
    front_short rest more text tail (heads r t (rest ++ more) (text ++ 10 ∷ tail) e).1
    (omega (arith, less)) (All-tail (λ b. b ≢ 10) r rest none)

-- ---- what is left of a script behind lines that it begins with

-- Lines that spell the bytes left, and that lead on from a world with the same names.
record Left (world : World) (bytes : List ℕ) : Type 0 where
  script : List Line
  from : World
  to : World
  output : List ℕ
  spelled : bytes ≡ script_text script
  are_lines : AreScriptLines script
  leads : Leads from script to output
  same : names world ≡ names from

cons_text : (line : Line) (script : List Line) (rest more : List ℕ)
    → (script_text (line ∷ script) ++ rest) ++ more ≡ line_text
    line ++ 10 ∷ ((script_text script ++ rest) ++ more)
cons_text line script rest more =
    ap (λ t. t ++ more) (append_assoc (line_text line) (10 ∷ script_text script) rest)
    ∙ append_assoc (line_text line) (10 ∷ (script_text script ++ rest)) more

left_of : (done all : List Line) (rest more : List ℕ) (a b world last : World)
    (output others : List ℕ)
    → (script_text done ++ rest) ++ more ≡ script_text all → AreScriptLines done
    → AreScriptLines all
    → Leads a done world output → Leads b all last others → names a ≡ names b
    → Left world (rest ++ more)
left_of [] all rest more a b world last output others is done_lines all_lines leads follow same =
    record {
      script = all;
      from = b;
      to = last;
      output = others;
      spelled = is;
      are_lines = all_lines;
      leads = follow;
      same = ap names leads.0 ∙ same;
    }
left_of (l ∷ done) [] rest more a b world last output others is done_lines all_lines leads follow
    same =
    absurd (omega (
      arith,
      ap length (sym (cons_text l done rest more)
          ∙ is),
      length-append (line_text l) (10 ∷ ((script_text done ++ rest) ++ more)),
    ))
left_of (l ∷ done) (n ∷ all) rest more a b world last output others is done_lines all_lines leads
    follow same =
    let parts =
    split_one 10 (line_text l) ((script_text done ++ rest) ++ more) (line_text n)
    (script_text all) (line_feed_nowhere (line_text l) l done_lines.0)
    (line_feed_nowhere (line_text n) n all_lines.0) (sym (cons_text l done rest more)
    ∙ is) in
    let one : l ≡ n =
    one_line_each (line_text n) l n (subst (λ t. IsScriptLine t l) parts.0 done_lines.0)
    all_lines.0 in
    left_of done all rest more leads.0 follow.0 world last leads.2 follow.2 parts.1 done_lines.1
    all_lines.1 leads.4 follow.4
    (names-step a l leads.0 leads.1 leads.3 ∙ ap (λ ns. names_after ns l) same
    ∙ ap (names_after (names b)) one ∙ sym (names-step b n follow.0 follow.1 follow.3))

-- a rest whose first line is wrong begins no lines that could follow
wrong_left : (world from to : World) (rest more : List ℕ) (script : List Line) (output : List ℕ)
    → BeginsNoScript world rest → rest ++ more ≡ script_text script
    → AreScriptLines script → Leads from script to output → names world ≡ names from → ⊥
wrong_left world from to rest more [] output wrong is lines leads same =
    some_front wrong.text wrong.behind more (ap (λ t. t ++ more) (sym wrong.split.joined) ∙ is)
wrong_left world from to rest more (line ∷ script) output wrong is lines leads same =
    let parts =
    split_one 10 wrong.text (wrong.behind ++ more) (line_text line) (script_text script)
    wrong.split.first (line_feed_nowhere (line_text line) line lines.0)
    (sym (append_assoc wrong.text (10 ∷ wrong.behind) more)
    ∙ ap (λ t. t ++ more) (sym wrong.split.joined) ∙ is) in
    wrong.none line (subst (λ t. IsScriptLine t line) (sym parts.0) lines.0)
    (MayStandNext-same from world line (sym same)
    (MayStandNext-of_step from line leads.0 leads.1 leads.3))

-- nor does one that is longer than a line, or that nothing follows
unfinished_left : (new : List ℕ × List ℕ) (rest : List ℕ) (script : List Line)
    → IsUnfinished (Some new) rest → rest ++ new.1 ≡ script_text script → AreScriptLines script → ⊥
unfinished_left new rest [] (unseen, inl long) is lines =
    omega (arith, long, ap length (nothing_front rest new.1 is))
unfinished_left new rest [] (unseen, inr end) is lines = end.0 (nothing_front rest new.1 is)
unfinished_left new rest (line ∷ script) (unseen, inl long) is lines =
    front_short rest new.1 (line_text line) (script_text script) is
    (omega (arith, long, lines.0.short)) unseen
unfinished_left new rest (line ∷ script) (unseen, inr end) is lines =
    let whole : rest ≡ line_text line ++ 10 ∷ script_text script =
    sym (append-nil rest) ∙ ap (λ m. rest ++ m) (sym end.1) ∙ is in
    front_short rest new.1 (line_text line) (script_text script) is
    (omega (arith, ap length whole, length-append (line_text line) (10 ∷ script_text script)))
    unseen

-- ---- runs

module _ (CanCount : ℕ → Type 0) (start : DriveStart) (sink sink' : Option (List ℕ))
    (told : Option (List ℕ → Option Item)) (faults : ℕ) where
  left_of_run : (old new : List ℕ
      × List ℕ) (end : ScriptEnd)
      (run : IsDrive CanCount start (flow (Some old) (Some new) sink sink')
      told faults end) → IsScript old.1 → Left run.world (run.rest ++ new.1)
  left_of_run old new end run script =
      left_of run.script script.1 run.rest new.1 (world_from start.opening)
      (world_from script.0) run.world script.2 run.output script.3
      (ap (λ t. t ++ new.1) (sym run.spelled) ∙ sym run.given.1
      ∙ script.4) run.lines script.5 run.run script.6 refl

  broken_script : (source source' : Option (List ℕ × List ℕ))
      → IsDrive CanCount start (flow source source' sink sink') told faults
      (ends.Over verdicts.Broken) → TellsScript source → ⊥
  broken_script None source' run script = script
  broken_script (Some old) None run script = absurd run.given
  broken_script (Some old) (Some new) run script =
      let left = left_of_run old new (ends.Over verdicts.Broken) run script in
      elim run.ends.0 [
        | inl wrong ↦ wrong_left run.world left.from left.to run.rest new.1 left.script left.output
            wrong left.spelled left.are_lines left.leads left.same
        | inr unseen ↦ unfinished_left new run.rest left.script unseen.0 left.spelled left.are_lines
      ]

  long_input : (source source' : Option (List ℕ × List ℕ))
      → IsDrive CanCount start (flow source source' sink sink') told faults ends.Long
      → TellsFewer source start.most → ⊥
  long_input None source' run fewer = fewer
  long_input (Some old) None run fewer = absurd run.given
  long_input (Some old) (Some new) run fewer =
      omega (arith, run.ends.1, fewer, ap length run.given.1, length-append run.bytes new.1)

  -- status 3 is given to no script
  pub no_script : (source source' : Option (List ℕ × List ℕ)) (end : ScriptEnd)
      → IsDrive CanCount start (flow source source' sink sink') told faults end
      → status_of_script end ≡ 3 → TellsScript source → ⊥
  no_script source source' (ends.Over verdicts.Whole) run is script = omega (arith, is)
  no_script source source' (ends.Over verdicts.Broken) run is script =
      broken_script source source' run script
  no_script source source' ends.ReadFault run is script = omega (arith, is)
  no_script source source' ends.WriteFault run is script = omega (arith, is)
  no_script source source' ends.NoMemory run is script = omega (arith, is)
  no_script source source' ends.Long run is script = omega (arith, is)

  pub complete_run : (source source' : Option (List ℕ × List ℕ)) (end : ScriptEnd)
      → IsDrive CanCount start (flow source source' sink sink') told faults end → TellsScript source
      → TellsFewer source start.most
      → (end ≡ ends.ReadFault → ⊥) → (end ≡ ends.WriteFault → ⊥) → (status_of_script end ≡ 0)
      ⊎ (status_of_script end ≡ 6)
  complete_run source source' (ends.Over verdicts.Whole) run script fewer read write = inl refl
  complete_run source source' (ends.Over verdicts.Broken) run script fewer read write =
      absurd (broken_script source source' run script)
  complete_run source source' ends.ReadFault run script fewer read write = absurd (read refl)
  complete_run source source' ends.WriteFault run script fewer read write = absurd (write refl)
  complete_run source source' ends.NoMemory run script fewer read write = inr refl
  complete_run source source' ends.Long run script fewer read write =
      absurd (long_input source source' run fewer)
