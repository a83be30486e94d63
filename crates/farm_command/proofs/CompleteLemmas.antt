-- A run of a script over a farm, where nothing fails, runs it all.
use Rattle.std.proofs.Common.{◌≡◌, ℕ, ◌<◌, List, [], ◌∷◌, ◌++◌, length, Option, Some, None, refl, sym, ap, ◌∙◌, arith, subst, inl, inr, append_assoc, append-nil, length-append}
use Rattle.std.specs.Prelude.{◌⊎◌, ◌≢◌}
use Rattle.std.proofs.lemmas.List.Elements.{All-head, All-tail}
use Rattle.command_loop.specs.declared.ending.RunEnd.TheVariants as ends
use Rattle.command_loop.specs.Flow.{flow}
use Rattle.keeper.specs.declared.keeping.Keeper.{Ghosts}
use Rattle.page_script.specs.declared.line.Line.{Line}
use Rattle.page_script.specs.Lines.{IsScriptLine, line_text}
use Rattle.page_script.proofs.ReadingLemmas.{line_feed_nowhere, one_line_each}
use Rattle.partition.specs.declared.farm_script.FarmScript.{FarmScript}
use Rattle.partition.specs.FarmStands.{servers_of}
use Rattle.partition.specs.Shares.{EachFollows, MayFollow}
use Rattle.plain_words.specs.Words.{HasNo}
use Rattle.plain_words.proofs.SplitLemmas.{split_one}
use Rattle.script_runner.specs.declared.script_verdict.ScriptVerdict.TheVariants as verdicts
use Rattle.script_runner.specs.Drive.{AreScriptLines, IsUnfinished, ScriptEnd, TellsFewer, script_text, status_of_script}
use Rattle.farm_command.specs.FarmDrive.{BeginsNoFarmLine, IsFarm, IsFarmScript, TellsFarmScript}

heads : (a b : ℕ) (xs ys : List ℕ) → a ∷ xs ≡ b ∷ ys → (a ≡ b) × (xs ≡ ys)
heads a b xs ys e = (cc, cc)

nothing_front : (a b : List ℕ) → a ++ b ≡ [] → a ≡ []
nothing_front [] b none = refl
nothing_front (x ∷ a) b none = cc

-- a front with a line feed in it is not empty
some_front : (text behind more : List ℕ) → (text ++ 10 ∷ behind) ++ more ≡ [] → ⊥
some_front text behind more none =
    omega (
      arith,
      length-append text (10 ∷ behind),
      ap length
          (nothing_front (text ++ 10 ∷ behind) more none),
    )

-- a front without a line feed is no longer than the text before the first one
front_short : (rest more text tail : List ℕ) → rest ++ more ≡ text ++ 10 ∷ tail
    → length text < length rest → HasNo 10 rest → ⊥
front_short [] more text tail e less none = omega (arith, less)
front_short (r ∷ rest) more [] tail e less none =
    All-head (λ b. b ≢ 10) r rest none (heads r 10 (rest ++ more) tail e).0
front_short (r ∷ rest) more (t ∷ text) tail e less none =
    front_short rest more text tail (heads r t (rest ++ more) (text ++ 10 ∷ tail) e).1
    (omega (arith, less)) (All-tail (λ b. b ≢ 10) r rest none)

-- ---- what is left of a script behind lines that it begins with

-- The lines behind these, which the bytes left spell.
record Left (done all : List Line) (bytes : List ℕ) : Type 0 where
  behind : List Line
  whole : all ≡ done ++ behind
  spelled : bytes ≡ script_text behind
  are_lines : AreScriptLines behind

cons_text : (line : Line) (script : List Line) (rest more : List ℕ)
    → (script_text (line ∷ script) ++ rest) ++ more ≡ line_text
    line ++ 10 ∷ ((script_text script ++ rest) ++ more)
cons_text line script rest more =
    ap (λ t. t ++ more) (append_assoc (line_text line) (10 ∷ script_text script) rest)
    ∙ append_assoc (line_text line) (10 ∷ (script_text script ++ rest)) more

left_of : (done all : List Line) (rest more : List ℕ)
    → (script_text done ++ rest) ++ more ≡ script_text all → AreScriptLines done
    → AreScriptLines all → Left done all (rest ++ more)
left_of [] all rest more is done_lines all_lines = record {
  behind = all;
  whole = refl;
  spelled = is;
  are_lines = all_lines;
}
left_of (l ∷ done) [] rest more is done_lines all_lines =
    absurd (omega (
      arith,
      ap length (sym (cons_text l done rest more) ∙ is),
      length-append (line_text l) (10 ∷ ((script_text done ++ rest) ++ more)),
    ))
left_of (l ∷ done) (n ∷ all) rest more is done_lines all_lines =
    let parts =
    split_one 10 (line_text l) ((script_text done ++ rest) ++ more) (line_text n)
    (script_text all) (line_feed_nowhere (line_text l) l done_lines.0)
    (line_feed_nowhere (line_text n) n all_lines.0) (sym (cons_text l done rest more) ∙ is) in
    let one : l ≡ n =
    one_line_each (line_text n) l n (subst (λ t. IsScriptLine t l) parts.0 done_lines.0)
    all_lines.0 in
    let left = left_of done all rest more parts.1 done_lines.1 all_lines.1 in record {
      behind = left.behind;
      whole = ap (λ (m : Line). m ∷ all) (sym one) ∙ ap (λ (s : List Line). l ∷ s) left.whole;
      spelled = left.spelled;
      are_lines = left.are_lines;
    }

module _ (n : ℕ) where
  -- a line of a script may follow those before it
  follows-at : (before done : List Line) (line : Line) (behind : List Line)
      → EachFollows n before (done ++ line ∷ behind) → MayFollow n (before ++ done) line
  follows-at before [] line behind follow =
      subst (λ (s : List Line). MayFollow n s line) (sym (append-nil before)) follow.0
  follows-at before (l ∷ done) line behind follow =
      subst (λ (s : List Line). MayFollow n s line) (append_assoc before (l ∷ []) done)
      (follows-at (before ++ l ∷ []) done line behind follow.1)

  -- a rest whose first line is wrong begins no lines that could follow
  wrong_left : (done : List Line) (rest more : List ℕ) (behind : List Line)
      → BeginsNoFarmLine n done rest → rest ++ more ≡ script_text behind
      → AreScriptLines behind → EachFollows n [] (done ++ behind) → ⊥
  wrong_left done rest more [] wrong is lines follow =
      some_front wrong.text wrong.behind more (ap (λ t. t ++ more) (sym wrong.split.joined) ∙ is)
  wrong_left done rest more (line ∷ behind) wrong is lines follow =
      let parts =
      split_one 10 wrong.text (wrong.behind ++ more) (line_text line) (script_text behind)
      wrong.split.first (line_feed_nowhere (line_text line) line lines.0)
      (sym (append_assoc wrong.text (10 ∷ wrong.behind) more)
      ∙ ap (λ t. t ++ more) (sym wrong.split.joined) ∙ is) in
      wrong.none line (subst (λ t. IsScriptLine t line) (sym parts.0) lines.0)
      (follows-at [] done line behind follow)

-- nor does one that is longer than a line, or that nothing follows
unfinished_left : (new : List ℕ × List ℕ) (rest : List ℕ) (script : List Line)
    → IsUnfinished (Some new) rest → rest ++ new.1 ≡ script_text script → AreScriptLines script → ⊥
unfinished_left new rest [] (unseen, inl long) is lines =
    omega (arith, long, ap length (nothing_front rest new.1 is))
unfinished_left new rest [] (unseen, inr end) is lines = end.0 (nothing_front rest new.1 is)
unfinished_left new rest (line ∷ script) (unseen, inl long) is lines =
    front_short rest new.1 (line_text line) (script_text script) is
    (omega (arith, long, lines.0.short)) unseen
unfinished_left new rest (line ∷ script) (unseen, inr end) is lines =
    let whole : rest ≡ line_text line ++ 10 ∷ script_text script =
    sym (append-nil rest) ∙ ap (λ m. rest ++ m) (sym end.1) ∙ is in
    front_short rest new.1 (line_text line) (script_text script) is
    (omega (arith, ap length whole, length-append (line_text line) (10 ∷ script_text script)))
    unseen

-- ---- runs

module _ {K : Type 0} (G : Ghosts K) (farm : FarmScript K) (most : ℕ)
    (sink sink' : Option (List ℕ)) where
  left_of_run : (old new : List ℕ × List ℕ) (end : ScriptEnd)
      (ran : IsFarm G farm most (flow (Some old) (Some new) sink sink') end)
      → (script : IsFarmScript (servers_of farm) old.1)
      → Left ran.run.script script.0 (ran.rest ++ new.1)
  left_of_run old new end ran script =
      left_of ran.run.script script.0 ran.rest new.1
      (ap (λ t. t ++ new.1) (sym ran.spelled) ∙ sym ran.given.1 ∙ script.1) ran.lines script.2

  broken_script : (source source' : Option (List ℕ × List ℕ))
      → IsFarm G farm most (flow source source' sink sink') (ends.Over verdicts.Broken)
      → TellsFarmScript (servers_of farm) source → ⊥
  broken_script None source' ran script = script
  broken_script (Some old) None ran script = absurd ran.given
  broken_script (Some old) (Some new) ran script =
      let left = left_of_run old new (ends.Over verdicts.Broken) ran script in
      elim ran.ends.0 [
        | inl wrong ↦ wrong_left (servers_of farm) ran.run.script ran.rest new.1 left.behind wrong
            left.spelled left.are_lines
            (subst (EachFollows (servers_of farm) []) left.whole script.3)
        | inr unseen ↦ unfinished_left new ran.rest left.behind unseen.0 left.spelled left.are_lines
      ]

  long_input : (source source' : Option (List ℕ × List ℕ))
      → IsFarm G farm most (flow source source' sink sink') ends.Long → TellsFewer source most → ⊥
  long_input None source' ran fewer = fewer
  long_input (Some old) None ran fewer = absurd ran.given
  long_input (Some old) (Some new) ran fewer =
      omega (arith, ran.ends.1, fewer, ap length ran.given.1, length-append ran.bytes new.1)

  -- status 3 is given to no script
  pub no_farm_script : (source source' : Option (List ℕ × List ℕ)) (end : ScriptEnd)
      → IsFarm G farm most (flow source source' sink sink') end
      → status_of_script end ≡ 3 → TellsFarmScript (servers_of farm) source → ⊥
  no_farm_script source source' (ends.Over verdicts.Whole) ran is script = omega (arith, is)
  no_farm_script source source' (ends.Over verdicts.Broken) ran is script =
      broken_script source source' ran script
  no_farm_script source source' ends.ReadFault ran is script = omega (arith, is)
  no_farm_script source source' ends.WriteFault ran is script = omega (arith, is)
  no_farm_script source source' ends.NoMemory ran is script = omega (arith, is)
  no_farm_script source source' ends.Long ran is script = omega (arith, is)

  pub complete_farm : (source source' : Option (List ℕ × List ℕ)) (end : ScriptEnd)
      → IsFarm G farm most (flow source source' sink sink') end
      → TellsFarmScript (servers_of farm) source → TellsFewer source most
      → (end ≡ ends.ReadFault → ⊥) → (end ≡ ends.WriteFault → ⊥) → (status_of_script end ≡ 0)
      ⊎ (status_of_script end ≡ 6)
  complete_farm source source' (ends.Over verdicts.Whole) ran script fewer read write = inl refl
  complete_farm source source' (ends.Over verdicts.Broken) ran script fewer read write =
      absurd (broken_script source source' ran script)
  complete_farm source source' ends.ReadFault ran script fewer read write = absurd (read refl)
  complete_farm source source' ends.WriteFault ran script fewer read write = absurd (write refl)
  complete_farm source source' ends.NoMemory ran script fewer read write = inr refl
  complete_farm source source' ends.Long ran script fewer read write =
      absurd (long_input source source' ran fewer)
