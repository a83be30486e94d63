use Rattle.std.proofs.Common.{◌≡◌, ◌≤◌, ◌+◌, take, sym, ap, ◌∙◌, arith, ◌∷◌, ◌++◌, [], get_or, Some}
use Rattle.std.proofs.lemmas.List.{take_more}
use Rattle.message_framing.specs.declared.head.Phase.TheVariants.{Blank, Line}
use Rattle.message_framing.specs.HeadEnd.{phase_after}
use Rattle.message_framing.proofs.EndLemmas.{phase_after-one}
use Rattle.message_framing.proofs.LineLemmas.{still_in_line, line_ends}
use Rattle.message_framing.proofs.head.look_once.Goals as goal

pub returns-in-Some-clause-looks : goal.returns-in-Some-clause-looks
returns-in-Some-clause-looks g c =
    let held = c.args.held.now in
    let found = c.in-Some.ensures.place in
    let so : phase_after Blank (take c.args.at held) ≡ Some Line =
    c.requires.seen ∙ ap Some c.in-Line.is
    in (
      record {
        within = omega (arith, found.before, c.requires.end);
        short = omega (arith, found.before, c.requires.room);
        seen_so = line_ends held c.args.at so c.args.end c.in-Some.place c.requires.end found;
      },
      omega (arith, c.in-Some.ensures.steps, found.from),
      omega (arith, found.from),
      omega (arith, found.before),
    )

pub returns-in-None-clause-looks : goal.returns-in-None-clause-looks
returns-in-None-clause-looks g c =
    let held = c.args.held.now in
    let low : c.args.at ≤ c.args.end = omega arith in
    let so : phase_after Blank (take c.args.at held) ≡ Some Line =
    c.requires.seen ∙ ap Some c.in-Line.is
    in (
      record {
        within = c.requires.end;
        short = c.requires.room;
        seen_so = still_in_line held c.args.at so c.args.end low c.requires.end
            c.in-None.ensures.place;
      },
      omega (arith, c.in-None.ensures.steps, c.requires.at),
      c.requires.at,
      omega arith,
    )

pub returns-in-Some-after-clause-looks : goal.returns-in-Some-after-clause-looks
returns-in-Some-after-clause-looks g c =
    let held = c.args.held.now in
    let at = c.args.at in
    let byte : get_or held at 0 ≡ c.look-byte.result = sym c.look-byte.ensures.byte in
    let more : take (at + 1) held ≡ take at held ++ c.look-byte.result ∷ [] =
    take_more held at 0 (omega arith) ∙ ap (λ b. take at held ++ b ∷ []) byte in (
      record {
        within = omega (arith, c.requires.at, c.requires.end);
        short = omega (arith, c.requires.at, c.requires.room);
        seen_so = ap (phase_after Blank) more ∙ phase_after-one Blank c.args.phase (take at held)
            c.look-byte.result c.requires.seen ∙ sym c.after.ensures ∙ c.in-Some-after.is;
      },
      omega (arith, c.look-byte.ensures.steps),
      omega arith,
      omega (arith, c.requires.at),
    )

pub returns-in-None-after-clause-looks : goal.returns-in-None-after-clause-looks
returns-in-None-after-clause-looks g c =
    let held = c.args.held.now in
    let at = c.args.at in
    let byte : get_or held at 0 ≡ c.look-byte.result = sym c.look-byte.ensures.byte in
    let more : take (at + 1) held ≡ take at held ++ c.look-byte.result ∷ [] =
    take_more held at 0 (omega arith) ∙ ap (λ b. take at held ++ b ∷ []) byte in (
      record {
        within = omega (arith, c.requires.at, c.requires.end);
        short = omega (arith, c.requires.at, c.requires.room);
        ends = record {
          front = take at held;
          phase = c.args.phase;
          last = c.look-byte.result;
          bytes_are = more;
          open_before = c.requires.seen;
          ends = sym c.after.ensures ∙ c.in-None-after.is;
        };
      },
      omega (arith, c.look-byte.ensures.steps),
    )
