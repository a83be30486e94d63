-- Bytes that hold no line feed stay in a line.
use Rattle.std.proofs.Common.{◌≡◌, ◌≢◌, ℕ, suc, ◌+◌, ◌-◌, ◌<◌, ◌≤◌, ◌==◌, false, List, [], ◌∷◌, length, take, drop, slice_index, Option, Some, None, refl, sym, ap, ◌∙◌, arith, length-take}
use Rattle.std.proofs.lemmas.Bool.Decides.{nat_tests}
use Rattle.std.proofs.lemmas.List.{get_or-take, get_or-drop, take_more}
use Rattle.std.proofs.Math.Seq.{take-add}
use Rattle.asp_base.specs.Places.{HasNone, IsFirstPlace}
use Rattle.message_framing.specs.declared.head.Phase.{Phase}
use Rattle.message_framing.specs.declared.head.Phase.TheVariants.{Blank, Line, Feed}
use Rattle.message_framing.specs.HeadEnd.{after, phase_after}
use Rattle.message_framing.proofs.EndLemmas.{phase_after-more, phase_after-one}
use Rattle.message_framing.proofs.SectionLemmas.{one-line}

-- no line feed in a run of bytes
line_stays : (xs : List ℕ) → ((k : ℕ) → k < length xs → slice_index xs k ≢ 10)
    → phase_after Line xs ≡ Some Line
line_stays [] none = refl
line_stays (x ∷ xs) none =
    let other : x ≢ 10 = none 0 (omega arith) in
    let test : (x == 10) ≡ false = grind (arith, nat_tests) in
    ap (λ o. elim o as (λ _. Option Phase) [ None ↦ None | Some n ↦ phase_after n xs ])
    (one-line x test)
    ∙ line_stays xs (λ k below. none (suc k) (omega arith))

module _ (bytes : List ℕ) (at : ℕ) (so : phase_after Blank (take at bytes) ≡ Some Line) where
  -- none from this place on and before that one
  pub still_in_line : (to : ℕ) → at ≤ to → to ≤ length bytes → HasNone 10 bytes at to
      → phase_after Blank (take to bytes) ≡ Some Line
  still_in_line to low high none =
      let run = take (to - at) (drop at bytes) in
      let sum : to ≡ at + (to - at) = omega arith in
      let stays : phase_after Line run ≡ Some Line = line_stays run (λ k below is.
      let within : k < to - at = omega (arith, length-take (to - at) (drop at bytes)) in
      none (at + k) (omega arith) (omega arith)
      (sym (get_or-take (to - at) (drop at bytes) k 0 within ∙ get_or-drop at bytes k 0) ∙ is)) in
      ap (λ n. phase_after Blank (take n bytes)) sum
      ∙ ap (phase_after Blank) (take-add at (to - at) bytes)
      ∙ phase_after-more Blank Line (take at bytes) run so ∙ stays

  -- the first one ends the line
  pub line_ends : (to place : ℕ) → to ≤ length bytes → IsFirstPlace 10 bytes at to place
      → phase_after Blank (take (place + 1) bytes) ≡ Some Feed
  line_ends to place high is =
      let within : place < length bytes = omega (arith, is.before) in
      let before = still_in_line place is.from (omega arith) is.first in
      ap (phase_after Blank) (take_more bytes place 0 within)
      ∙ phase_after-one Blank Line (take place bytes) (slice_index bytes place) before
      ∙ ap (after Line) is.at
