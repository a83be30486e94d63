use Rattle.std.proofs.Common.{◌≡◌, ◌++◌, List, ℕ, length, drop, sym, ap, ◌∙◌, arith, subst, length-drop, length-append}
use Rattle.std.specs.List.{slice_range}
use Rattle.plain_words.specs.Words.{HasNo}
use Rattle.held_lines.proofs.HeldLemmas.{sought_compacted}
use Rattle.held_lines.proofs.held_lines.HeldLines.feed.Goals as goal

pub invariant_of-self-2 : goal.invariant_of-self-2
invariant_of-self-2 c =
    let xs = c.self.inside.bytes.items in
    let s = c.self.inside.start in
    let m = c.self.inside.searched in
    let inv = c.self.invariant in
    let piece = c.args.piece.now in
    let items : c.extend_from_slice.new.self.items ≡ drop s xs ++ piece =
    c.in_ok-extend_from_slice.ensures.items ∙ ap (λ l. l ++ piece) c.compact.ensures.bytes in
    let start = c.compact.ensures.start in
    let sought = c.compact.ensures.searched in
    let kept = sought_compacted xs piece s m inv.0 inv.1 inv.2 in
    let l = length-drop s xs in
    let whole = ap length items ∙ length-append (drop s xs) piece in (
      omega (arith, start),
      omega (arith, inv.0, inv.1, sought, l, whole),
      subst (λ (l : List ℕ). HasNo 10 (slice_range l c.compact.new.start c.compact.new.searched))
          (sym items)
          (subst (λ i. HasNo 10 (slice_range (drop s xs ++ piece) i c.compact.new.searched))
          (sym start)
          (subst (λ j. HasNo 10 (slice_range (drop s xs ++ piece) 0 j)) (sym sought) kept)),
    )
