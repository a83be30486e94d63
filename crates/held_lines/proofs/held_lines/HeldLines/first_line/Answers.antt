use Rattle.std.proofs.Common.{◌≡◌, ◌<◌, ◌+◌, ◌-◌, List, ℕ, length, take, drop, sym, ap, ◌∙◌, arith, subst, length-drop}
use Rattle.std.proofs.lemmas.List.{take_rest}
use Rattle.plain_words.specs.Words.{HasNo, SplitsAt}
use Rattle.held_lines.proofs.HeldLemmas.{sought_upto, sought_all, none_held, found}
use Rattle.held_lines.proofs.held_lines.HeldLines.first_line.Goals as goal

pub invariant_of-self : goal.invariant_of-self
invariant_of-self c =
    let xs = c.self.inside.bytes.items in
    let s = c.self.inside.start in
    let m = c.self.inside.searched in
    let inv = c.self.invariant in
    let hay = take (length c.deref.result.now - m) (drop m c.deref.result.now) in
    let hay_is : hay ≡ drop m xs = take_rest c.deref.result.now m
    ∙ ap (drop m) c.deref.ensures.value in
    let first = c.in-Some.ensures in
    let below = first.0.high in
    let len = ap length hay_is ∙ length-drop m xs in (
      omega (arith, inv.0),
      omega (arith, inv.1, below, len),
      sought_upto xs s m hay inv.0 inv.1 inv.2 hay_is c.in-Some.place (omega (arith, below))
          first.0.before,
    )

pub invariant_of-self-in-None : goal.invariant_of-self-in-None
invariant_of-self-in-None c =
    let xs = c.self.inside.bytes.items in
    let s = c.self.inside.start in
    let m = c.self.inside.searched in
    let inv = c.self.invariant in
    let text = c.deref.ensures.value in
    let hay = take (length c.deref.result.now - m) (drop m c.deref.result.now) in
    let hay_is : hay ≡ drop m xs = take_rest c.deref.result.now m ∙ ap (drop m) text in
    let whole : c.len-self-inside.result ≡ length xs = c.len-self-inside.ensures
    ∙ sym c.deref.ensures.len ∙ ap length text in (
      omega (arith, inv.0, inv.1, whole),
      omega (arith, whole),
      sought_all xs s m hay inv.0 inv.1 inv.2 hay_is c.len-self-inside.result whole
          c.in-None.ensures,
    )

pub returns-in-Some-clause-line : goal.returns-in-Some-clause-line
returns-in-Some-clause-line c =
    let xs = c.self.inside.bytes.items in
    let s = c.self.inside.start in
    let m = c.self.inside.searched in
    let inv = c.self.invariant in
    let hay = take (length c.deref.result.now - m) (drop m c.deref.result.now) in
    let hay_is : hay ≡ drop m xs = take_rest c.deref.result.now m
    ∙ ap (drop m) c.deref.ensures.value in
    let first = c.in-Some.ensures in
    let n = m + c.in-Some.place - s in
    subst (λ (held : List ℕ). (n < length held)
    × SplitsAt 10 held (take n held) (drop (n + 1) held)) c.self.view_is
    (found xs s m hay inv.0 inv.1 inv.2 hay_is c.in-Some.place first.0.high first.0.before first.1)

pub returns-in-None-clause-line : goal.returns-in-None-clause-line
returns-in-None-clause-line c =
    let xs = c.self.inside.bytes.items in
    let s = c.self.inside.start in
    let m = c.self.inside.searched in
    let inv = c.self.invariant in
    let hay = take (length c.deref.result.now - m) (drop m c.deref.result.now) in
    let hay_is : hay ≡ drop m xs = take_rest c.deref.result.now m
    ∙ ap (drop m) c.deref.ensures.value in
    subst (HasNo 10) c.self.view_is (none_held xs s m hay inv.0 inv.1 inv.2 hay_is
    c.in-None.ensures)
