use Rattle.std.proofs.Common.{map, take, sym, ap, ◌∙◌}
use Rattle.httparse.specs.Spans.{header_bytes}
use Rattle.asp_base.specs.Text.{is_same_name}
use Rattle.asp_messages.specs.Fields.{once}
use Rattle.message_framing.specs.Standings.{standing_of, one_more_value}
use Rattle.message_framing.proofs.FieldLemmas.{found-next, other-next}
use Rattle.message_framing.proofs.head.find_field.Goals.{then-same_name, else-same_name}
use Rattle.message_framing.proofs.head.find_field.Goals as goal

pub loop-header-preserved : goal.loop-header-preserved
loop-header-preserved c = elim c.if-same_name.branch [
  | then-same_name w ↦
      let same = found-next c.args.buf.now c.args.name.now c.args.headers.now
      c.loop-header.header-index _ c.loop-header-test.true
      (ap (λ n. is_same_name n c.args.name.now) (sym c.of.ensures) ∙ sym w.if-same_name.ensures) in
      ap standing_of w.found-is ∙ w.with_value-found.ensures
      ∙ ap (λ s. one_more_value s c.of-value.result.now) c.loop-header.invariant
      ∙ ap (λ v. one_more_value (once (map (header_bytes c.args.buf.now)
      (take c.loop-header.header-index c.args.headers.now)) c.args.name.now) v)
      c.of-value.ensures ∙ sym same
  | else-same_name w ↦
      let other = other-next c.args.buf.now c.args.name.now c.args.headers.now
      c.loop-header.header-index _ c.loop-header-test.true
      (ap (λ n. is_same_name n c.args.name.now) (sym c.of.ensures) ∙ sym w.if-same_name.ensures) in
      ap standing_of w.found-is ∙ c.loop-header.invariant ∙ sym other
]
