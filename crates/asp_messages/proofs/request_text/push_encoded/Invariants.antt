use Rattle.std.proofs.Common.{◌≡◌, ◌++◌}
use Rattle.percent_encoding.specs.Iter.{encoded_text}
use Rattle.asp_messages.specs.Appending.{Extends}
use Rattle.asp_messages.proofs.request_text.push_encoded.Given as goal

abbrev pub invariant-loop-piece : goal.invariant-loop-piece
invariant-loop-piece l = record {
  text : l.out.items ++ encoded_text l.piece-iterator ≡ l.fn.out.items ++ encoded_text l.fn.text;
  kept : Extends l.fn.out.items l.out.items;
}
