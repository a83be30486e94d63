use Rattle.asp_messages.proofs.TargetLemmas.{percent_encode_is}
use Rattle.asp_messages.proofs.request_text.push_target.Goals as goal

pub returns-clause-ok : goal.returns-clause-ok
returns-clause-ok c = rw (
  ← percent_encode_is c.args.key.now,
  ← c.as_slice.ensures,
  ←
      c.percent_encode.ensures.text,
) c.push_encoded.ensures.ok
