use Rattle.journal_text.proofs.ItemLemmas.{updates-Sets}
use Rattle.journal_text.proofs.judging.history_state.expire.Goals as goal

pub returns-clause-expired : goal.returns-clause-expired
returns-clause-expired c = (
  c.has_expired.ensures.yes c.if-not-has_expired.false,
  updates-Sets c.args.items.now c.remove.new.self c.args.key.now _ c.remove.ensures.updates,
)
