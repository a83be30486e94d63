use Rattle.session_id.specs.Identifiers.{digit_of, digits, number}
use Rattle.std.proofs.Common.{map}
use Rattle.session_id.proofs.IdentifierLemmas.{is_text-characters, same_group, same_id, same_text, IsTextOf-digits, IsTextOf-text_of}
use Rattle.session_id.proofs.id.correspondence.Goals as goal

pub returns-clause-characters : goal.returns-clause-characters
returns-clause-characters c text = is_text-characters text

pub returns-clause-text_of_each : goal.returns-clause-text_of_each
returns-clause-text_of_each c id ok = IsTextOf-text_of id ok

pub returns-clause-id_of_each : goal.returns-clause-id_of_each
returns-clause-id_of_each c text ok = (
  digits 256 15 (number 32 (map digit_of text)),
  IsTextOf-digits text ok,
)

pub returns-clause-one_text : goal.returns-clause-one_text
returns-clause-one_text c id text h = same_text id text h

pub returns-clause-one_id : goal.returns-clause-one_id
returns-clause-one_id c a b text ha hb = same_id a b text ha hb

pub returns-clause-groups : goal.returns-clause-groups
returns-clause-groups c id text h k lt = same_group id text h k lt
