use Rattle.plain_words.proofs.NumberLemmas.{decimal_word}
use Rattle.plain_words.proofs.ByteStringLemmas.{string_word}
use Rattle.plain_words.proofs.laws.words.Goals as goal

pub returns-clause-numbers : goal.returns-clause-numbers
returns-clause-numbers c = decimal_word

pub returns-clause-byte_strings : goal.returns-clause-byte_strings
returns-clause-byte_strings c = string_word
