use Rattle.std.proofs.Common.{ap, drop}
use Rattle.std.proofs.lemmas.Fmt.{decimal_injective}
use Rattle.plain_words.proofs.ByteStringLemmas.{string_injective}
use Rattle.plain_words.proofs.SplitLemmas.{split_same}
use Rattle.plain_words.proofs.laws.one_spelling.Goals as goal

pub returns-clause-numbers : goal.returns-clause-numbers
returns-clause-numbers c = decimal_injective

pub returns-clause-byte_strings : goal.returns-clause-byte_strings
returns-clause-byte_strings c = λ a b ha hb e. string_injective a b ha hb (ap (drop 1) e)

pub returns-clause-splits : goal.returns-clause-splits
returns-clause-splits c = split_same
