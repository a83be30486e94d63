use Rattle.std.proofs.Common.{◌+◌, [], refl, sym, ◌∙◌}
use Rattle.std.proofs.lemmas.List.{take_rest}
use Rattle.placement.proofs.IdentifierLemmas.{identifier_whole, identifier_last}
use Rattle.placement.proofs.servers.identifier_in.Goals as goal

pub returns-in-Some : goal.returns-in-Some
returns-in-Some c =
    take_rest c.args.key.now (c.in-Some.place + 1)
    ∙ sym (identifier_last [] c.args.key.now c.in-Some.place c.in-Some.ensures.0.high
    c.in-Some.ensures.1 c.in-Some.ensures.0.after)

pub returns-in-None : goal.returns-in-None
returns-in-None c = sym (identifier_whole [] c.args.key.now c.in-None.ensures)
