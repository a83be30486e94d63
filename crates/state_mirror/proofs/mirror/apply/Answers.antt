use Rattle.state_mirror.proofs.MirrorLemmas.{passes_begun, passes_counted, passes_further}
use Rattle.state_mirror.proofs.mirror.apply.Goals as goal

pub returns-clause-further : goal.returns-clause-further
returns-clause-further c =
    passes_further c.args.entry c.args.reader.now c.pass.new.self
    (c.pass.ensures.takes c.args.entry c.requires.entry)

pub returns-clause-counted : goal.returns-clause-counted
returns-clause-counted c =
    passes_counted c.args.entry c.args.reader.now c.pass.new.self
    (c.pass.ensures.takes c.args.entry c.requires.entry)

pub returns-clause-begun : goal.returns-clause-begun
returns-clause-begun c =
    passes_begun c.args.entry c.args.reader.now c.pass.new.self
    (c.pass.ensures.takes c.args.entry c.requires.entry)
