use Rattle.state_mirror.proofs.MirrorLemmas.{journal_of, stops_of}
use Rattle.state_mirror.proofs.mirror.Mirror.finish.Goals as goal

pub returns-clause-journal : goal.returns-clause-journal
returns-clause-journal c =
    let inside = c.self.inside in
    journal_of inside.reader inside.checker inside.may_feed c.args.self.now c.self.view_is
    c.finish.result c.finish.ensures.journal

pub returns-clause-stops : goal.returns-clause-stops
returns-clause-stops c =
    let inside = c.self.inside in
    stops_of inside.reader inside.checker inside.may_feed c.args.self.now c.self.view_is
    c.finish.result c.finish.ensures.stops
