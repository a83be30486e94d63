use Rattle.std.proofs.Common.{◌≡◌, None, ap, sym, rules, ◌∙◌}
use Rattle.journal_text.specs.ReadingText.{JournalReading}
use Rattle.state_mirror.proofs.MirrorLemmas.{first_mirrored}
use Rattle.state_mirror.proofs.mirror.Mirror.feed.Goals as goal

pub returns-in-Some-begin-clause-mirrored : goal.returns-in-Some-begin-clause-mirrored
returns-in-Some-begin-clause-mirrored c =
    let inside = c.self.inside in
    let fed : c.feed.new.self.begun ≡ inside.reader.begun =
    ap (λ (r : JournalReading). r.begun) c.in_ok-feed.ensures.ok in
    let begun : c.feed.new.self.begun ≡ None = search rules in
    let places = c.in-Some-begin.ensures.place in
    first_mirrored inside.reader inside.checker inside.may_feed c.args.self.now c.self.view_is
    c.feed.new.self c.begin.new.reader c.begin.new.checker c.args.piece.now c.in-Some-begin.place
    (sym fed ∙ begun) c.in_ok-feed.ensures.reads c.in-Some-begin.ensures.reads
    places.1 places.3
