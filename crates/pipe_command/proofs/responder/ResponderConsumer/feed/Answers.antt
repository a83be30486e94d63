use Rattle.std.proofs.Common.{Result, Ok, Err, ap, refl}
use Rattle.std.specs.Prelude.{OnOk, OnErr}
use Rattle.stream_core.specs.Connection.{Connection}
use Rattle.pipe_command.proofs.ResponderLemmas.{feed_lacks, feed_went}
use Rattle.pipe_command.proofs.responder.ResponderConsumer.feed.Goals as goal

on_ok : {T E : Type 0} {P Q : Type 0} (r : Result T E) → OnOk r P → (P → Q) → OnOk r Q
on_ok (Ok x) on follows = follows on
on_ok (Err e) on follows = tt

on_err : {T E : Type 0} {P Q : Type 0} (r : Result T E) → OnErr r P → (P → Q) → OnErr r Q
on_err (Ok x) on follows = tt
on_err (Err e) on follows = follows on

pub returns-clause-ok : goal.returns-clause-ok
returns-clause-ok g c = on_ok c.take.result c.take.ensures.ok (λ is first taken due went.
    feed_went g.K.Keeper first c.args.self.now _ taken due refl refl refl went c.args.piece.now
    c.requires.waits refl (ap (λ (s : Connection). s.reader) is))

pub returns-clause-err : goal.returns-clause-err
returns-clause-err g c = on_err c.take.result c.take.ensures.err (λ same first taken due went.
    feed_lacks g.K.Keeper first c.args.self.now _ taken due refl refl refl went c.args.piece.now
    c.requires.waits)
