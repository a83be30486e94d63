use Rattle.std.proofs.Common.{◌≡◌, ◌+◌, Option, Some, None, arith, refl, sym, ◌∙◌, ap, subst}
use Rattle.std.specs.Prelude.{IfNone}
use Rattle.session_machine.specs.declared.entry.Entry.{Entry}
use Rattle.state_mirror.specs.Ordering.{HasOrdered}
use Rattle.state_mirror.proofs.OrderLemmas.{drained, step_fails, step_goes}
use Rattle.state_mirror.proofs.order.Order.drain.Goals as goal

none_of : (r : Option Entry) → ((e : Entry) → r ≡ Some e → ⊥) → r ≡ None
none_of None apart = refl
none_of (Some e) apart = absurd (apart e refl)

pub places-init : goal.places-init
places-init g c = record {
  writes = λ sink handed writing. writing;
  stop = c.requires.goes_on;
  place = c.requires.place;
  first = refl;
  faults = omega arith;
}

pub places-preserved : goal.places-preserved
places-preserved g c =
    let kept = c.places.invariant in
    let took = c.take_next.ensures.same in
    let same = c.write_owned.ensures.same in
    let first = same.0 ∙ ap (λ x. x.first) took in
    let next = c.in-Ok.ensures.next ∙ ap (λ x. x.next + 1) took in
    let later = c.write_owned.ensures.later in
    let sink = ap (λ x. g.T.Sink.faults x.sink) took in
    record {
      writes = λ sink handed before.
          step_goes g.T.Sink.taken sink handed c.places.self c.take_next.new.self
          c.write_owned.new.self c.in-Some.entry (kept.writes sink handed before)
          c.in-Some.ensures.found took same.0 c.take_next.ensures.later same.1
          c.in-Ok.ensures.next c.in-Ok.ensures.ok;
      stop = same.2 ∙ ap (λ x. x.stop) took ∙ kept.stop;
      place = let le = kept.place in omega (arith, first, next, le);
      first = first ∙ kept.first;
      faults = let le = kept.faults in omega (arith, later, sink, le);
    }

pub returns-in-Err-clause-drained : goal.returns-in-Err-clause-drained
returns-in-Err-clause-drained g c = λ sink handed before.
    step_fails g.T.Sink.taken sink handed c.places.self c.take_next.new.self
    c.write_owned.new.self c.in-Some.entry (c.places.invariant.writes sink handed before)
    c.in-Some.ensures.found c.take_next.ensures.same c.write_owned.ensures.same.0
    c.in-Err.ensures.err

pub returns-clause-drained : goal.returns-clause-drained
returns-clause-drained g c = λ sink handed before.
    let none = none_of c.take_next.result c.in_default.not-Some in
    let same = subst (λ r. IfNone r (c.take_next.new.self ≡ c.places.self)) none
    c.take_next.ensures.none in
    subst (HasOrdered g.T.Sink.taken sink handed) (sym same)
    (drained g.T.Sink.taken sink handed c.places.self
    (c.places.invariant.writes sink handed before) c.places.invariant.stop
    (sym c.take_next.ensures.found ∙ none))
