use Rattle.std.proofs.Common.{◌≡◌, ℕ, List, ◌<◌, ◌++◌, ◌∷◌, [], length, length-append, Result, Ok, Err, Some, None, refl, sym, subst, arith}
use Rattle.std.specs.Prelude.{◌↔◌, All, OnOk, OnErr}
use Rattle.std.specs.Result.{IsOk, result_ok}
use Rattle.std.proofs.lemmas.List.Elements.{All-push}
use Rattle.visit_command.specs.ServerPorts.{IsPort, PortsFit, comma_parts, ports_of}
use Rattle.visit_command.proofs.PortLemmas.{PortsRead, cut_parts, last_part, read_full, read_last, read_next, read_wrong}
use Rattle.visit_command.proofs.server_port.read_ports.Goals as goal

-- a call that answered an error
full_of : {A E : Type 0} (r : Result A E) (P : Type 0) → None ≡ result_ok r → OnErr r P → P
full_of (Ok a) P none full = cc
full_of (Err e) P none full = full

-- a call that answered none
pushed_of : {A E : Type 0} (r : Result A E) (a : A) (P Q : Type 0) → Some a ≡ result_ok r
    → OnOk r P → IsOk r ↔ Q → P × Q
pushed_of (Ok b) a P Q some items room = (items, room.0 refl)
pushed_of (Err e) a P Q some items room = cc

fit : (ports ports' : List ℕ) (port : ℕ) → ports' ≡ ports ++ port ∷ [] → length ports < 64
    → All IsPort ports → IsPort port → PortsFit ports'
fit ports ports' port is room all one = subst PortsFit (sym is) (record {
  some = omega (arith, length-append ports (port ∷ []));
  few = omega (arith, room, length-append ports (port ∷ []));
  each = All-push IsPort ports port all one;
})

pub returns-in_err-port_of-clause-value : goal.returns-in_err-port_of-clause-value
returns-in_err-port_of-clause-value c =
    rw c.from_residual.ensures
    (read_wrong c.args.word.now c.loop-part.ports.items c.loop-part.rest.now c.in-Some.part.now
    (comma_parts c.in-Some.behind.now) c.loop-part.invariant.0
    (cut_parts c.loop-part.rest.now c.in-Some.part.now c.in-Some.behind.now c.in-Some.ensures)
    (sym c.in_err-port_of.ensures.value))

pub returns-in_err-ok-clause-value : goal.returns-in_err-ok-clause-value
returns-in_err-ok-clause-value c =
    let full = full_of c.try_push.result (length c.loop-part.ports.items ≡ 64)
    c.in_err-ok.ensures.value c.try_push.ensures.full in
    rw c.from_residual-in_err-ok.ensures
    (read_full c.args.word.now c.loop-part.ports.items c.loop-part.rest.now c.loop-part.invariant.0
    (omega (arith, full)))

pub loop-part-preserved : goal.loop-part-preserved
loop-part-preserved c =
    let made = pushed_of c.try_push.result _ (c.try_push.new.self.items
    ≡ c.loop-part.ports.items ++ c.in_ok-port_of.field-0 ∷ [])
    (length c.loop-part.ports.items < 64) c.in_ok-ok.ensures.value c.try_push.ensures.ok
    c.try_push.ensures.variant in (
      subst (λ (ps : List ℕ). PortsRead c.args.word.now ps c.in-Some.behind.now) (sym made.0)
          (read_next c.args.word.now c.loop-part.ports.items c.loop-part.rest.now
          c.in-Some.part.now c.in-Some.behind.now c.in_ok-port_of.field-0
          c.loop-part.invariant.0 c.in-Some.ensures (sym c.in_ok-port_of.ensures.value)),
      subst (All IsPort) (sym made.0)
          (All-push IsPort c.loop-part.ports.items c.in_ok-port_of.field-0
          c.loop-part.invariant.1 c.in_ok-port_of.ensures.fits),
    )

pub returns-in_err-port_of-2-clause-value : goal.returns-in_err-port_of-2-clause-value
returns-in_err-port_of-2-clause-value c =
    rw c.from_residual-in_err-port_of-2.ensures
    (read_wrong c.args.word.now c.loop-part.ports.items c.loop-part.rest.now
    c.loop-part.rest.now [] c.loop-part.invariant.0
    (last_part c.loop-part.rest.now c.in_default.ensures)
    (sym c.in_err-port_of-2.ensures.value))

pub returns-in_err-ok-2-clause-value : goal.returns-in_err-ok-2-clause-value
returns-in_err-ok-2-clause-value c =
    let full = full_of c.try_push-2.result (length c.loop-part.ports.items ≡ 64)
    c.in_err-ok-2.ensures.value c.try_push-2.ensures.full in
    rw c.from_residual-in_err-ok-2.ensures
    (read_full c.args.word.now c.loop-part.ports.items c.loop-part.rest.now c.loop-part.invariant.0
    (omega (arith, full)))

pub returns-clause-value : goal.returns-clause-value
returns-clause-value c =
    let made = pushed_of c.try_push-2.result _ (c.try_push-2.new.self.items
    ≡ c.loop-part.ports.items ++ c.in_ok-port_of-2.field-0 ∷ [])
    (length c.loop-part.ports.items < 64) c.in_ok-ok-2.ensures.value c.try_push-2.ensures.ok
    c.try_push-2.ensures.variant in
    subst (λ (ps : List ℕ). ports_of c.args.word.now ≡ Some ps) (sym made.0)
    (read_last c.args.word.now c.loop-part.ports.items c.loop-part.rest.now
    c.in_ok-port_of-2.field-0 c.loop-part.invariant.0 c.in_default.ensures
    (sym c.in_ok-port_of-2.ensures.value)
    (omega (
      arith,
      made.1,
      length-append c.loop-part.ports.items
          (c.in_ok-port_of-2.field-0 ∷ []),
    )))

pub returns-clause-fits : goal.returns-clause-fits
returns-clause-fits c =
    let made = pushed_of c.try_push-2.result _ (c.try_push-2.new.self.items
    ≡ c.loop-part.ports.items ++ c.in_ok-port_of-2.field-0 ∷ [])
    (length c.loop-part.ports.items < 64) c.in_ok-ok-2.ensures.value c.try_push-2.ensures.ok
    c.try_push-2.ensures.variant in
    fit c.loop-part.ports.items c.try_push-2.new.self.items c.in_ok-port_of-2.field-0 made.0 made.1
    c.loop-part.invariant.1 c.in_ok-port_of-2.ensures.fits
