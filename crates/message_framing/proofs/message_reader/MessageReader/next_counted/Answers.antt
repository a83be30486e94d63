use Rattle.std.proofs.Common.{◌≡◌, ◌⊎◌, inl, inr, sym, ap, subst, ◌∙◌, arith, length, Bool, true, false, IsTrue}
use Rattle.asp_messages.specs.Stream.{HasNoMessage, IsHopeless}
use Rattle.message_framing.specs.ReaderState.{CountedReader}
use Rattle.message_framing.specs.Framed.{Framed, LooksWithin, looks_of, is_broken_state}
use Rattle.message_framing.proofs.ReaderLemmas.{stands-looks, if-found, is-false, either-way, spelled-none, spelled-hopeless, spelled-taken}
use Rattle.message_framing.proofs.message_reader.MessageReader.next_counted.Goals as goal

pub returns-then-matches-clause-none_whole : goal.returns-then-matches-clause-none_whole
returns-then-matches-clause-none_whole g c = λ is.
    let kind = g.K.MessageKind in
    let laws = g.met.K.MessageKind in
    let whole : is_broken_state c.read.new.state ≡ false =
    is-false (is_broken_state c.read.new.state)
    (λ broken. let clash = sym is ∙ (c.give-found.ensures.stays broken).0 in cc) in
    let bytes : c.read.new.held ≡ c.args.self.now.bytes.held =
    c.in-Ok.ensures.same whole ∙ ap (λ (r : CountedReader). r.bytes.held) c.self.view_is in
    subst (HasNoMessage kind.Spells) bytes
    (spelled-none kind.Means kind.Spells laws.spelled c.read.new.held
    (c.give-found.ensures.none_whole is))

pub returns-then-matches-clause-hopeless : goal.returns-then-matches-clause-hopeless
returns-then-matches-clause-hopeless g c = λ is.
    let kind = g.K.MessageKind in
    let laws = g.met.K.MessageKind in
    let bytes = c.args.self.now.bytes.held in
    let answer : Type 0 = (IsTrue c.args.self.now.bytes.is_broken) ⊎ IsHopeless kind.Spells bytes in
    let seen : c.self.inside.held ≡ bytes =
    ap (λ (r : CountedReader). r.bytes.held) c.self.view_is in
    let spelled = spelled-hopeless kind.Means kind.Spells laws.spelled bytes in
    either-way (is_broken_state c.read.new.state) answer
    (λ broken. elim (c.in-Ok.ensures.hopeless broken) as (λ _. answer) [
      | inl was ↦ inl (ap (λ (r : CountedReader). r.bytes.is_broken) (sym c.self.view_is)
          ∙ sym c.look.ensures.broken ∙ was)
      | inr none ↦ inr (spelled (subst (IsHopeless (Framed kind.Means)) seen none))
    ])
    (λ whole. elim (c.give-found.ensures.hopeless is) as (λ _. answer) [
      | inl was ↦ (let clash : ◌≡◌ {A = Bool} false true = sym whole ∙ was in cc)
      | inr none ↦ inr (spelled (subst (IsHopeless (Framed kind.Means))
          (c.in-Ok.ensures.same whole ∙ seen) none))
    ])

pub returns-then-matches-clause-looks : goal.returns-then-matches-clause-looks
returns-then-matches-clause-looks g c =
    let kind = g.K.MessageKind in
    let old = c.self.inside.state in
    let within : LooksWithin c.args.self.now
    (record {
      bytes = record {
        held = c.give-found.new.held;
        is_broken = is_broken_state c.give-found.new.state;
        may_feed =
            true;
      };
      looks = looks_of c.give-found.new.state;
    }) =
    record {
      held = λ whole. stands-looks kind.IsHead kind.Means kind.filled c.give-found.new.state
          c.give-found.new.held c.give-found.ensures.stands whole;
      broke = λ whole _.
          let whole_then : is_broken_state c.look.new.state ≡ false = c.look.ensures.broken
          ∙ ap (λ (r : CountedReader). r.bytes.is_broken) c.self.view_is ∙ whole in
          let bytes : c.self.inside.held ≡ c.args.self.now.bytes.held =
          ap (λ (r : CountedReader). r.bytes.held) c.self.view_is in
          omega (
            arith,
            c.give-found.ensures.less,
            c.in-Ok.ensures.within whole_then,
            ap length
                bytes,
          );
      stays = λ broken.
          let broken_then : is_broken_state old ≡ true =
          ap (λ (r : CountedReader). r.bytes.is_broken) c.self.view_is ∙ broken in
          let look_same = c.look.ensures.stays broken_then in
          let broken_looked : is_broken_state c.look.new.state ≡ true = c.look.ensures.broken
          ∙ broken_then in
          let read_same = c.read.ensures.stays broken_looked in
          let broken_read : is_broken_state c.read.new.state ≡ true = ap is_broken_state read_same.1
          ∙ broken_looked in
          (c.give-found.ensures.stays broken_read).1 ∙ ap looks_of read_same.1
          ∙ ap looks_of look_same ∙ ap (λ (r : CountedReader). r.looks) c.self.view_is;
    } in
    within

pub returns-else-matches-clause-counted : goal.returns-else-matches-clause-counted
returns-else-matches-clause-counted g c =
    let kind = g.K.MessageKind in
    let held = c.self.inside.held in
    let seen : held ≡ c.args.self.now.bytes.held =
    ap (λ (r : CountedReader). r.bytes.held) c.self.view_is in
    let looks_seen : looks_of c.self.inside.state ≡ c.args.self.now.looks =
    ap (λ (r : CountedReader). r.looks) c.self.view_is in
    if-found c.give-found.result _ _ c.give-found.ensures.message (λ m found.
    let gives = found.0 in
    let looked_whole : is_broken_state c.look.new.state ≡ false =
    is-false (is_broken_state c.look.new.state)
    (λ broken. let clash : ◌≡◌ {A = Bool} false true = sym gives.whole
    ∙ ap is_broken_state (c.read.ensures.stays broken).1 ∙ broken in cc) in
    record {
      text = gives.text;
      body = gives.body;
      means = gives.means;
      held = sym (c.in-Ok.ensures.same gives.whole ∙ seen) ∙ gives.held;
      whole = ap is_broken_state found.1 ∙ sym looked_whole ∙ c.look.ensures.broken
          ∙ ap (λ (r : CountedReader). r.bytes.is_broken) c.self.view_is;
      counted = omega (
        arith,
        gives.looks,
        c.look.ensures.steps,
        c.read.ensures.steps,
        c.look.ensures.rises,
        c.read.ensures.rises,
      );
      forgotten = ap looks_of found.1;
    })

pub returns-else-matches-clause-message : goal.returns-else-matches-clause-message
returns-else-matches-clause-message g c =
    let kind = g.K.MessageKind in
    let laws = g.met.K.MessageKind in
    if-found c.give-found.result _ _ (returns-else-matches-clause-counted g c)
    (λ m took. spelled-taken kind.Means kind.Spells laws.spells _ _ _ m took)
