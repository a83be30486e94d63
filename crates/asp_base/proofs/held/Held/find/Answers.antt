use Rattle.std.proofs.Common.{◌+◌, ◌-◌, take, drop, ap}
use Rattle.asp_base.proofs.PlaceLemmas.{has_none_at_all, is_first}
use Rattle.asp_base.proofs.held.Held.find.Goals as goal

pub returns-in-Some-clause-place : goal.returns-in-Some-clause-place
returns-in-Some-clause-place g c =
    let s = c.self.inside.start in
    let i = c.args.from in
    let hay_is = ap (λ l. take (s + c.args.to - (s + i)) (drop (s + i) l)) c.deref.ensures.value in
    is_first c.self.inside.bytes.items c.args.self.now _ s i c.args.to c.args.byte c.self.view_is
    hay_is c.requires.from c.requires.to c.in-Some.passed c.in-Some.ensures.0 c.in-Some.ensures.1

pub returns-in-None-clause-place : goal.returns-in-None-clause-place
returns-in-None-clause-place g c =
    let s = c.self.inside.start in
    let i = c.args.from in
    let hay_is = ap (λ l. take (s + c.args.to - (s + i)) (drop (s + i) l)) c.deref.ensures.value in
    has_none_at_all c.self.inside.bytes.items c.args.self.now _ s i c.args.to c.args.byte
    c.self.view_is hay_is c.requires.from c.requires.to c.in-None.ensures
