use Rattle.std.proofs.Common.{◌∙◌, subst}
use Rattle.std.specs.Prelude.{IsTrue}
use Rattle.sqlite.specs.Held.{state}
use Rattle.sqlite_keeper.proofs.CallLemmas.{cookies_stay, put_by, put_cookies}
use Rattle.sqlite_keeper.proofs.KeepLemmas.{rests_stays}
use Rattle.sqlite_keeper.proofs.items.put_item.Goals as goal
use Rattle.sqlite_keeper.proofs.items.put_item.Goals.{in-Ok, in-Err}

pub returns-clause-told : goal.returns-clause-told
returns-clause-told g c = elim c.match-get_item.branch [
  | in-Ok w ↦ λ rests opened.
      let old = state g.S.Store c.args.connection.now in
      let mid = state g.S.Store c.get_item.new.connection in
      let now = subst (λ k. IsTrue (state g.S.Store k).is_open) w.connection-is opened in
      let before = w.write_item.ensures.opened now in
      let s = c.get_item.ensures.same rests.0 before in
      let r = rests_stays old mid rests s in
      let done = put_by old mid (state g.S.Store w.write_item.new.connection) c.args.key.now
      c.args.item.now w.write_item.result c.requires.key c.requires.item rests s
      (c.learn_keys.ensures s.was_open rests.0 rests.1) (w.in-Ok.ensures.checked rests before)
      (w.write_item.ensures.puts r.0 now r.1) in
      rw (w.result-is, w.connection-is) done
  | in-Err w ↦ λ rests opened. rw w.result-is tt
]

pub returns-clause-cookies : goal.returns-clause-cookies
returns-clause-cookies g c = elim c.match-get_item.branch [
  | in-Ok w ↦ λ rests opened.
      let old = state g.S.Store c.args.connection.now in
      let mid = state g.S.Store c.get_item.new.connection in
      let now = subst (λ k. IsTrue (state g.S.Store k).is_open) w.connection-is opened in
      let before = w.write_item.ensures.opened now in
      let s = c.get_item.ensures.same rests.0 before in
      let r = rests_stays old mid rests s in
      let done = put_cookies _ mid (state g.S.Store w.write_item.new.connection)
      w.write_item.result (w.write_item.ensures.puts r.0 now r.1)
      (w.write_item.ensures.same r.0 now) ∙ cookies_stay old mid s in
      rw w.connection-is done
  | in-Err w ↦ λ rests opened.
      let now = subst (λ k. IsTrue (state g.S.Store k).is_open) w.connection-is opened in
      let done = cookies_stay (state g.S.Store c.args.connection.now)
      (state g.S.Store c.get_item.new.connection) (c.get_item.ensures.same rests.0 now) in
      rw w.connection-is done
]
