use Rattle.std.proofs.Common.{◌∙◌, subst}
use Rattle.std.specs.Prelude.{IsTrue}
use Rattle.sqlite.specs.Held.{state}
use Rattle.sqlite_keeper.proofs.CallLemmas.{cookies_stay, cut_by, cut_cookies, cut_rests, cut_stays}
use Rattle.sqlite_keeper.proofs.KeepLemmas.{rests_stays}
use Rattle.sqlite_keeper.proofs.items.cut_item.Goals as goal
use Rattle.sqlite_keeper.proofs.items.cut_item.Goals.{in-Ok, in-Err}

pub returns-clause-told : goal.returns-clause-told
returns-clause-told g c = elim c.match-get_item.branch [
  | in-Ok w ↦ λ rests opened.
      let old = state g.S.Store c.args.connection.now in
      let mid = state g.S.Store c.get_item.new.connection in
      let now = subst (λ k. IsTrue (state g.S.Store k).is_open) w.connection-is opened in
      let before = w.cut_row-count.ensures.opened now in
      let s = c.get_item.ensures.same rests.0 before in
      let r = rests_stays old mid rests s in
      let done = cut_by old mid (state g.S.Store w.cut_row-count.new.conn) c.args.key.now
      w.cut_row-count.result w.written.result s
      (c.learn_keys.ensures s.was_open rests.0 rests.1) (w.in-Ok.ensures.checked rests before)
      (rw w.as_slice.ensures at (w.cut_row-count.ensures.cuts r.0 now r.1)) w.written.ensures.ok
      in
      rw (w.result-is, w.connection-is) done
  | in-Err w ↦ λ rests opened. rw w.result-is tt
]

pub returns-clause-rests : goal.returns-clause-rests
returns-clause-rests g c = elim c.match-get_item.branch [
  | in-Ok w ↦ λ rests opened.
      let old = state g.S.Store c.args.connection.now in
      let mid = state g.S.Store c.get_item.new.connection in
      let now = subst (λ k. IsTrue (state g.S.Store k).is_open) w.connection-is opened in
      let before = w.cut_row-count.ensures.opened now in
      let s = c.get_item.ensures.same rests.0 before in
      let r = rests_stays old mid rests s in
      let done = cut_rests mid (state g.S.Store w.cut_row-count.new.conn) _ w.cut_row-count.result r
      (w.cut_row-count.ensures.cuts r.0 now r.1) (w.cut_row-count.ensures.same r.0 now) in
      rw w.connection-is done
  | in-Err w ↦ λ rests opened.
      let now = subst (λ k. IsTrue (state g.S.Store k).is_open) w.connection-is opened in
      let done = rests_stays (state g.S.Store c.args.connection.now)
      (state g.S.Store c.get_item.new.connection) rests (c.get_item.ensures.same rests.0 now) in
      rw w.connection-is done
]

pub returns-clause-same : goal.returns-clause-same
returns-clause-same g c = elim c.match-get_item.branch [
  | in-Ok w ↦ λ fits opened.
      let old = state g.S.Store c.args.connection.now in
      let mid = state g.S.Store c.get_item.new.connection in
      let now = subst (λ k. IsTrue (state g.S.Store k).is_open) w.connection-is opened in
      let before = w.cut_row-count.ensures.opened now in
      let s = c.get_item.ensures.same fits before in
      let done = cut_stays old mid (state g.S.Store w.cut_row-count.new.conn) w.cut_row-count.result
      w.written.result s
      (w.cut_row-count.ensures.same
      (Rattle.sqlite_keeper.proofs.KeepLemmas.known_stays old mid fits s) now)
      w.written.ensures.err in
      rw (w.result-is, w.connection-is) done
  | in-Err w ↦ λ fits opened.
      let now = subst (λ k. IsTrue (state g.S.Store k).is_open) w.connection-is opened in
      rw (w.result-is, w.connection-is) (c.get_item.ensures.same fits now)
]

pub returns-clause-cookies : goal.returns-clause-cookies
returns-clause-cookies g c = elim c.match-get_item.branch [
  | in-Ok w ↦ λ rests opened.
      let old = state g.S.Store c.args.connection.now in
      let mid = state g.S.Store c.get_item.new.connection in
      let now = subst (λ k. IsTrue (state g.S.Store k).is_open) w.connection-is opened in
      let before = w.cut_row-count.ensures.opened now in
      let s = c.get_item.ensures.same rests.0 before in
      let r = rests_stays old mid rests s in
      let done = cut_cookies mid (state g.S.Store w.cut_row-count.new.conn) _
      w.cut_row-count.result (w.cut_row-count.ensures.cuts r.0 now r.1)
      (w.cut_row-count.ensures.same r.0 now) ∙ cookies_stay old mid s in
      rw w.connection-is done
  | in-Err w ↦ λ rests opened.
      let now = subst (λ k. IsTrue (state g.S.Store k).is_open) w.connection-is opened in
      let done = cookies_stay (state g.S.Store c.args.connection.now)
      (state g.S.Store c.get_item.new.connection) (c.get_item.ensures.same rests.0 now) in
      rw w.connection-is done
]
