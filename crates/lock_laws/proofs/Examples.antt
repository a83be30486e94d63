-- The definitions at work, on short histories of one key: which cookie is in force behind them, and
-- what acts.
use Rattle.std.proofs.Common.{◌≡◌, ℕ, ◌≤◌, ◌<◌, ◌^◌, Bool, true, false, cond, List, [], ◌∷◌, ◌++◌, Some, None, Option, refl, sym, ap, ◌∙◌, arith, subst, inl, inr}
use Rattle.std.specs.Prelude.{codes}
use Rattle.std.specs.Str.{bytes_eq}
use Rattle.std.specs.List.{AllByRecursion}
use Rattle.asp_messages.specs.declared.request.Ask.{Ask}
use Rattle.asp_messages.specs.declared.request.Ask.TheVariants.{Read, Acquire, Release, Write, Reset}
use Rattle.asp_messages.specs.declared.reply.Reply.{Reply}
use Rattle.asp_messages.specs.declared.reply.Reply.TheVariants.{Found, Done, Locked, Missing, CookiesOut}
use Rattle.asp_messages.specs.Ranges.{AskFits, ReplyFits}
use Rattle.session_machine.specs.declared.entry.Entry.{Entry}
use Rattle.session_machine.specs.declared.entry.Deed.TheVariants.{Asked}
use Rattle.session_machine.specs.declared.item.Item.{Item}
use Rattle.session_machine.specs.Profiles.{newest}
use Rattle.session_machine.specs.History.{DrawFits, HasPlace, IsFormed, is_deed_of, has_risen, marked, entries_of, Lead, CountsRise, DrawsRise, IsHeldBelow, LookStands, IsLegal, item_after, item_after_in, nothing}
use Rattle.lock_laws.specs.InForce.{Grant, grant_of, on_key, life_of, last_life, runs_out, IsInForce}
use Rattle.lock_laws.specs.Laws.{named_by, Acts}
use Rattle.lock_laws.proofs.LawLemmas.{in_force-stands}

-- ---- histories of one key

abbrev key : List ℕ
key = codes "/a"

-- what a caller asked for the key at a moment, the cookie that was drawn, and the reply
record Said : Type 0 where
  caller : ℕ
  moment : ℕ
  ask : Ask
  drawn : ℕ
  reply : Reply

abbrev entry : Said → Entry
entry s = record {
  caller = s.caller;
  moment = s.moment;
  deed = Asked (record { key = key; ask = s.ask });
  drawn = s.drawn;
  reply = s.reply;
  faults = 0;
}

abbrev entries : List Said → List Entry
entries [] = []
entries (s ∷ ss) = entry s ∷ entries ss

-- what is said is in range
record IsSayable (s : Said) : Type 0 where
  caller : s.caller < 2 ^ 63
  moment : s.moment ≤ 2 ^ 62
  ask : AskFits s.ask
  drawn : DrawFits s.ask s.drawn
  reply : ReplyFits s.reply
  place : HasPlace s.reply

formed : (ss : List Said) → AllByRecursion IsSayable ss → AllByRecursion IsFormed (entries ss)
formed [] all = tt
formed (s ∷ ss) all = (
  record {
    caller_fits = all.0.caller;
    moment_fits = all.0.moment;
    deed_fits = (
      record { key = (omega arith, omega arith); ask = all.0.ask },
      all.0.drawn,
      all.0.reply,
      all.0.place,
    );
  },
  formed ss all.1,
)

counts : (ss : List Said) → CountsRise 0 (entries ss)
counts [] = tt
counts (s ∷ ss) = (omega arith, counts ss)

looks : (ss : List Said) → AllByRecursion (λ m. LookStands m.0 m.1.deed m.1.reply)
    (marked 0 (entries ss))
looks [] = tt
looks (s ∷ ss) = (tt, looks ss)

-- nothing is held at the beginning
fresh : (es : List Entry) → AllByRecursion (λ e. 0 < e.drawn → (other : List ℕ)
    → IsHeldBelow e.drawn (nothing other)) es
fresh [] = tt
fresh (e ∷ es) = ((λ some other. tt), fresh es)

-- the entries are all those of the key, and there are none of another
of_one : (other : List ℕ) (b : Bool) (ss : List Said) → bytes_eq other key ≡ b
    → entries_of other (marked 0 (entries ss)) ≡ cond b (marked 0 (entries ss)) []
of_one other true [] same = refl
of_one other false [] same = refl
of_one other true (s ∷ ss) same =
    ap (λ c. cond c ((has_risen 0 0, entry s) ∷ entries_of other (marked 0 (entries ss)))
    (entries_of other (marked 0 (entries ss)))) same
    ∙ ap (λ ms. (has_risen 0 0, entry s) ∷ ms) (of_one other true ss same)
of_one other false (s ∷ ss) same =
    ap (λ c. cond c ((has_risen 0 0, entry s) ∷ entries_of other (marked 0 (entries ss)))
    (entries_of other (marked 0 (entries ss)))) same ∙ of_one other false ss same

legal_if : (ss : List Said) → AllByRecursion IsSayable ss → DrawsRise 0 (entries ss)
    → Lead newest None (marked 0 (entries ss)) → IsLegal nothing 0 (entries ss)
legal_if ss sayable draws leads = record {
  formed = formed ss sayable;
  counts = counts ss;
  draws = draws;
  fresh_draws = fresh (entries ss);
  keys = λ other. by_key other (bytes_eq other key) refl;
  looks = looks ss;
}
  where
    lead : (b : Bool) → Lead newest None (cond b (marked 0 (entries ss)) [])
    lead true = leads
    lead false = tt

    by_key : (other : List ℕ) (b : Bool) → bytes_eq other key ≡ b
        → Lead newest None (entries_of other (marked 0 (entries ss)))
    by_key other b same = subst (Lead newest None) (sym (of_one other b ss same)) (lead b)

-- ---- what the examples show

-- The entry stands in a legal history behind those before, names a cookie that is not in force
-- there, and does not act.
pub record IsStale (before : List Entry) (e : Entry) (cookie : ℕ) : Type 0 where
  pub legal : IsLegal nothing 0 (before ++ e ∷ [])
  pub named : named_by e.deed ≡ Some cookie
  pub out_of_force : IsInForce newest nothing 0 key cookie before e.moment → ⊥
  pub idle : Acts newest nothing 0 key before e → ⊥

-- The entry stands in a legal history behind those before, names a cookie that is in force there,
-- and acts.
pub record IsUnderLock (before : List Entry) (e : Entry) (cookie : ℕ) : Type 0 where
  pub legal : IsLegal nothing 0 (before ++ e ∷ [])
  pub named : named_by e.deed ≡ Some cookie
  pub in_force : IsInForce newest nothing 0 key cookie before e.moment
  pub acts : Acts newest nothing 0 key before e

-- a cookie is not in force where the item is not under its lock
stale : (before : List Entry) (e : Entry) (cookie : ℕ) → IsLegal nothing 0 (before ++ e ∷ [])
    → is_deed_of key e.deed ≡ true → named_by e.deed ≡ Some cookie
    → (Acts newest nothing 0 key before e → ⊥)
    → ((grant : Grant) → grant_of (item_after nothing 0 before key) ≡ Some grant
    → grant.cookie ≡ cookie → e.moment < runs_out grant
    (life_of (item_after nothing 0 before key)) → ⊥)
    → IsStale before e cookie
stale before e cookie legal on named idle not = record {
  legal = legal;
  named = named;
  out_of_force = λ force.
      let there = in_force-stands newest nothing 0 (before ++ e ∷ []) key before e cookie legal
      (record { behind = []; place = refl; on_key = on }) force in
      not force.grant there.0 force.by_cookie there.1;
  idle = idle;
}

-- an item without a lock is another than one with a lock
unlocked : (new old : Option Item) (grant : Grant) → grant_of new ≡ None → grant_of old ≡ Some grant
    → new ≡ old → ⊥
unlocked new old grant none some same = cc

-- ---- the requests of the examples

abbrev at : ℕ → ℕ → Ask → ℕ → Reply → Said
at caller moment ask drawn reply = record {
  caller = caller;
  moment = moment;
  ask = ask;
  drawn =
      drawn;
  reply = reply;
}

-- caller 0 stores an item that lives for so many minutes, at a moment
abbrev stores : ℕ → ℕ → Said
stores moment minutes = at 0 moment (Write (codes "x") minutes false None) 0 Done

-- a caller gets the lock
abbrev acquires : ℕ → ℕ → ℕ → ℕ → Said
acquires caller moment minutes cookie = at caller moment Acquire cookie
    (Found (codes "x") minutes (Some cookie) false)

-- caller 0 writes under cookie 1
abbrev writes : ℕ → Reply → Said
writes moment reply = at 0 moment (Write (codes "z") 20 false (Some 1)) 0 reply

stores-sayable : (moment minutes : ℕ) → moment ≤ 2 ^ 62 → 0 < minutes → minutes ≤ 20
    → IsSayable (stores moment minutes)
stores-sayable moment minutes early some few =
    record {
      caller = omega arith;
      moment = early;
      ask =
          (omega arith, (some, omega arith), tt);
      drawn = refl;
      reply = tt;
      place = tt;
    }

acquires-sayable : (caller moment minutes cookie : ℕ) → caller < 9 → moment ≤ 2 ^ 62 → 0 < minutes
    → minutes ≤ 20 → 0 < cookie → cookie < 9 → IsSayable (acquires caller moment minutes cookie)
acquires-sayable caller moment minutes cookie low early some few one small = record {
  caller = omega arith;
  moment = early;
  ask = tt;
  drawn = omega arith;
  reply = (omega arith, (some, omega arith), (one, omega arith));
  place = tt;
}

writes-sayable : (moment : ℕ) (reply : Reply) → moment ≤ 2 ^ 62 → ReplyFits reply → HasPlace reply
    → IsSayable (writes moment reply)
writes-sayable moment reply early fits place =
    record {
      caller = omega arith;
      moment = early;
      ask =
          (omega arith, (omega arith, omega arith), (omega arith, omega arith));
      drawn = refl;
      reply =
          fits;
      place = place;
    }

-- a request of another kind, which draws nothing
plain-sayable : (caller moment : ℕ) (ask : Ask) (reply : Reply) → caller < 9 → moment ≤ 2 ^ 62
    → AskFits ask → DrawFits ask 0 → ReplyFits reply → HasPlace reply
    → IsSayable (at caller moment ask 0 reply)
plain-sayable caller moment ask reply low early asks draws fits place =
    record {
      caller = omega arith;
      moment = early;
      ask = asks;
      drawn = draws;
      reply = fits;
      place =
          place;
    }

-- ---- the examples

-- the cookie of a grant
abbrev cookie_in : Option Grant → ℕ
cookie_in None = 0
cookie_in (Some grant) = grant.cookie

-- the minutes of a grant
abbrev minutes_in : Option Grant → ℕ
minutes_in None = 0
minutes_in (Some grant) = grant.minutes

-- nobody was granted the cookie
pub a_cookie_never_granted_is_stale : IsStale (entries (stores 0 20 ∷ []))
    (entry (writes 2000 (Locked 0 0 None))) 1
a_cookie_never_granted_is_stale = stale (entries (stores 0 20 ∷ []))
    (entry (writes 2000 (Locked 0 0 None))) 1
    (legal_if (stores 0 20 ∷ writes 2000 (Locked 0 0 None) ∷ []) (
      stores-sayable 0 20 (omega arith) (omega arith) (omega arith),
      (writes-sayable 2000 (Locked 0 0 None) (omega arith) (omega arith, omega arith, tt) tt, tt),
    )
    (inl refl, (inl refl, tt)) (refl, (refl, tt))) refl refl (λ acts. acts refl)
    (λ grant is same time. absurd (cc is))

-- the holder released the lock
pub a_cookie_is_stale_after_its_own_release : IsStale
    (entries (stores 0 20 ∷ acquires 0 1000 20 1 ∷ at 0 2000 (Release 1) 0 Done ∷ []))
    (entry (writes 3000 (Locked 0 0 None))) 1
a_cookie_is_stale_after_its_own_release = stale
    (entries (stores 0 20 ∷ acquires 0 1000 20 1 ∷ at 0 2000 (Release 1) 0 Done ∷ []))
    (entry (writes 3000 (Locked 0 0 None))) 1
    (legal_if (stores 0 20 ∷ acquires 0 1000 20 1 ∷ at 0 2000 (Release 1) 0 Done
    ∷ writes 3000 (Locked 0 0 None) ∷ []) (
      stores-sayable 0 20 (omega arith) (omega arith) (omega arith),
      (
        acquires-sayable 0 1000 20 1 (omega arith) (omega arith) (omega arith) (omega arith)
            (omega arith) (omega arith),
        (
          plain-sayable 0 2000 (Release 1) Done (omega arith)
              (omega arith) (omega arith) refl tt tt,
          (
            writes-sayable 3000 (Locked 0 0 None) (omega arith) (omega arith, omega arith, tt) tt,
            tt,
          ),
        ),
      ),
    )
    (inl refl, (inr (omega arith), (inl refl, (inl refl, tt)))) (refl, (refl, (refl, (refl, tt)))))
    refl refl (λ acts. acts refl) (λ grant is same time. absurd (cc is))

-- another caller found the lock too old, released it by the cookie that it was told, and got the
-- lock under cookie 3
pub a_cookie_is_stale_after_a_forced_release : IsStale
    (entries (stores 0 20 ∷ acquires 0 1000 20 1 ∷ at 1 121000 Acquire 2 (Locked 1 120 (Some 1000))
    ∷ at 1 121500 (Release 1) 0 Done ∷ acquires 1 122000 20 3 ∷ []))
    (entry (writes 123000 (Locked 3 1 (Some 122000)))) 1
a_cookie_is_stale_after_a_forced_release = stale
    (entries (stores 0 20 ∷ acquires 0 1000 20 1 ∷ at 1 121000 Acquire 2 (Locked 1 120 (Some 1000))
    ∷ at 1 121500 (Release 1) 0 Done ∷ acquires 1 122000 20 3 ∷ []))
    (entry (writes 123000 (Locked 3 1 (Some 122000)))) 1
    (legal_if (stores 0 20 ∷ acquires 0 1000 20 1 ∷ at 1 121000 Acquire 2 (Locked 1 120 (Some 1000))
    ∷ at 1 121500 (Release 1) 0 Done ∷ acquires 1 122000 20 3 ∷ writes 123000 (Locked 3 1 (Some
    122000)) ∷ []) (
      stores-sayable 0 20 (omega arith) (omega arith) (omega arith),
      (
        acquires-sayable 0 1000 20 1 (omega arith) (omega arith) (omega arith) (omega arith)
            (omega arith) (omega arith),
        (
          record {
            caller = omega arith;
            moment = omega arith;
            ask =
                tt;
            drawn = omega arith;
            reply = (omega arith, omega arith, omega arith);
            place = tt;
          },
          (
            plain-sayable 1 121500 (Release 1) Done (omega arith) (omega arith) (omega arith) refl
                tt
                tt,
            (
              acquires-sayable 1 122000 20 3 (omega arith) (omega arith) (omega arith) (omega arith)
                  (omega arith) (omega arith),
              (
                writes-sayable 123000 (Locked 3 1 (Some 122000)) (omega arith)
                    (omega arith, omega arith, omega arith) tt,
                tt,
              ),
            ),
          ),
        ),
      ),
    ) (
      inl refl,
      (
        inr (omega arith),
        (
          inr (omega arith),
          (inl refl, (inr (omega arith), (inl refl, tt))),
        ),
      ),
    )
    (refl, (refl, (refl, (refl, (refl, (refl, tt))))))) refl refl (λ acts. acts refl)
    (λ grant is same time. let three : 3 ≡ grant.cookie = ap cookie_in is in
    absurd (omega arith))

-- the item expired under the lock, at 61,000, and was stored anew
pub a_cookie_is_stale_when_its_item_expired_and_came_again : IsStale
    (entries (stores 0 1 ∷ acquires 0 1000 1 1 ∷ stores 61000 1 ∷ []))
    (entry (writes 62000 (Locked 0 0 None))) 1
a_cookie_is_stale_when_its_item_expired_and_came_again =
    stale (entries (stores 0 1 ∷ acquires 0 1000 1 1 ∷ stores 61000 1 ∷ []))
    (entry (writes 62000 (Locked 0 0 None))) 1
    (legal_if (stores 0 1 ∷ acquires 0 1000 1 1 ∷ stores 61000 1 ∷ writes 62000 (Locked 0 0 None) ∷
    []) (
      stores-sayable 0 1 (omega arith) (omega arith) (omega arith),
      (
        acquires-sayable 0 1000 1 1 (omega arith) (omega arith) (omega arith) (omega arith)
            (omega arith) (omega arith),
        (
          stores-sayable 61000 1 (omega arith) (omega arith)
              (omega arith),
          (
            writes-sayable 62000 (Locked 0 0 None) (omega arith)
                (omega arith, omega arith, tt) tt,
            tt,
          ),
        ),
      ),
    )
    (inl refl, (inr (omega arith), (inl refl, (inl refl, tt)))) (refl, (refl, (refl, (refl, tt)))))
    refl refl (λ acts. acts refl) (λ grant is same time. absurd (cc is))

-- another caller reset the timeout at 60,000, so that the item lives until 120,000
pub a_reset_by_another_prolongs_the_lock : IsUnderLock
    (entries (stores 0 1 ∷ acquires 0 1000 1 1 ∷ at 1 60000 Reset 0 Done ∷ []))
    (entry (writes 119999 Done)) 1
a_reset_by_another_prolongs_the_lock = record {
  legal = legal_if (stores 0 1 ∷ acquires 0 1000 1 1 ∷ at 1 60000 Reset 0 Done ∷ writes 119999 Done
      ∷ []) (
        stores-sayable 0 1 (omega arith) (omega arith) (omega arith),
        (
          acquires-sayable 0 1000 1 1 (omega arith) (omega arith) (omega arith) (omega arith)
              (omega arith) (omega arith),
          (
            plain-sayable 1 60000 Reset Done (omega arith) (omega arith)
                tt refl tt tt,
            (writes-sayable 119999 Done (omega arith) tt tt, tt),
          ),
        ),
      )
      (inl refl, (inr (omega arith), (inl refl, (inl refl, tt))))
      (refl, (refl, (refl, (refl, tt))));
  named = refl;
  in_force = record {
    grant = record { cookie = 1; body = codes "x"; minutes = 1 };
    until = entries (stores 0 1 ∷ acquires 0 1000 1 1 ∷ []);
    since = entries (at 1 60000 Reset 0 Done ∷ []);
    place = record { parts = refl; granted = refl };
    by_cookie = refl;
    lasts = (refl, tt);
    in_time = omega arith;
  };
  acts = unlocked _ _ (record { cookie = 1; body = codes "x"; minutes = 1 }) refl refl;
}

-- and no longer; that the expired item is cleared away then is no act
pub a_lock_runs_out_with_its_item : IsStale (entries
    (stores 0 1 ∷ acquires 0 1000 1 1 ∷ at 1 60000 Reset 0 Done ∷ []))
    (entry (writes 120000 Missing)) 1
a_lock_runs_out_with_its_item = stale (entries
    (stores 0 1 ∷ acquires 0 1000 1 1 ∷ at 1 60000 Reset 0 Done ∷ []))
    (entry (writes 120000 Missing)) 1
    (legal_if (stores 0 1 ∷ acquires 0 1000 1 1 ∷ at 1 60000 Reset 0 Done ∷ writes 120000 Missing
    ∷ []) (
      stores-sayable 0 1 (omega arith) (omega arith) (omega arith),
      (
        acquires-sayable 0 1000 1 1 (omega arith) (omega arith) (omega arith) (omega arith)
            (omega arith) (omega arith),
        (
          plain-sayable 1 60000 Reset Done (omega arith) (omega arith)
              tt refl tt tt,
          (writes-sayable 120000 Missing (omega arith) tt tt, tt),
        ),
      ),
    )
    (inl refl, (inr (omega arith), (inl refl, (inl refl, tt)))) (refl, (refl, (refl, (refl, tt)))))
    refl refl (λ acts. acts refl) (λ grant is same time. let one : 1 ≡ grant.minutes =
    ap minutes_in is in absurd (omega arith))

-- an acquire for which no cookie was left came when the item had expired: it left the item and its
-- lock, which a request at an earlier moment finds
pub no_cookie_left_ends_no_lock : IsUnderLock
    (entries (stores 0 1 ∷ acquires 0 1000 1 1 ∷ at 1 70000 Acquire 0 CookiesOut ∷ []))
    (entry (writes 60999 Done)) 1
no_cookie_left_ends_no_lock = record {
  legal = legal_if (stores 0 1 ∷ acquires 0 1000 1 1 ∷ at 1 70000 Acquire 0 CookiesOut
      ∷ writes 60999 Done ∷ []) (
        stores-sayable 0 1 (omega arith) (omega arith) (omega arith),
        (
          acquires-sayable 0 1000 1 1 (omega arith) (omega arith) (omega arith) (omega arith)
              (omega arith) (omega arith),
          (
            plain-sayable 1 70000 Acquire CookiesOut (omega arith)
                (omega arith) tt (omega arith) tt tt,
            (writes-sayable 60999 Done (omega arith) tt tt, tt),
          ),
        ),
      )
      (inl refl, (inr (omega arith), (inl refl, (inl refl, tt))))
      (refl, (refl, (refl, (refl, tt))));
  named = refl;
  in_force = record {
    grant = record { cookie = 1; body = codes "x"; minutes = 1 };
    until = entries (stores 0 1 ∷ acquires 0 1000 1 1 ∷ []);
    since = entries (at 1 70000 Acquire 0 CookiesOut ∷ []);
    place = record { parts = refl; granted = refl };
    by_cookie = refl;
    lasts = (refl, tt);
    in_time = omega arith;
  };
  acts = unlocked _ _ (record { cookie = 1; body = codes "x"; minutes = 1 }) refl refl;
}

-- a read that came so cleared the item away, and its lock
pub a_late_read_ends_a_lock_that_has_run_out : IsStale
    (entries (stores 0 1 ∷ acquires 0 1000 1 1 ∷ at 1 70000 Read 0 Missing ∷ []))
    (entry (writes 60999 Missing)) 1
a_late_read_ends_a_lock_that_has_run_out = stale
    (entries (stores 0 1 ∷ acquires 0 1000 1 1 ∷ at 1 70000 Read 0 Missing ∷ []))
    (entry (writes 60999 Missing)) 1
    (legal_if (stores 0 1 ∷ acquires 0 1000 1 1 ∷ at 1 70000 Read 0 Missing ∷ writes 60999 Missing
    ∷ []) (
      stores-sayable 0 1 (omega arith) (omega arith) (omega arith),
      (
        acquires-sayable 0 1000 1 1 (omega arith) (omega arith) (omega arith) (omega arith)
            (omega arith) (omega arith),
        (
          plain-sayable 1 70000 Read Missing (omega arith) (omega arith)
              tt refl tt tt,
          (writes-sayable 60999 Missing (omega arith) tt tt, tt),
        ),
      ),
    )
    (inl refl, (inr (omega arith), (inl refl, (inl refl, tt)))) (refl, (refl, (refl, (refl, tt)))))
    refl refl (λ acts. acts refl) (λ grant is same time. absurd (cc is))

-- a map with which a history begins: each key has an item under the lock of cookie 7, for one
-- minute
abbrev locked : List ℕ → Option Item
locked other = Some (record {
  body = codes "x";
  minutes = 1;
  fresh = false;
  holder =
      Some (record { cookie = 7; since = 0 });
  touched = 0;
  ends = 86400000;
})

-- its lock counts as granted before the first entry
pub a_lock_found_at_the_beginning_is_in_force : IsInForce newest locked 0 key 7 [] 59999
a_lock_found_at_the_beginning_is_in_force = record {
  grant = record { cookie = 7; body = codes "x"; minutes = 1 };
  until = [];
  since = [];
  place = record { parts = refl; granted = refl };
  by_cookie = refl;
  lasts = tt;
  in_time = omega arith;
}

-- a map with which a history begins: each key has an item under the lock of cookie 7, for 20
-- minutes, and the item ends at 500
abbrev ending : List ℕ → Option Item
ending other = Some (record {
  body = codes "x";
  minutes = 20;
  fresh = false;
  holder = Some (record { cookie = 7; since = 0 });
  touched = 0;
  ends = 500;
})

-- a reset was done at 499: the lock is in force as long as the item lives
pub a_lock_is_in_force_to_the_end_of_its_item : IsInForce newest ending 0 key 7
    (entries (at 1 499 Reset 0 Done ∷ [])) 499
a_lock_is_in_force_to_the_end_of_its_item = record {
  grant = record { cookie = 7; body = codes "x"; minutes = 20 };
  until = [];
  since = entries (at 1 499 Reset 0 Done ∷ []);
  place = record { parts = refl; granted = refl };
  by_cookie = refl;
  lasts = (refl, tt);
  in_time = omega arith;
}

-- and no reset keeps it in force behind that
pub no_reset_moves_the_end_of_a_lock : (force : IsInForce newest ending 0 key 7
    (entries (at 1 499 Reset 0 Done ∷ [])) 500) → force.until ≡ [] → force.since
    ≡ entries (at 1 499 Reset 0 Done ∷ []) → ⊥
no_reset_moves_the_end_of_a_lock force first rest =
    let late : 500 < runs_out force.grant (last_life (life_of (item_after_in newest ending 0 []
    key))
    (on_key key (entries (at 1 499 Reset 0 Done ∷ [])))) =
    subst (λ es. 500 < runs_out force.grant (last_life (life_of (item_after_in newest ending 0 []
    key))
    (on_key key es))) rest
    (subst (λ es. 500 < runs_out force.grant (last_life (life_of (item_after_in newest ending 0 es
    key))
    (on_key key force.since))) first force.in_time) in
    omega (arith, late)
