-- What a consumer did goes on from call to call.
use Rattle.std.proofs.Common.{◌≡◌, ℕ, ◌+◌, ◌<◌, ◌≤◌, Bool, true, false, List, [], ◌++◌, length, take, Option, None, Some, refl, sym, ap, ◌∙◌, arith, subst, inl, inr, append_assoc, append-nil, length-append}
use Rattle.std.specs.Prelude.{◌⊎◌, nat_lt}
use Rattle.std.proofs.lemmas.Bool.{cases_lt, lt-ltb, le-ltb}
use Rattle.asp_base.specs.Limits.{most_input}
use Rattle.asp_base.specs.Outside.{Gives, IsAtEnd, Takes, TakesFront}
use Rattle.asp_base.proofs.OutsideLemmas.{Takes-nil, Takes-trans, Gives-nil, Gives-trans}
use Rattle.command_loop.specs.declared.consumer.Consumer.{Ghosts}
use Rattle.command_loop.specs.declared.ending.RunEnd.{RunEnd}
use Rattle.command_loop.specs.declared.ending.RunEnd.TheVariants as ends
use Rattle.command_loop.specs.Feeding.{FollowsFrom, GoesOn, IsShort, OverAnyhow, OverAtEnd}
use Rattle.command_loop.specs.Flow.{Flow, flow}
use Rattle.command_loop.specs.Ending.{StopsAs, HasRoom, ConsumerIsOver, RunEndsAs, Ended, IfFewer, RunIsComplete}
use Rattle.command_loop.specs.LoopRunning.{Running, RunStops}

-- ---- what was given is written

module _ {V : Type 0} (Is : V → List ℕ → List ℕ → Type 0) (Gave : List ℕ → List ℕ → Type 0)
    (Lacks : List ℕ → Type 0) (untaken sink sink' : Option (List ℕ)) (given last : List ℕ)
    (taken : Takes untaken sink given)
  where
    -- all that the consumer gave at its end was written
    pub stops_over : (over : V) → Is over given last → Takes sink sink' last
        → StopsAs Is Gave Lacks (ends.Over over) untaken sink'
    stops_over over is wrote =
        (given, last, is, Takes-trans untaken sink sink' given last taken wrote)

    -- or a front of that
    pub stops_in_part : ((over : V) × Is over given last) ⊎ Gave given last → 0 < length last
        → TakesFront sink sink' last → StopsAs Is Gave Lacks ends.WriteFault untaken sink'
    stops_in_part is some (n, le, wrote) = (
      given,
      last,
      n,
      is,
      some,
      le,
      Takes-trans untaken sink sink' given
          (take n last) taken wrote,
    )

-- with other relations that follow
pub stops_as : {V : Type 0} (Is Is' : V → List ℕ → List ℕ → Type 0) (Gave : List ℕ → List ℕ
    → Type 0)
    (Lacks : List ℕ → Type 0) (end : RunEnd V) (sink sink' : Option (List ℕ))
    → ((over : V) (whole last : List ℕ) → Is over whole last → Is' over whole last)
    → StopsAs Is Gave Lacks end sink sink' → StopsAs Is' Gave Lacks end sink sink'
stops_as Is Is' Gave Lacks (ends.Over over) sink sink' follows (whole, last, is, wrote) =
    (whole, last, follows over whole last is, wrote)
stops_as Is Is' Gave Lacks ends.WriteFault sink sink' follows
    (whole, last, n, inl (over, is), some, within, wrote) =
    (whole, last, n, inl (over, follows over whole last is), some, within, wrote)
stops_as Is Is' Gave Lacks ends.WriteFault sink sink' follows
    (whole, last, n, inr gave, some, within, wrote) =
    (whole, last, n, inr gave, some, within, wrote)
stops_as Is Is' Gave Lacks ends.NoMemory sink sink' follows stops = stops
stops_as Is Is' Gave Lacks ends.ReadFault sink sink' follows stops = absurd stops
stops_as Is Is' Gave Lacks ends.Long sink sink' follows stops = absurd stops

-- ---- the steps behind one piece

module _ {C : Type 0} (Went : C → C → List ℕ → List ℕ → Type 0) where
  -- what was given was written, and the consumer went on by it
  abbrev pub GoesBy : Option (List ℕ) → Option (List ℕ) → C → C → Type 0
  GoesBy sink sink' old new = (wrote : List ℕ) × Takes sink sink' wrote
      × FollowsFrom Went old (λ start fed given. Went start new fed (given ++ wrote))

  pub goes_further : (sink sink' sink'' : Option (List ℕ)) (old middle new : C) (out : List ℕ)
      → GoesBy sink sink' old middle → Takes sink' sink'' out
      → FollowsFrom Went middle (λ start fed given. Went start new fed (given ++ out))
      → GoesBy sink sink'' old new
  goes_further sink sink' sink'' old middle new out (wrote, takes, goes) writes further = (
    wrote ++ out,
    Takes-trans sink sink' sink'' wrote out takes writes,
    λ start fed given went. subst (Went start new fed) (append_assoc given wrote out)
        (further start fed (given ++ wrote) (goes start fed given went)),
  )

-- ---- the loop

-- whether there is room for more bytes, where so many are left
pub has_room : (count left most : ℕ) → count + left ≡ most → HasRoom (nat_lt 0 left) count most
has_room count left most all = elim (cases_lt 0 left) [
  | inl some ↦ subst (λ b. HasRoom b count most) (sym (lt-ltb 0 left some))
      (let less : count < most = omega arith in less)
  | inr none ↦ subst (λ b. HasRoom b count most) (sym (le-ltb 0 left none))
      (let same : count ≡ most = omega arith in same)
]

module _ {C V : Type 0} (G : Ghosts C V) (most : ℕ) (start : C) where
  -- a stop is an ending
  ends_of : (now : C) (end : RunEnd V) (f : Flow) (taken : List ℕ)
      → StopsAs (ConsumerIsOver G most start now f.source' taken) (G.gave GoesOn start now taken)
      (G.lacks start now taken)
      end f.sink f.sink'
      → RunEndsAs G most start now end f taken
  ends_of now (ends.Over over) f taken stops = stops
  ends_of now ends.WriteFault f taken stops = stops
  ends_of now ends.NoMemory f taken stops = stops
  ends_of now ends.ReadFault f taken stops = absurd stops
  ends_of now ends.Long f taken stops = absurd stops

  pub Running-start : (source : Option (List ℕ × List ℕ)) (sink : Option (List ℕ))
      → G.went start start [] []
      → Running G.went most start start (flow source source sink sink) most
  Running-start source sink begun = record {
    taken = [];
    given = [];
    read = Gives-nil source;
    went = begun;
    written = Takes-nil sink;
    left_is = omega arith;
  }

  module _ (now : C) (f : Flow) (left : ℕ) (run : Running G.went most start now f left) where
    -- the consumer did what it could
    pub Running-on : (now' : C) (sink'' : Option (List ℕ)) → GoesBy G.went f.sink' sink'' now now'
        → Running G.went most start now' (record f { sink' = sink'' }) left
    Running-on now' sink'' (wrote, takes, goes) = record {
      taken = run.taken;
      given = run.given ++ wrote;
      read = run.read;
      went = goes start run.taken run.given run.went;
      written = Takes-trans f.sink f.sink' sink'' run.given wrote run.written takes;
      left_is = run.left_is;
    }

    -- and was fed a piece
    pub Running-fed : (now' : C) (source'' : Option (List ℕ × List ℕ)) (piece : List ℕ) (left' : ℕ)
        → Gives f.source' source'' piece
        → FollowsFrom G.went now (λ start fed given. G.went start now' (fed ++ piece) given)
        → left' + length piece ≡ left
        → Running G.went most start now' (record f { source' = source'' }) left'
    Running-fed now' source'' piece left' gives follows less = record {
      taken = run.taken ++ piece;
      given = run.given;
      read = Gives-trans f.source f.source' source'' run.taken piece run.read gives;
      went = follows start run.taken run.given run.went;
      written = run.written;
      left_is = omega (arith, run.left_is, less, length-append run.taken piece);
    }

    pub Running-short : most ≤ most_input → IsShort G.went now left
    Running-short fits = (start, run.taken, run.given, run.went, omega (arith, run.left_is, fits))

    -- the consumer stopped behind the bytes that were taken
    pub ended-stopped : (now' : C) (sink'' : Option (List ℕ)) (end : RunEnd V)
        → RunStops G (OverAnyhow (nat_lt 0 left)) now now' f.sink' sink'' end
        → Ended G most start now' (record f { sink' = sink'' }) end
    ended-stopped now' sink'' end stops = record {
      taken = run.taken;
      given = run.read;
      within = omega (arith, run.left_is);
      ends = ends_of now' end (record f { sink' = sink'' }) run.taken
          (stops_as
          (λ over. G.gave (OverAnyhow (nat_lt 0 left) over) start now' run.taken)
          (ConsumerIsOver G most start now' f.source' run.taken)
          (G.gave GoesOn start now' run.taken)
          (G.lacks start now' run.taken) end f.sink sink''
          (λ over whole last is.
          inr (nat_lt 0 left, is, has_room (length run.taken) left most run.left_is))
          (stops f.sink start run.taken run.given run.went run.written));
    }

    pub ended-long : left ≡ 0 → G.waits false now → Ended G most start now f ends.Long
    ended-long none waits = record {
      taken = run.taken;
      given = run.read;
      within = omega (arith, run.left_is);
      ends = (run.given, run.went, waits, omega (arith, run.left_is, none), run.written);
    }

    -- the input ended, and the consumer with it
    pub ended-closed : (now' : C) (source'' : Option (List ℕ × List ℕ)) (sink'' : Option (List ℕ))
        (end : RunEnd V) → 0 < left → Gives f.source' source'' [] → IsAtEnd source''
        → RunStops G OverAtEnd now now' f.sink' sink'' end
        → Ended G most start now' (record f { source' = source''; sink' = sink'' }) end
    ended-closed now' source'' sink'' end some gives at_end stops = record {
      taken = run.taken;
      given = subst (Gives f.source source'') (append-nil run.taken)
          (Gives-trans f.source f.source' source'' run.taken [] run.read gives);
      within = omega (arith, run.left_is);
      ends = ends_of now' end (record f { source' = source''; sink' = sink'' }) run.taken
          (stops_as (λ over. G.gave (OverAtEnd over) start now' run.taken)
          (ConsumerIsOver G most start now' source'' run.taken) (G.gave GoesOn start now' run.taken)
          (G.lacks start now' run.taken) end f.sink sink''
          (λ over whole last is. inl (is, at_end, omega (arith, run.left_is, some)))
          (stops f.sink start run.taken run.given run.went run.written));
    }

    pub ended-read : (source'' : Option (List ℕ × List ℕ)) → 0 < left → Gives f.source' source'' []
        → G.waits true now → Ended G most start now (record f { source' = source'' }) ends.ReadFault
    ended-read source'' some gives waits = record {
      taken = run.taken;
      given = subst (Gives f.source source'') (append-nil run.taken)
          (Gives-trans f.source f.source' source'' run.taken [] run.read gives);
      within = omega (arith, run.left_is);
      ends = (run.given, run.went, waits, omega (arith, run.left_is, some), run.written);
    }

    -- there was no memory for a piece
    pub ended-unfed : (now' : C) (source'' : Option (List ℕ × List ℕ)) (piece : List ℕ)
        → Gives f.source' source'' piece → length piece ≤ left
        → FollowsFrom G.went now (λ start fed given. G.lacks start now' (fed ++ piece) given)
        → Ended G most start now' (record f { source' = source'' }) ends.NoMemory
    ended-unfed now' source'' piece gives fits follows = record {
      taken = run.taken ++ piece;
      given = Gives-trans f.source f.source' source'' run.taken piece run.read gives;
      within = omega (arith, run.left_is, fits, length-append run.taken piece);
      ends = (run.given, follows start run.taken run.given run.went, run.written);
    }

-- ---- completeness

module _ {C V : Type 0} (G : Ghosts C V) (most : ℕ) (start now : C) where
  complete_told : (old new : List ℕ × List ℕ) (f : Flow) (end : RunEnd V) → f.source ≡ Some old
      → f.source' ≡ Some new → Ended G most start now f end → (end ≡ ends.ReadFault → ⊥)
      → (end ≡ ends.WriteFault → ⊥) → length old.1 < most → RunIsComplete G start now f end old.1
  complete_told old new f (ends.Over over) is_old is_new run read write fewer =
      (run.ends.0, run.ends.1, is run.ends.2, run.ends.3)
    where
      given : Gives (Some old) (Some new) run.taken
      given = subst (λ s. Gives (Some old) s run.taken) is_new
          (subst (λ s. Gives s f.source' run.taken) is_old run.given)

      is : ConsumerIsOver G most start now f.source' run.taken over run.ends.0 run.ends.1
          → G.gave (OverAtEnd over) start now old.1 run.ends.0 run.ends.1
          ⊎ ((front : List ℕ) × (behind : List ℕ) × (more : Bool) × (old.1 ≡ front ++ behind)
          × G.gave (OverAnyhow more over) start now front run.ends.0 run.ends.1)
      is (inl (closes, at_end, some)) =
          inl (subst (λ t. G.gave (OverAtEnd over) start now t run.ends.0 run.ends.1)
          (sym (given.1 ∙ ap (λ t. run.taken ++ t) (subst IsAtEnd is_new at_end)
          ∙ append-nil run.taken))
          closes)
      is (inr (more, breaks, room)) = inr (run.taken, new.1, more, given.1, breaks)
  complete_told old new f ends.NoMemory is_old is_new run read write fewer = tt
  complete_told old new f ends.ReadFault is_old is_new run read write fewer = absurd (read refl)
  complete_told old new f ends.WriteFault is_old is_new run read write fewer = absurd (write refl)
  complete_told old new f ends.Long is_old is_new run read write fewer =
      let given : Gives (Some old) (Some new) run.taken =
      subst (λ s. Gives (Some old) s run.taken) is_new
      (subst (λ s. Gives s f.source' run.taken) is_old run.given) in
      let all = ap length given.1 in
      let long = run.ends.3 in
      absurd (let wrong : ⊥ =
      omega (arith, all, length-append run.taken new.1, long, fewer) in wrong)

  pub complete_of : (source source' : Option (List ℕ × List ℕ)) (sink sink' : Option (List ℕ))
      (end : RunEnd V)
      → Ended G most start now (flow source source' sink sink') end → (end ≡ ends.ReadFault → ⊥)
      → (end ≡ ends.WriteFault → ⊥)
      → IfFewer source most (RunIsComplete G start now (flow source source' sink sink') end)
  complete_of None source' sink sink' end run read write = tt
  complete_of (Some old) None sink sink' end run read write = absurd run.given
  complete_of (Some old) (Some new) sink sink' end run read write =
      complete_told old new (flow (Some old) (Some new) sink sink') end refl refl run read write
