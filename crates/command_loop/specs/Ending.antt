-- How a run ends, from the bytes that were taken to those that were written.
use Rattle.std.specs.Prelude.{◌≡◌, ◌⊎◌, ℕ, ◌<◌, ◌≤◌, Bool, true, false, List, ◌++◌, length, take, Option, None, Some, ⊤}
use Rattle.asp_base.specs.Outside.{Gives, IsAtEnd, Takes}
use Rattle.command_loop.specs.declared.consumer.Consumer.{Ghosts}
use Rattle.command_loop.specs.declared.ending.RunEnd.{RunEnd}
use Rattle.command_loop.specs.declared.ending.RunEnd.TheVariants as ends
use Rattle.command_loop.specs.Feeding.{GoesOn, OverAnyhow, OverAtEnd}
use Rattle.command_loop.specs.Flow.{Flow}

module _ {V : Type 0} (Is : V → List ℕ → List ℕ → Type 0) (Gave : List ℕ → List ℕ → Type 0)
    (Lacks : List ℕ → Type 0) where
  -- The consumer is over, and all that it gave was written; or what it gave last was written in
  -- part; or memory was wanting.
  abbrev pub StopsAs : RunEnd V → Option (List ℕ) → Option (List ℕ) → Type 0
  StopsAs (ends.Over over) sink sink' =
      (whole : List ℕ) × (last : List ℕ) × Is over whole last × Takes sink sink' (whole ++ last)
  StopsAs ends.WriteFault sink sink' = (whole : List ℕ) × (last : List ℕ) × (count : ℕ)
      × (((over : V) × Is over whole last) ⊎ Gave whole last)
      × (0 < length last) × (count ≤ length last) × Takes sink sink' (whole ++ take count last)
  StopsAs ends.NoMemory sink sink' = (given : List ℕ) × Lacks given × Takes sink sink' given
  StopsAs ends.ReadFault sink sink' = ⊥
  StopsAs ends.Long sink sink' = ⊥

-- whether more bytes could be taken of the most, where so many were
abbrev pub HasRoom : Bool → ℕ → ℕ → Type 0
HasRoom true count most = count < most
HasRoom false count most = count ≡ most

module _ {C V : Type 0} (G : Ghosts C V) (most : ℕ) (start now : C) where
  -- the consumer is over: the input ended there, or whatever follows
  abbrev pub ConsumerIsOver : Option (List ℕ × List ℕ) → List ℕ → V → List ℕ → List ℕ → Type 0
  ConsumerIsOver source' taken over whole last =
      (G.gave (OverAtEnd over) start now taken whole last × IsAtEnd source' × (length taken < most))
      ⊎ ((more : Bool) × G.gave (OverAnyhow more over) start now taken whole
      last
      × HasRoom more (length taken) most)

  -- What holds at each ending, of the source and the sink after it, and of the bytes that were
  -- taken.
  abbrev pub RunEndsAs : RunEnd V → Flow → List ℕ → Type 0
  RunEndsAs ends.ReadFault f taken =
      (given : List ℕ) × G.went start now taken given × G.waits true now
      × (length taken < most) × Takes f.sink f.sink' given
  RunEndsAs ends.Long f taken = (given : List ℕ) × G.went start now taken given × G.waits false now
      × (length taken ≡ most) × Takes f.sink f.sink' given
  RunEndsAs end f taken =
      StopsAs (ConsumerIsOver f.source' taken) (G.gave GoesOn start now taken)
      (G.lacks start now taken) end f.sink
      f.sink'

-- A run: these bytes were taken, at most the most, and it ended so.
pub record Ended {C V : Type 0} (G : Ghosts C V) (most : ℕ) (start now : C) (f : Flow)
    (end : RunEnd V)
    : Type 0 where
  pub taken : List ℕ
  pub given : Gives f.source f.source' taken
  pub within : length taken ≤ most
  pub ends : RunEndsAs G most start now end f taken

-- ---- completeness

-- a fact of the input, where the source tells it and it has fewer than so many bytes
abbrev pub IfFewer : Option (List ℕ × List ℕ) → ℕ → (List ℕ → Type 0) → Type 0
IfFewer None most Fact = ⊤
IfFewer (Some told) most Fact = length told.1 < most → Fact told.1

module _ {C V : Type 0} (G : Ghosts C V) (start now : C) (f : Flow) where
  -- the consumer is over with this input, at its end or behind a front of it, and all that it gave
  -- was written; or memory was wanting
  abbrev pub RunIsComplete : RunEnd V → List ℕ → Type 0
  RunIsComplete (ends.Over over) input = (whole : List ℕ) × (last : List ℕ)
      × (G.gave (OverAtEnd over) start now input whole last
      ⊎ ((front : List ℕ) × (behind : List ℕ) × (more : Bool) × (input ≡ front ++ behind)
      × G.gave (OverAnyhow more over) start now front whole last))
      × Takes f.sink f.sink' (whole ++ last)
  RunIsComplete ends.NoMemory input = ⊤
  RunIsComplete ends.ReadFault input = ⊥
  RunIsComplete ends.WriteFault input = ⊥
  RunIsComplete ends.Long input = ⊥
