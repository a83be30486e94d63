-- What is said of a consumer at each call.
use Rattle.std.specs.Prelude.{Bool, ℕ, ◌+◌, ◌≤◌, List, ◌++◌, length, ⊤}
use Rattle.asp_base.specs.Limits.{most_input}
use Rattle.command_loop.specs.declared.consumer.Stepped.{Stepped}
use Rattle.command_loop.specs.declared.consumer.Stepped.TheVariants as steps

-- How it goes on with a consumer that gave something: it isn't over; it is over so, whatever
-- follows (and whether it might have been fed more); or it is over so, where no bytes follow.
pub data Going (V : Type 0) : Type 0 where
  GoesOn : Going V
  OverAnyhow : (more : Bool) (over : V) → Going V
  OverAtEnd : (over : V) → Going V

-- the bytes that were given in two parts
abbrev pub both_parts : List ℕ × List ℕ → List ℕ
both_parts parts = parts.0 ++ parts.1

module _ {C : Type 0} (Went : C → C → List ℕ → List ℕ → Type 0) where
  -- wherever the consumer stood, this follows: of the consumer at the start of the run, the bytes
  -- that it was fed, and those that it gave
  abbrev pub FollowsFrom : C → (C → List ℕ → List ℕ → Type 0) → Type 0
  FollowsFrom old Fact = (start : C) (fed given : List ℕ) → Went start old fed given
      → Fact start fed given

  -- the bytes that it was fed, and so many more, are at most the most of an input
  abbrev pub IsShort : C → ℕ → Type 0
  IsShort now count = (start : C) × (fed : List ℕ) × (given : List ℕ) × Went start now fed given
      × (length fed + count ≤ most_input)

-- a fact of how a consumer is over
abbrev pub IfConsumerOver : {V : Type 0} → Stepped V → (V → Type 0) → Type 0
IfConsumerOver (steps.Over over) Fact = Fact over
IfConsumerOver steps.Did Fact = ⊤
IfConsumerOver steps.More Fact = ⊤
IfConsumerOver steps.NoMemory Fact = ⊤
