-- What clauses see of a turnstile's pass to one shard, and of its roll.
use Rattle.std.specs.Prelude.{◌≡◌, ℕ, ◌<◌, ◌^◌, false}
use Rattle.session_machine.specs.declared.entry.Entry.{Entry}
use Rattle.turnstile.specs.declared.stands.Stands.{Ghosts}
use Rattle.turnstile.specs.declared.turns.Turnstile.{Turnstile}
use Rattle.turnstile.specs.declared.turns.TurnPass.{TurnPass}
use Rattle.turnstile.specs.declared.turns.TurnRoll.{TurnRoll}
use Rattle.turnstile.specs.Turns.{first_place_of, turnstile_id, roll_home, passes_made, pass_home, caller_number, front, own_calls, ticket_seen, has_turn}
use Rattle.state_store.specs.StoreTurns.{View, Call, calls_by}

module _ {S : Type 0} {G : Ghosts S Entry} where
  abbrev pub view_of : TurnPass S Entry G → View
  view_of p = record { front = front p; own = own_calls p; ticket = ticket_seen p }

  -- a call with this pass, at this moment
  abbrev pub call_with : Turnstile S Entry → TurnPass S Entry G → ℕ → Call
  call_with turns p t =
      record { first_place = first_place_of turns; caller = caller_number p; moment = t }

  -- between two turns it is a pass of this turnstile, under this caller number, and its own calls
  -- are the entries of that number
  pub record IsPart (turns : Turnstile S Entry) (caller : ℕ) (p : TurnPass S Entry G) : Type 0 where
    pub home : pass_home p ≡ turnstile_id turns
    pub number : caller_number p ≡ caller
    pub few : caller < 2 ^ 63
    pub outside : has_turn p ≡ false
    pub own : own_calls p ≡ calls_by caller (front p)

  -- it is the roll of this turnstile, and made so many passes
  pub record IsRollPart (turns : Turnstile S Entry) (made : ℕ) (r : TurnRoll S Entry G)
      : Type 0 where
    pub home : roll_home r ≡ turnstile_id turns
    pub made_so_many : passes_made r ≡ made
