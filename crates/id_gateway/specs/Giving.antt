-- What was given last, and what one request leaves.
use Rattle.std.specs.Prelude.{◌≡◌, ◌⊎◌, ℕ, ◌+◌, ◌^◌, List, [], ◌++◌, min}
use Rattle.asp_base.specs.Moments.{Ticking, step_moment}
use Rattle.plain_desk.specs.DeskStands.{desk_state}
use Rattle.keeper.specs.declared.keeping.Keeper as keepers
use Rattle.page_requests.specs.declared.request.PageRequest.{PageRequest}
use Rattle.id_gateway.specs.declared.answer.Answer.{Answer}
use Rattle.id_gateway.specs.declared.gatekeeper.Gatekeeper.{Gatekeeper}
use Rattle.id_gateway.specs.declared.gatekeeper.Given.{Given}
use Rattle.id_gateway.specs.declared.gatekeeper.Given.TheVariants as givens
use Rattle.id_gateway.specs.declared.random.Random as randoms
use Rattle.id_gateway.specs.Answers.{answer_text}
use Rattle.id_gateway.specs.Keeping.{CutsPage, ServesPage, random_of}

-- the head of what was given
abbrev pub last_head : Given → List ℕ → List ℕ
last_head givens.Nothing head = []
last_head (givens.Answer body) head = head
last_head (givens.Closing closing) head = closing

-- its body
abbrev pub last_body : Given → List ℕ
last_body givens.Nothing = []
last_body (givens.Answer body) = body
last_body (givens.Closing closing) = []

-- what was given last
abbrev pub last_given : {K R : Type 0} → Gatekeeper K R → List ℕ
last_given now = last_head now.given now.head.items ++ last_body now.given

-- The clock went on by one moment.
pub record ClockTicks (old new : Ticking) : Type 0 where
  pub in_order : (start k : ℕ) → old.next ≡ step_moment start old.step k
      → new.next ≡ step_moment start old.step (k + 1)
  pub step : new.step ≡ old.step

-- the moment of a request: that of the clock, but at most 2^61
abbrev pub page_start : Ticking → ℕ
page_start clock = min clock.next (2 ^ 61)

module _ {K R : Type 0} (G : keepers.Ghosts K) (H : randoms.Ghosts R) where
  -- A request was answered at the clock's next moment, and its answer was given.
  pub record AnswersPage (request : PageRequest) (old new : Gatekeeper K R) : Type 0 where
    pub answer : Answer
    pub gives : last_given new ≡ answer_text answer
    pub ticks : ClockTicks old.clock new.clock
    pub serves : ServesPage G.can_count old.gate.mode (page_start old.clock) request
        (desk_state G old.desk) (desk_state G new.desk) (random_of H old.random)
        (random_of H new.random) answer

  -- A request was not answered for want of memory, or its answer was not given.
  abbrev pub CutsOff : PageRequest → Gatekeeper K R → Gatekeeper K R → Type 0
  CutsOff request old new =
      CutsPage G.can_count old.gate.mode (page_start old.clock) request (desk_state G old.desk)
      (desk_state G new.desk) (random_of H old.random) (random_of H new.random)
      ⊎ ((answer : Answer) × ServesPage G.can_count old.gate.mode (page_start old.clock) request
      (desk_state G old.desk) (desk_state G new.desk) (random_of H old.random)
      (random_of H new.random) answer)

-- What a request leaves as it was.
pub record GateKeeps {K R : Type 0} (G : keepers.Ghosts K) (old new : Gatekeeper K R) : Type 0 where
  pub gate : new.gate ≡ old.gate
  pub reader : new.reader ≡ old.reader
  pub floor : G.floor new.desk.keeper ≡ G.floor old.desk.keeper
