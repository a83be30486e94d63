-- When a desk stands for a history.
use Rattle.std.specs.Prelude.{◌≡◌, ℕ, ◌+◌, ◌<◌, ◌≤◌, ◌==◌, List, [], ◌∷◌, Option, length, if◌then◌else◌}
use Rattle.std.specs.List.{AllByRecursion}
use Rattle.asp_messages.specs.declared.reply.Reply.TheVariants.{CookiesOut}
use Rattle.session_machine.specs.declared.entry.Entry.{Entry}
use Rattle.session_machine.specs.declared.item.Item.{Item}
use Rattle.session_machine.specs.History.{nothing}
use Rattle.shard_core.specs.ShardStands.{StandsFor}
use Rattle.turnstile.specs.declared.stands.TurnTerms.{TurnTerms}
use Rattle.turnstile.specs.TurnRule.{end_of_places}

-- the cookies drawn in a history, in order
abbrev pub cookies_in : List Entry → List ℕ
cookies_in [] = []
cookies_in (e ∷ es) = if e.drawn == 0 then cookies_in es else e.drawn ∷ cookies_in es

-- an entry drew no cookie, or one from the first to the last of these terms
abbrev pub DrewWithin : TurnTerms → Entry → Type 0
DrewWithin terms e =
    0 < e.drawn → (terms.first_number ≤ e.drawn) × (e.drawn ≤ terms.last_number)

-- What a drawer knows of its source: the cookies that it drew, in order, the counter's word that it
-- last saw, and the source's first and last cookie.
pub record Drawn : Type 0 where
  pub cookies : List ℕ
  pub seen : ℕ
  pub first_cookie : ℕ
  pub last_cookie : ℕ

-- A desk whose keeper tells `told` and has counted `now` faults, and whose drawer knows `drawn`,
-- stands for these entries from the first place of the terms on. Before them the keeper was empty
-- and had counted no fault.
pub record StoreDeskStands (CanCount : ℕ → Type 0) (terms : TurnTerms) (list : List Entry)
    (told : Option (List ℕ → Option Item)) (now : ℕ) (drawn : Drawn) : Type 0 where
  -- each entry has a place
  pub places : terms.first_place + length list ≤ end_of_places
  -- the keeper's count is that of the last entry; where it tells, the history is legal and it has
  -- the items after it
  pub keeper : StandsFor nothing 0 list told now
  -- each count in it is one that a keeper of this type can have
  pub counts : AllByRecursion (λ e. CanCount e.faults) list
  -- the cookies of the source are those of the terms, and each that was drawn is one of them
  pub source : (drawn.first_cookie ≡ terms.first_number)
      × (drawn.last_cookie ≡ terms.last_number)
  pub within : AllByRecursion (DrewWithin terms) list
  -- the drawer drew the cookies in it, and no others
  pub cookies : drawn.cookies ≡ cookies_in list
  -- where it says that no cookie was left, the drawer has seen the counter past its last one
  pub cookies_out : AllByRecursion (λ e. e.reply ≡ CookiesOut → drawn.last_cookie < drawn.seen) list
