-- The cookies that asks draw, by counting.
use Rattle.std.specs.Prelude.{◌≡◌, ℕ, ◌+◌, ◌<◌, ◌≤◌, ◌^◌, List, [], ◌∷◌, unwrap_or}
use Rattle.asp_messages.specs.declared.request.Ask.{Ask}
use Rattle.asp_messages.specs.declared.request.Ask.TheVariants.{Acquire}
use Rattle.cookie_source.specs.Counting.{Counter, nth_cookie, counter_after}
use Rattle.session_machine.specs.declared.entry.Entry.{Entry}
use Rattle.session_machine.specs.declared.entry.Deed.{Deed}
use Rattle.session_machine.specs.declared.entry.Deed.TheVariants.{Asked}

-- how many cookies an ask draws
abbrev pub draws : Ask → ℕ
draws Acquire = 1
draws ask = 0

-- what an ask draws after j draws: the j-th cookie from the first on, 0 past the last; only an
-- acquire draws
abbrev pub draw_of : ℕ → ℕ → ℕ → Ask → ℕ
draw_of first_cookie last j Acquire = unwrap_or (nth_cookie first_cookie last j) 0
draw_of first_cookie last j ask = 0

-- how many cookies a deed draws
abbrev pub deed_draws : Deed → ℕ
deed_draws (Asked request) = draws request.ask
deed_draws deed = 0

-- how many cookies a history draws
abbrev pub draws_in : List Entry → ℕ
draws_in [] = 0
draws_in (e ∷ es) = deed_draws e.deed + draws_in es

-- the next cookie is one, and so is the last
abbrev pub CookiesFit : Counter → Type 0
CookiesFit cookies = (0 < cookies.next) × (cookies.last < 2 ^ 63)

-- The ask drew its cookie by counting.
pub record DrawsNext (old new : Counter) (ask : Ask) (drawn : ℕ) : Type 0 where
  pub nth : (first_cookie j : ℕ) → first_cookie ≤ old.last + 1 → old.next
      ≡ counter_after first_cookie old.last j
      → (drawn ≡ draw_of first_cookie old.last j ask)
      × (new.next ≡ counter_after first_cookie old.last (j + draws ask))
  pub left : 0 < drawn → old.next ≤ old.last
  pub above : 0 < drawn → old.next ≤ drawn
  pub below : drawn < new.next
  pub rises : old.next ≤ new.next
  pub last : new.last ≡ old.last
