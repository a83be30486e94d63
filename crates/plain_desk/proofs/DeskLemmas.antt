-- A desk's history goes on by one entry.
use Rattle.std.proofs.Common.{zero, suc, ◌≡◌, ℕ, ◌+◌, ◌<◌, ◌≤◌, List, [], ◌∷◌, ◌++◌, Option, Some, None, refl, sym, ap, ◌∙◌, arith, inl, inr}
use Rattle.std.specs.Prelude.{IfSome}
use Rattle.std.specs.List.{AllByRecursion}
use Rattle.asp_messages.specs.declared.request.Request.{Request}
use Rattle.asp_messages.specs.declared.reply.Reply.{Reply}
use Rattle.cookie_source.specs.Counting.{counter_after}
use Rattle.session_machine.specs.declared.entry.Entry.{Entry}
use Rattle.session_machine.specs.declared.item.Item.{Item}
use Rattle.session_machine.specs.declared.item.Hold.{Hold}
use Rattle.session_machine.specs.History.{IsFreshDraw, IsHeldBelow}
use Rattle.session_machine.proofs.HistoryLemmas.{All-push}
use Rattle.shard_core.specs.declared.shard.Swept.{Swept}
use Rattle.shard_core.specs.declared.shard.Swept.TheVariants as swept
use Rattle.keeper.specs.declared.keeping.Keeper.{Ghosts}
use Rattle.shard_core.specs.ShardStands.{StandsFor, TellsAfter, asked_entry}
use Rattle.shard_core.specs.Sweeping.{swept_entry, swept_deed}
use Rattle.plain_desk.specs.Draws.{DrawsNext, draw_of, draws, deed_draws, draws_in}
use Rattle.plain_desk.specs.DeskStands.{DeskOf, DeskState, DeskStandsFor}
use Rattle.plain_desk.specs.Openings.{HasFreshCookies, HasHistoryFrom, opening_over, told_items}

pub draws_in-push : (es : List Entry) (e : Entry)
    → draws_in (es ++ e ∷ []) ≡ draws_in es + deed_draws e.deed
draws_in-push [] e = omega arith
draws_in-push (f ∷ fs) e = let rest = draws_in-push fs e in omega (arith, rest)

-- what is below a bound is below a greater one
below_more : (es : List Entry) (n m : ℕ) → n ≤ m → AllByRecursion (λ e. e.drawn < n) es
    → AllByRecursion (λ e. e.drawn < m) es
below_more [] n m le all = tt
below_more (e ∷ es) n m le all = (omega (arith, all.0), below_more es n m le all.1)

hold_more : (hold : Option Hold) (n m : ℕ) → n ≤ m → IfSome hold (λ h. h.cookie < n)
    → IfSome hold (λ h. h.cookie < m)
hold_more None n m le below = tt
hold_more (Some h) n m le below = omega (arith, below)

held_more : (item : Option Item) (n m : ℕ) → n ≤ m → IsHeldBelow n item → IsHeldBelow m item
held_more None n m le below = tt
held_more (Some item) n m le below = hold_more item.holder n m le below

-- a drawn cookie that is none of the cookies before the next is fresh
fresh_draw : (opening : List ℕ → Option Item) (es : List Entry) (next last drawn : ℕ)
    → (0 < drawn → next ≤ last) → (0 < drawn → next ≤ drawn)
    → AllByRecursion (λ e. e.drawn < next) es
    → (next ≤ last → (key : List ℕ) → IsHeldBelow next (opening key)) → IsFreshDraw opening es drawn
fresh_draw opening es next last zero left above all held = inl refl
fresh_draw opening es next last (suc n) left above all held =
    let le = above (omega arith) in
    inr (
      below_more es next (suc n) le all,
      λ key. held_more (opening key) next (suc n) le
          (held (left (omega arith)) key),
    )

module _ (CanCount : ℕ → Type 0) (first : ℕ) (opening : List ℕ → Option Item) (count : ℕ)
    (list : List Entry) (old new : DeskState)
    (stand : DeskStandsFor CanCount first opening count list old) (can : CanCount new.faults)
  where
    -- a request was answered, and drew its cookie by counting
    pub goes_on-asked : (caller t drawn : ℕ) (r : Request) (reply : Reply)
        → DrawsNext old.cookies new.cookies r.ask drawn
        → (IsFreshDraw opening list drawn → StandsFor opening count list old.told old.faults
        → StandsFor opening count (list ++ asked_entry caller t r drawn reply new.faults ∷ [])
        new.told new.faults)
        → (drawn ≡ draw_of first old.cookies.last (draws_in list) r.ask)
        × DeskStandsFor CanCount first opening count
        (list ++ asked_entry caller t r drawn reply new.faults ∷ []) new
    goes_on-asked caller t drawn r reply drew history = (
      drawn_is,
      record {
        stands = history (fresh_draw opening list old.cookies.next old.cookies.last drawn drew.left
            drew.above stand.drawn stand.held) stand.stands;
        counts = All-push (λ (f : Entry). CanCount f.faults) list entry stand.counts can;
        next = nth.1 ∙ ap (λ l. counter_after first l (draws_in list + draws r.ask)) (sym drew.last)
            ∙ ap (counter_after first new.cookies.last) (sym (draws_in-push list entry));
        in_order = let last = drew.last in let low = stand.in_order in omega (arith, last, low);
        drawn = All-push (λ (f : Entry). f.drawn < new.cookies.next) list entry
            (below_more list old.cookies.next new.cookies.next drew.rises stand.drawn) drew.below;
        held = λ left key. held_more (opening key) old.cookies.next new.cookies.next drew.rises
            (stand.held (let last = drew.last in let rises = drew.rises in
            omega (arith, left, last, rises)) key);
      },
    )
      where
        entry : Entry
        entry = asked_entry caller t r drawn reply new.faults

        nth : (drawn ≡ draw_of first old.cookies.last (draws_in list) r.ask)
            × (new.cookies.next
            ≡ counter_after first old.cookies.last (draws_in list + draws r.ask))
        nth = drew.nth first (draws_in list) stand.in_order stand.next

        drawn_is : drawn ≡ draw_of first old.cookies.last (draws_in list) r.ask
        drawn_is = nth.0

    swept_draws_none : (s : Swept) → deed_draws (swept_deed s) ≡ 0
    swept_draws_none (swept.Removed key) = refl
    swept_draws_none swept.Nothing = refl
    swept_draws_none swept.KeeperFault = refl
    swept_draws_none swept.NoMemory = refl

    -- somebody looked for an expired item
    pub goes_on-swept : (caller t : ℕ) (s : Swept) → 0 < old.cookies.next
        → StandsFor opening count (list ++ swept_entry caller t s new.faults ∷ []) new.told
        new.faults
        → DeskStandsFor CanCount first opening count
        (list ++ swept_entry caller t s new.faults ∷ []) (record new { cookies = old.cookies })
    goes_on-swept caller t s some stands = record {
      stands = stands;
      counts = All-push (λ (f : Entry). CanCount f.faults) list entry stand.counts can;
      next =
          let more = draws_in-push list entry in
          let none = swept_draws_none s in
          stand.next ∙ ap (counter_after first old.cookies.last) (omega (arith, more, none));
      in_order = stand.in_order;
      drawn = All-push (λ (f : Entry). f.drawn < old.cookies.next) list entry stand.drawn some;
      held = stand.held;
    }
      where
        entry : Entry
        entry = swept_entry caller t s new.faults

-- ---- a beginning

tells_itself : (told : Option (List ℕ → Option Item)) (count : ℕ)
    → TellsAfter (told_items told) count [] told
tells_itself None count = tt
tells_itself (Some items) count = (
  record {
    formed = tt;
    counts = tt;
    draws = tt;
    fresh_draws = tt;
    keys = λ key. tt;
    looks = tt;
  },
  λ key. refl,
)

-- a desk stands for the history with no entry that begins with its own items
pub begins : {K : Type 0} (G : Ghosts K) (desk : DeskOf K) → 0 < desk.cookies.next
    → desk.cookies.next ≤ desk.cookies.last + 1
    → HasFreshCookies (opening_over G desk.keeper desk.cookies)
    → HasHistoryFrom G (opening_over G desk.keeper desk.cookies) [] desk
begins G desk some in_order fresh = record {
  stands = record {
    counted = refl;
    caused = tt;
    told_is = tells_itself (G.told desk.keeper) (G.count desk.keeper);
  };
  counts = tt;
  next = omega (arith, in_order);
  in_order = in_order;
  drawn = tt;
  held = fresh;
}
