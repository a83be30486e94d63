-- How a history begins over a keeper with no items.
use Rattle.std.proofs.Common.{◌≡◌, ◌≤◌, ℕ, List, Option, Some, None, refl, sym, ap, ◌∙◌, subst}
use Rattle.std.proofs.Math.Path.{fun_ext}
use Rattle.cookie_source.specs.Counting.{Counter}
use Rattle.session_machine.specs.declared.item.Item.{Item}
use Rattle.session_machine.specs.History.{IsHeldBelow, nothing}
use Rattle.keeper.specs.declared.keeping.Keeper.{Ghosts}
use Rattle.keeper.specs.Items.{IsEmptyTold}
use Rattle.asp_messages.specs.declared.reply.Reply.{Reply}
use Rattle.asp_messages.specs.declared.request.Request.{Request}
use Rattle.session_machine.specs.Machine.{Circumstances}
use Rattle.shard_core.specs.Acting.{TellsStep}
use Rattle.plain_desk.specs.Openings.{Opening, HasFreshCookies, NeverBegins, opening_over, told_items}

no_items : (told : Option (List ℕ → Option Item)) → IsEmptyTold told → told_items told ≡ nothing
no_items None empty = refl
no_items (Some items) empty = fun_ext (λ key. empty key)

-- it begins with no items, and with no fault where none was counted
pub opening-empty : {K : Type 0} (G : Ghosts K) (keeper : K) (cookies : Counter)
    → IsEmptyTold (G.told keeper) → G.count keeper ≡ 0
    → opening_over G keeper cookies ≡ record { items = nothing; count = 0; cookies = cookies }
opening-empty G keeper cookies empty no_faults =
    ap (λ (items : List ℕ → Option Item). let o : Opening = record {
      items = items;
      count = G.count keeper;
      cookies = cookies;
    } in o) (no_items (G.told keeper) empty)
    ∙ ap (λ (count : ℕ). let o : Opening = record {
      items = nothing;
      count = count;
      cookies = cookies;
    } in o) no_faults

-- and no cookie is held
pub fresh-empty : {K : Type 0} (G : Ghosts K) (keeper : K) (cookies : Counter)
    → IsEmptyTold (G.told keeper) → HasFreshCookies (opening_over G keeper cookies)
fresh-empty G keeper cookies empty left key =
    subst (λ (items : List ℕ → Option Item). IsHeldBelow cookies.next (items key))
    (sym (no_items (G.told keeper) empty)) tt

-- ---- a keeper never begins to tell

pub never-steps : (old new : Option (List ℕ → Option Item)) (r : Request) (at : Circumstances)
    (reply : Reply) → TellsStep old new r at reply → NeverBegins old new
never-steps (Some old) new r at reply steps is = absurd (cc is)
never-steps None None r at reply steps is = refl
never-steps None (Some new) r at reply steps is = absurd steps
