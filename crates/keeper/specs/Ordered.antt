-- Items in the order of their keys, and the set of the moments at which they expire.
use Rattle.std.specs.Prelude.{◌≡◌, ℕ, List, Bool, true, false, nat_eq, Option, Some, None, IfSome, if◌then◌else◌}
use Rattle.std.specs.Ordering.{nat_cmp, ordering_then}
use Rattle.std.specs.Cmp.Lexicographic.{slice_cmp}
use Rattle.std.specs.declared.cmp.Ordering.{Ordering}
use Rattle.std.specs.Map.{lookup}
use Rattle.std.specs.BTreeMap.{is_at}
use Rattle.std.specs.BTreeSet.{BTreeSet, contains}
use Rattle.asp_messages.specs.Ranges.{KeyFits}
use Rattle.session_machine.specs.declared.item.Item.{Item}
use Rattle.session_machine.specs.Liveness.{ItemFits, expiry}
use Rattle.keeper.specs.declared.map_keeper.Due.{Due}

-- the item of the key
abbrev pub item_of : List (List ℕ × Item) → List ℕ → Option Item
item_of entries key = lookup (is_at (slice_cmp nat_cmp key)) entries

-- by the moment, and then by the key
abbrev pub due_cmp : Due → Due → Ordering
due_cmp due other =
    ordering_then (nat_cmp due.expiry other.expiry) (slice_cmp nat_cmp due.key other.key)

-- there is an item, and it expires at this moment
abbrev pub expires_at : Option Item → ℕ → Bool
expires_at None moment = false
expires_at (Some item) moment = nat_eq (expiry item) moment

-- the set has the moment and the key of each item of the map, and nothing else
abbrev pub HoldsDues : (List ℕ → Option Item) → BTreeSet Due → Type 0
HoldsDues items dues =
    (due : Due) → contains due_cmp dues due ≡ expires_at (items due.key) due.expiry

-- the set has the key's pair of the second moment, and of the first only where both are one
abbrev pub MovesDue : BTreeSet Due → BTreeSet Due → List ℕ → ℕ → ℕ → Type 0
MovesDue old new key from to = (due : Due) → contains due_cmp new due
    ≡ (if is_at (due_cmp (record { expiry = to; key = key })) due then true
    else (if is_at (due_cmp (record { expiry = from; key = key })) due then false
    else contains due_cmp old due))

-- each key and each item is in range
abbrev pub AllFit : (List ℕ → Option Item) → Type 0
AllFit items = (key : List ℕ) → IfSome (items key) (λ item. KeyFits key × ItemFits item)

-- Each key and each item is in range, and the set is that of the map.
pub record IsKept (entries : List (List ℕ × Item)) (dues : BTreeSet Due) : Type 0 where
  pub fits : AllFit (item_of entries)
  pub holds : HoldsDues (item_of entries) dues
