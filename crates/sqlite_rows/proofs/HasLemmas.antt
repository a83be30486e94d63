-- What a list has, through maps, permutations and the removal of rowids.
use Rattle.std.proofs.Common.{◌≡◌, inl, inr, ℤ, List, [], ◌∷◌, map, false, refl, sym, ap, subst}
use Rattle.std.specs.List.{AllByRecursion}
use Rattle.std.specs.List.Sorted.{IsPermutation}
use Rattle.std.proofs.lemmas.List.Sorted.{All-permutation, IsPermutation-sym}
use Rattle.std.proofs.lemmas.List.Elements.{All-from_recursion, recursion_from_All}
use Rattle.std.proofs.lemmas.Bool.{not-true}
use Rattle.sqlite_value.specs.Order.{Row}
use Rattle.sqlite_trees.specs.Tree.{has_rowid, without_rowid}
use Rattle.sqlite_rules.specs.Lists.{Has}
use Rattle.sqlite_rules.specs.Edit.{without_all}
use Rattle.sqlite_rules.proofs.ListLemmas.{has_filtered, has_kept}
use Rattle.std.specs.Prelude.{not}

pub all_at : {X : Type 0} (P : X → Type 0) (xs : List X) → AllByRecursion P xs → (x : X) → Has xs x
    → P x
all_at P [] all x h = absurd h
all_at P (y ∷ xs) all x (inl same) = subst P (sym same) all.0
all_at P (y ∷ xs) all x (inr later) = all_at P xs all.1 x later

pub all_from : {X : Type 0} (P : X → Type 0) (xs : List X) → ((x : X) → Has xs x → P x)
    → AllByRecursion P xs
all_from P [] each = tt
all_from P (y ∷ xs) each = (each y (inl refl), all_from P xs (λ x h. each x (inr h)))

pub has_map : {X Y : Type 0} (f : X → Y) (xs : List X) (x : X) → Has xs x → Has (map f xs) (f x)
has_map f [] x h = absurd h
has_map f (y ∷ xs) x (inl same) = inl (ap f same)
has_map f (y ∷ xs) x (inr later) = inr (has_map f xs x later)

pub mapped : {X Y : Type 0} (f : X → Y) (xs : List X) (y : Y) → Has (map f xs) y → (x : X)
    × Has xs x × (y ≡ f x)
mapped f [] y h = absurd h
mapped f (x ∷ xs) y (inl same) = (x, inl refl, same)
mapped f (x ∷ xs) y (inr later) = let r = mapped f xs y later in (r.0, inr r.1, r.2)

-- two orders of one list have the same elements
pub has_moved : {X : Type 0} (xs ys : List X) → IsPermutation xs ys → (x : X) → Has xs x → Has ys x
has_moved xs ys same x h =
    all_at (Has ys) xs (recursion_from_All (Has ys) xs
    (All-permutation (Has ys) ys xs (IsPermutation-sym xs ys same)
    (All-from_recursion (Has ys) ys (all_from (Has ys) ys (λ y k. k))))) x h

-- what is left has none of the rowids
pub left_lacks : (ids : List ℤ) (rows : List Row) (x : Row) → Has (without_all rows ids) x
    → (id : ℤ) → Has ids id → has_rowid id x ≡ false
left_lacks [] rows x h id among = absurd among
left_lacks (n ∷ ids) rows x h id (inr later) = left_lacks ids (without_rowid n rows) x h id later
left_lacks (n ∷ ids) rows x h id (inl same) =
    let there = has_left ids (without_rowid n rows) x h in
    subst (λ m. has_rowid m x ≡ false) (sym same)
    (not-true _ (has_filtered (λ r. not (has_rowid n r)) rows x there).1)
  where
    has_left : (ids : List ℤ) (rows : List Row) (x : Row) → Has (without_all rows ids) x
        → Has rows x
    has_left [] rows x h = h
    has_left (m ∷ ids) rows x h =
        (has_filtered (λ r. not (has_rowid m r)) rows x (has_left ids (without_rowid m rows) x h)).0

-- a row with none of the rowids is left
pub left_keeps : (ids : List ℤ) (rows : List Row) (x : Row) → Has rows x
    → ((id : ℤ) → Has ids id → has_rowid id x ≡ false) → Has (without_all rows ids) x
left_keeps [] rows x h apart = h
left_keeps (n ∷ ids) rows x h apart =
    left_keeps ids (without_rowid n rows) x
    (has_kept (λ r. not (has_rowid n r)) rows x h (rw (apart n (inl refl))))
    (λ id among. apart id (inr among))
