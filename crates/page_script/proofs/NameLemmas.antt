-- Names in their arrays.
use Rattle.std.proofs.Common.{◌≡◌, ℕ, List, ◌++◌, length, take, drop, sym, ap, subst, ◌∙◌}
use Rattle.std.specs.Prelude.{replicate}
use Rattle.std.proofs.Math.Seq.{take-append_seam}
use Rattle.std.proofs.lemmas.List.{drop-replicate}
use Rattle.page_script.specs.Names.{IsName, HoldsName, padded}

-- a name at the front of an array of zeros
pub HoldsName-front : (name : List ℕ) → IsName name
    → HoldsName (name ++ drop (length name) (replicate 16 0)) (length name)
HoldsName-front name is_name =
    let zeros = drop (length name) (replicate 16 0) in
    let front : take (length name) (name ++ zeros) ≡ name = take-append_seam name zeros in
    record {
      name = subst IsName (sym front) is_name;
      len_is = ap length front;
      rest = ap padded front ∙ ap (λ z. name ++ z) (sym (drop-replicate (length name) 16 0));
    }
