-- What a load is told, and how its text is written.
use Rattle.std.specs.Prelude.{◌≡◌, ◌⊎◌, ℕ, ◌<◌, ◌≤◌, ◌^◌, List, Option}
use Rattle.asp_base.specs.Outside.{Takes, TakesFront}
use Rattle.load_generator.specs.declared.load.Load.{Load}

-- at most 1,000,000 requests, and a seed below 2^31
abbrev pub LoadFits : Load → Type 0
LoadFits load = (load.requests ≤ 1000000) × (load.seed < 2 ^ 31)

-- the text was written on status 0, a front of it on 5, and nothing on 6; there is no other
abbrev pub WritesCounts : ℕ → Option (List ℕ) → Option (List ℕ) → List ℕ → Type 0
WritesCounts status sink sink' text =
    ((status ≡ 0) × Takes sink sink' text) ⊎ (((status ≡ 5) × TakesFront sink sink' text)
    ⊎ ((status ≡ 6) × (sink' ≡ sink)))
