use Rattle.std.proofs.Common.{take}
use Rattle.page_script.specs.PagePlaces.{IsUnused}
use Rattle.page_script.proofs.script.place_of.Given as goal

abbrev pub invariant-loop-i : goal.invariant-loop-i
invariant-loop-i l = IsUnused (take l.i l.pages) l.name
