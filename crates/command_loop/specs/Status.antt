-- The exit status of an ending.
use Rattle.std.specs.Prelude.{ℕ}
use Rattle.command_loop.specs.declared.ending.RunEnd.{RunEnd}
use Rattle.command_loop.specs.declared.ending.RunEnd.TheVariants as ends

-- the verdict's, or the status of what stopped the run
abbrev pub status_of_run : {V : Type 0} → (V → ℕ) → RunEnd V → ℕ
status_of_run number (ends.Over verdict) = number verdict
status_of_run number ends.ReadFault = 4
status_of_run number ends.WriteFault = 5
status_of_run number ends.NoMemory = 6
status_of_run number ends.Long = 7
