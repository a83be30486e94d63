-- That an ending is in its range is one fact, which has one proof.
use Rattle.std.specs.Prelude.{Option, Some, None, IfSome}
use Rattle.visit_core.specs.declared.act.Ending.{Ending}
use Rattle.visit_core.specs.declared.act.Ending.TheVariants.{Save, Keep, Abandon}
use Rattle.visit_core.specs.Terms.{EndingFits}
use Rattle.std.proofs.Props.{props}

ending-prop : (ending : Ending) → IsProp (EndingFits ending)
ending-prop (Save body minutes) = hlevel props
ending-prop Keep = hlevel props
ending-prop Abandon = hlevel props

pub ending_fits-prop : (ending : Option Ending) → IsProp (IfSome ending EndingFits)
ending_fits-prop None = hlevel props
ending_fits-prop (Some ending) = ending-prop ending
