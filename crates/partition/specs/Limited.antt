-- A world whose limits have changed.
use Rattle.visit_core.specs.declared.visit_terms.Limits.{Limits}
use Rattle.page_script.specs.World.{World}

-- the world, with these limits for its pages to come
abbrev pub limited : Limits → World → World
limited limits world = record world { limits = limits }
