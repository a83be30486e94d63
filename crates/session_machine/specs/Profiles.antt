-- What the profiles of the rules differ in: when an item ends however often it is touched, and what
-- is told of a lock that is in the way. Moments are milliseconds.
use Rattle.std.specs.Prelude.{ℕ, ◌+◌, ◌-◌, ◌^◌, Option, Some, None}
use Rattle.session_machine.specs.declared.item.Hold.{Hold}
use Rattle.session_machine.specs.declared.item.Profile.{Profile}
use Rattle.session_machine.specs.declared.item.Profile.TheVariants.{One, Two, Three}

-- the profile that is served now
abbrev pub newest : Profile
newest = Three

-- the end of an item that begins at the moment: a day later, and in the first profile never
abbrev pub end_of : Profile → ℕ → ℕ
end_of One t = 2 ^ 63 - 1
end_of Two t = t + 86400000
end_of Three t = t + 86400000

-- the moment of the acquisition, where a reply tells it
abbrev pub told_since : Profile → Hold → Option ℕ
told_since One hold = None
told_since Two hold = None
told_since Three hold = Some hold.since
