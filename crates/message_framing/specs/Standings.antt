-- How often a field stands, as the code keeps it.
use Rattle.std.specs.Prelude.{ℕ, List}
use Rattle.message_framing.specs.declared.head.FieldOccurrence.{FieldOccurrence}
use Rattle.message_framing.specs.declared.head.FieldOccurrence.TheVariants.{Absent, One, Twice}
use Rattle.asp_messages.specs.Fields as fields

-- how often the field stands
abbrev pub standing_of : FieldOccurrence → fields.Occurrence
standing_of Absent = fields.absent
standing_of (One value) = fields.one value.now
standing_of Twice = fields.twice

-- with one value more
abbrev pub one_more_value : fields.Occurrence → List ℕ → fields.Occurrence
one_more_value fields.absent value = fields.one value
one_more_value (fields.one other) value = fields.twice
one_more_value fields.twice value = fields.twice
