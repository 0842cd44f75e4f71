-- What a view of a term means, as a value of the tables.
use Rattle.std.specs.Prelude.{IsTrue}
use Rattle.term_core.specs.Numbers.{is_kept}
use Rattle.xsd_num.specs.Values.{number_of}
use Rattle.xsd_time.specs.Values.{moment_in}
use Rattle.value_table.specs.Values as values
use Rattle.expr_value.specs.declared.value.Value.{Value}
use Rattle.expr_value.specs.declared.value.Value.TheVariants.{Numeric, WideNumber, Logical, IllFormed, Simple, Temporal, Tagged, Opaque, Resource}

-- the value of the tables
abbrev pub value_in : Value → values.Value
value_in (Numeric number) = values.Numeric (number_of number)
value_in WideNumber = values.WideNumber
value_in (Logical truth) = values.Logical truth
value_in IllFormed = values.IllFormed
value_in (Simple text) = values.Simple text.now
value_in (Temporal moment) = values.Temporal (moment_in moment)
value_in (Tagged text tag) = values.Tagged text.now tag.now
value_in Opaque = values.Opaque
value_in Resource = values.Resource

-- a number is kept as it has to be: at its least scale, with at most 18 places
abbrev pub IsKeptValue : Value → Type 0
IsKeptValue (Numeric number) = IsTrue (is_kept (number_of number))
IsKeptValue WideNumber = Unit {0}
IsKeptValue (Logical truth) = Unit {0}
IsKeptValue IllFormed = Unit {0}
IsKeptValue (Simple text) = Unit {0}
IsKeptValue (Temporal moment) = Unit {0}
IsKeptValue (Tagged text tag) = Unit {0}
IsKeptValue Opaque = Unit {0}
IsKeptValue Resource = Unit {0}
