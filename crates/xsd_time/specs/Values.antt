-- What the crate's own moments mean, as those of XML Schema (XSD 1.1 part 2, sections 3.3.7 and 3.3.9).
use Rattle.std.specs.Prelude.{Option, Some, None}
use Rattle.term_core.specs.Moments as moments
use Rattle.xsd_time.specs.declared.moment.Moment.{Moment}
use Rattle.xsd_time.specs.declared.moment.Moment.TheVariants.{Instant, Local, Day}

-- the moment
abbrev pub moment_in : Moment → moments.Moment
moment_in (Instant nanos) = moments.Instant nanos
moment_in (Local nanos) = moments.Local nanos
moment_in (Day day) = moments.Day day

-- the moment, if there is one
abbrev pub moment_found : Option Moment → Option moments.Moment
moment_found None = None
moment_found (Some moment) = Some (moment_in moment)
