-- What a lexical form and a datatype are as a number: the number, or why there is none.
use Rattle.std.specs.Prelude.{List, ℕ, cond, ◌&&◌, Option, Some, None}
use Rattle.term_core.specs.Numbers.{Number, Whole, Bounds, xsd_decimal, is_type, bounds_of, is_within, is_held}
use Rattle.term_core.specs.Numbers.{is_integer, integer_value, is_decimal, decimal_value}

-- a number; a value of the type that is past the numbers that are kept; a form outside the type's
-- grammar or range; or a type that is none of numbers (XSD 1.1 part 2, sections 3.3.3 and 3.4.13 to 3.4.25)
pub data Form : Type 0 where
  Exact : Number → Form
  Wide : Form
  Outside : Form
  Other : Form

-- the number where it is kept
abbrev pub exact_or_wide : Option Number → Form
exact_or_wide None = Wide
exact_or_wide (Some n) = Exact n

-- a text as an xsd:decimal (XSD 3.3.3.1)
abbrev pub decimal_form : List ℕ → Form
decimal_form text = cond (is_decimal text) (exact_or_wide (decimal_value text)) Outside

-- a text as an integer of a type of that range, if there is such a type (XSD 3.4.13.1)
abbrev pub integer_form : Option Bounds → List ℕ → Form
integer_form None text = Other
integer_form (Some bounds) text =
    cond (is_integer text && is_within bounds (integer_value text))
    (exact_or_wide (cond (is_held (integer_value text)) (Some (Whole (integer_value text))) None)) Outside

-- a text as a value of a datatype (XSD 2.3: the lexical mapping)
abbrev pub form_of : List ℕ → List ℕ → Form
form_of text datatype = cond (is_type xsd_decimal datatype) (decimal_form text) (integer_form (bounds_of datatype) text)

-- the number, if there is one
abbrev pub number_in : Form → Option Number
number_in (Exact n) = Some n
number_in Wide = None
number_in Outside = None
number_in Other = None
