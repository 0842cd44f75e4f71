-- What a term is to the operators: its value, its truth, equality and less (SPARQL 1.1, sections 17.2 to 17.4.1).
-- A table has one line a rule; None stands for the error.
use Rattle.std.specs.Prelude.{ℕ, unsigned_abs, Bool, true, false, not, ◌||◌, ◌&&◌, ◌==◌, if◌then◌else◌}
use Rattle.std.specs.Prelude.{codes, List, Option, Some, None, option_map}
use Rattle.std.specs.Ordering.{is_lt, is_eq, bool_cmp}
use Rattle.std.specs.declared.cmp.Ordering.{Ordering}
use Rattle.std.specs.Str.{bytes_eq}
use Rattle.term_core.specs.declared.term.Term.{Term}
use Rattle.term_core.specs.declared.term.Term.TheVariants.{Iri, Blank, Literal}
use Rattle.term_core.specs.Order.{bytes_cmp}
use Rattle.term_core.specs.Mappings.{same_term}
use Rattle.term_core.specs.Texts.{xsd_string, xsd_boolean}
use Rattle.term_core.specs.Numbers.{Number, numerator, compared, is_empty, is_type}
use Rattle.term_core.specs.Literals.{Form, Exact, Wide, Outside, Other, form_of}
use Rattle.term_core.specs.Moments.{Moment, moment_of, moment_cmp}

-- a term as a value
pub data Value : Type 0 where
  -- a number that is kept
  Numeric : (number : Number) → Value
  -- a number past 128 bits or 18 places
  WideNumber : Value
  -- a truth value
  Logical : (truth : Bool) → Value
  -- a form that its type, one of numbers or that of truth values, does not have
  IllFormed : Value
  -- an xsd:string
  Simple : (text : List ℕ) → Value
  -- a moment, with a zone or without one, or a day
  Temporal : (moment : Moment) → Value
  -- a string with a language tag
  Tagged : (text tag : List ℕ) → Value
  -- any other literal
  Opaque : Value
  -- an IRI or a blank node
  Resource : Value

-- true, 1, false and 0, and no other text (XSD 1.1 part 2, section 3.3.2.1)
abbrev pub boolean_of : List ℕ → Value
boolean_of text =
    if bytes_eq text (codes "true") || bytes_eq text (codes "1") then Logical true
    else if bytes_eq text (codes "false") || bytes_eq text (codes "0") then Logical false
    else IllFormed

-- a literal of any other datatype: a moment, if it is read as one (XSD 1.1 part 2, sections 3.3.7 and 3.3.9)
abbrev pub moment_or_opaque : Option Moment → Value
moment_or_opaque None = Opaque
moment_or_opaque (Some moment) = Temporal moment

-- a literal whose datatype is none of numbers and that has no tag
abbrev pub text_value : List ℕ → List ℕ → Value
text_value text datatype =
    if is_type xsd_string datatype then Simple text
    else if is_type xsd_boolean datatype then boolean_of text
    else moment_or_opaque (moment_of text datatype)

-- a literal without a tag: by what it is as a number
abbrev pub typed_value : Form → List ℕ → List ℕ → Value
typed_value (Exact number) text datatype = Numeric number
typed_value Wide text datatype = WideNumber
typed_value Outside text datatype = IllFormed
typed_value Other text datatype = text_value text datatype

-- the value of a term (RDF 1.1 Concepts, section 3.3: a literal with a tag is a string of that language)
abbrev pub value_of : Term → Value
value_of (Iri iri) = Resource
value_of (Blank label) = Resource
value_of (Literal text datatype tag) =
    if is_empty tag then typed_value (form_of text datatype) text datatype else Tagged text tag

-- the number, if the value is one that is kept
abbrev pub kept_number : Value → Option Number
kept_number (Numeric number) = Some number
kept_number WideNumber = None
kept_number (Logical truth) = None
kept_number IllFormed = None
kept_number (Simple text) = None
kept_number (Temporal moment) = None
kept_number (Tagged text tag) = None
kept_number Opaque = None
kept_number Resource = None

-- whether a number is zero
abbrev pub is_zero : Number → Bool
is_zero number = unsigned_abs (numerator number) == 0

-- the truth of a value (SPARQL 1.1, section 17.2.2, the effective boolean value); of a number that is not kept it is unknown
abbrev pub truth_of_value : Value → Option Bool
truth_of_value (Numeric number) = Some (not (is_zero number))
truth_of_value WideNumber = None
truth_of_value (Logical truth) = Some truth
truth_of_value IllFormed = Some false
truth_of_value (Simple text) = Some (not (is_empty text))
truth_of_value (Temporal moment) = None
truth_of_value (Tagged text tag) = Some (not (is_empty text))
truth_of_value Opaque = None
truth_of_value Resource = None

-- the truth of a term
abbrev pub truth : Term → Option Bool
truth t = truth_of_value (value_of t)

-- a number against a value: two numbers are compared by value (SPARQL 1.1, section 17.3)
abbrev pub against_number : Number → Value → Option Ordering
against_number a (Numeric b) = Some (compared a b)
against_number a WideNumber = None
against_number a (Logical truth) = None
against_number a IllFormed = None
against_number a (Simple text) = None
against_number a (Temporal moment) = None
against_number a (Tagged text tag) = None
against_number a Opaque = None
against_number a Resource = None

-- a truth value against a value: of two truth values false comes first (SPARQL 1.1, section 17.3)
abbrev pub against_boolean : Bool → Value → Option Ordering
against_boolean a (Numeric number) = None
against_boolean a WideNumber = None
against_boolean a (Logical b) = Some (bool_cmp a b)
against_boolean a IllFormed = None
against_boolean a (Simple text) = None
against_boolean a (Temporal moment) = None
against_boolean a (Tagged text tag) = None
against_boolean a Opaque = None
against_boolean a Resource = None

-- a string against a value: two strings are compared by code points, which is by bytes (SPARQL 1.1, section 17.3)
abbrev pub against_string : List ℕ → Value → Option Ordering
against_string a (Numeric number) = None
against_string a WideNumber = None
against_string a (Logical truth) = None
against_string a IllFormed = None
against_string a (Simple b) = Some (bytes_cmp a b)
against_string a (Temporal moment) = None
against_string a (Tagged text tag) = None
against_string a Opaque = None
against_string a Resource = None

-- a moment against a value: two of one kind are compared by the number (SPARQL 1.1, section 17.3)
abbrev pub against_moment : Moment → Value → Option Ordering
against_moment a (Numeric number) = None
against_moment a WideNumber = None
against_moment a (Logical truth) = None
against_moment a IllFormed = None
against_moment a (Simple text) = None
against_moment a (Temporal b) = moment_cmp a b
against_moment a (Tagged text tag) = None
against_moment a Opaque = None
against_moment a Resource = None

-- the order of two values of one class that has an order: numbers, truth values, strings without a tag, moments with a
-- zone, those without one, or days; and of no others
abbrev pub value_cmp : Value → Value → Option Ordering
value_cmp (Numeric a) b = against_number a b
value_cmp WideNumber b = None
value_cmp (Logical a) b = against_boolean a b
value_cmp IllFormed b = None
value_cmp (Simple a) b = against_string a b
value_cmp (Temporal a) b = against_moment a b
value_cmp (Tagged text tag) b = None
value_cmp Opaque b = None
value_cmp Resource b = None

-- whether a term is a literal
abbrev pub is_literal : Term → Bool
is_literal (Iri iri) = false
is_literal (Blank label) = false
is_literal (Literal text datatype tag) = true

-- equality where the values have no order: of one term, and else unknown for literals and false for all others
abbrev pub same_or_unknown : Term → Term → Option Bool
same_or_unknown a b =
    if same_term a b then Some true
    else if is_literal a && is_literal b then None
    else Some false

-- equality by the order of the values, where there is one
abbrev pub equal_by : Option Ordering → Term → Term → Option Bool
equal_by (Some order) a b = Some (is_eq order)
equal_by None a b = same_or_unknown a b

-- a = b (SPARQL 1.1, sections 17.3 and 17.4.1.7)
abbrev pub equal : Term → Term → Option Bool
equal a b = equal_by (value_cmp (value_of a) (value_of b)) a b

-- a < b (SPARQL 1.1, section 17.3)
abbrev pub less : Term → Term → Option Bool
less a b = option_map is_lt (value_cmp (value_of a) (value_of b))
