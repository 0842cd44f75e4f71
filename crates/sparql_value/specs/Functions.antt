-- The functions over the values of their arguments (SPARQL 1.1, section 17.4). None is the error, also of an argument; an
-- argument that is not there counts as one, and further arguments do not count.
use Rattle.std.specs.Prelude.{ℕ, zero, suc, Bool, true, false, ◌||◌, ◌==◌, if◌then◌else◌, List, [], ◌∷◌, ◌++◌, length, Option, Some, None, is_some, unwrap_or, option_map, option_and_then, pos}
use Rattle.std.specs.List.{starts_with, ends_with}
use Rattle.std.specs.Option.{option_or}
use Rattle.std.specs.Result.{result_ok}
use Rattle.std.specs.Str.{bytes_eq, chars}
use Rattle.term_core.specs.declared.term.Term.{Term}
use Rattle.term_core.specs.declared.term.Term.TheVariants.{Iri, Blank, Literal}
use Rattle.term_core.specs.Mappings.{same_term}
use Rattle.term_core.specs.Numbers.{Whole, absolute, is_empty}
use Rattle.value_table.specs.Values.{Value, Numeric, WideNumber, Logical, IllFormed, Simple, Temporal, Tagged, Opaque, Resource, value_of, kept_number, is_literal}
use Rattle.sparql_tree.specs.declared.words.Function.{Function}
use Rattle.sparql_tree.specs.declared.words.Function.TheVariants as functions
use Rattle.sparql_value.specs.MadeTerms.{boolean_term, number_term, simple_term, string_term}
use Rattle.sparql_value.specs.Operators.{as_truth, on_both}

-- the kinds of terms (SPARQL 1.1, sections 17.4.2.1 and 17.4.2.2)
abbrev pub is_iri_term : Term → Bool
is_iri_term (Iri iri) = true
is_iri_term (Blank label) = false
is_iri_term (Literal text datatype tag) = false

abbrev pub is_blank_term : Term → Bool
is_blank_term (Iri iri) = false
is_blank_term (Blank label) = true
is_blank_term (Literal text datatype tag) = false

-- the text of an IRI or a literal (SPARQL 1.1, section 17.4.2.5)
abbrev pub str_of : Term → Option Term
str_of (Iri iri) = Some (simple_term iri)
str_of (Blank label) = None
str_of (Literal text datatype tag) = Some (simple_term text)

-- the tag of a literal (SPARQL 1.1, section 17.4.2.6)
abbrev pub lang_of_term : Term → Option Term
lang_of_term (Iri iri) = None
lang_of_term (Blank label) = None
lang_of_term (Literal text datatype tag) = Some (simple_term tag)

-- the datatype of a literal (SPARQL 1.1, section 17.4.2.7)
abbrev pub datatype_of_term : Term → Option Term
datatype_of_term (Iri iri) = None
datatype_of_term (Blank label) = None
datatype_of_term (Literal text datatype tag) = Some (Iri datatype)

-- whether a term is a number that is kept (SPARQL 1.1, section 17.4.2.4)
abbrev pub is_numeric : Term → Bool
is_numeric t = is_some (kept_number (value_of t))

-- the absolute value of a number (SPARQL 1.1, section 17.4.4.1)
abbrev pub absolute_of : Term → Option Term
absolute_of t = option_map number_term (option_and_then (λ n. result_ok (absolute n)) (kept_number (value_of t)))

-- a string with a tag, which is empty where there is none
abbrev pub Tagging : Type 0
Tagging = List ℕ × List ℕ

-- a string literal, with a tag or without (SPARQL 1.1, section 17.4.3.1)
abbrev pub string_value : Value → Option Tagging
string_value (Numeric number) = None
string_value WideNumber = None
string_value (Logical truth) = None
string_value IllFormed = None
string_value (Simple text) = Some (text, [])
string_value (Temporal moment) = None
string_value (Tagged text tag) = Some (text, tag)
string_value Opaque = None
string_value Resource = None

-- a term as a string literal
abbrev pub as_string : Term → Option Tagging
as_string t = string_value (value_of t)

-- the second has no tag, or both have the same (SPARQL 1.1, section 17.4.3.1.2, argument compatibility)
abbrev pub is_compatible : Tagging → Tagging → Bool
is_compatible a b = is_empty b.1 || bytes_eq a.1 b.1

-- a test of two compatible strings
abbrev pub on_tagged : (List ℕ → List ℕ → Bool) → Option Tagging → Option Tagging → Option Bool
on_tagged test None b = None
on_tagged test (Some a) None = None
on_tagged test (Some a) (Some b) = if is_compatible a b then Some (test a.0 b.0) else None

abbrev pub on_strings : (List ℕ → List ℕ → Bool) → Term → Term → Option Bool
on_strings test a b = on_tagged test (as_string a) (as_string b)

-- whether a text begins or ends with another, or has it somewhere (SPARQL 1.1, sections 17.4.3.6 to 17.4.3.8)
abbrev pub begins_with : List ℕ → List ℕ → Bool
begins_with text needle = starts_with ◌==◌ text needle

abbrev pub finishes_with : List ℕ → List ℕ → Bool
finishes_with text needle = ends_with ◌==◌ text needle

abbrev pub has_text : List ℕ → List ℕ → Bool
has_text [] needle = is_empty needle
has_text (c ∷ text) needle = begins_with (c ∷ text) needle || has_text text needle

-- a string behind what stands before it, if anything does: a tag stays where both have it
abbrev pub joined_string : Option Tagging → Tagging → Tagging
joined_string None next = next
joined_string (Some a) next = (a.0 ++ next.0, if bytes_eq a.1 next.1 then a.1 else [])

-- strings in a row behind what stands before them, if anything does (SPARQL 1.1, section 17.4.3.12); of nothing the empty string
abbrev pub concat_behind : Option Tagging → List (Option Term) → Option Tagging
concat_behind done [] = Some (unwrap_or done ([], []))
concat_behind done (first ∷ rest) =
    option_and_then (λ next. concat_behind (Some (joined_string done next)) rest) (option_and_then as_string first)

-- how many characters a string literal has (SPARQL 1.1, section 17.4.3.2)
abbrev pub length_of : Term → Option Term
length_of t = option_map (λ s. number_term (Whole (pos (length (chars s.0))))) (as_string t)

-- an argument, counted from 0
abbrev pub argument : ℕ → List (Option Term) → Option Term
argument n [] = None
argument zero (first ∷ rest) = first
argument (suc n) (first ∷ rest) = argument n rest

-- the first without an error (SPARQL 1.1, section 17.4.1.3)
abbrev pub first_valued : List (Option Term) → Option Term
first_valued [] = None
first_valued (first ∷ rest) = option_or first (first_valued rest)

-- a or b, by a truth (SPARQL 1.1, section 17.4.1.2)
abbrev pub choice : Option Bool → Option Term → Option Term → Option Term
choice None a b = None
choice (Some true) a b = a
choice (Some false) a b = b

-- the functions of one term
abbrev pub of_term : Function → Term → Option Term
of_term functions.IsIri t = Some (boolean_term (is_iri_term t))
of_term functions.IsBlank t = Some (boolean_term (is_blank_term t))
of_term functions.IsLiteral t = Some (boolean_term (is_literal t))
of_term functions.IsNumeric t = Some (boolean_term (is_numeric t))
of_term functions.Str t = str_of t
of_term functions.Lang t = lang_of_term t
of_term functions.Datatype t = datatype_of_term t
of_term functions.StrLen t = length_of t
of_term functions.Abs t = absolute_of t
of_term other t = None

-- the tests of two terms
abbrev pub of_terms : Function → Term → Term → Option Bool
of_terms functions.SameTerm a b = Some (same_term a b)
of_terms functions.StrStarts a b = on_strings begins_with a b
of_terms functions.StrEnds a b = on_strings finishes_with a b
of_terms functions.Contains a b = on_strings has_text a b
of_terms other a b = None

-- the functions
abbrev pub called : Function → List (Option Term) → Option Term
called functions.Bound values = Some (boolean_term (is_some (argument 0 values)))
called functions.If values = choice (as_truth (argument 0 values)) (argument 1 values) (argument 2 values)
called functions.Coalesce values = first_valued values
called functions.Concat values = option_map (λ s. string_term s.0 s.1) (concat_behind None values)
called functions.SameTerm values = option_map boolean_term (on_both (of_terms functions.SameTerm) (argument 0 values) (argument 1 values))
called functions.StrStarts values = option_map boolean_term (on_both (of_terms functions.StrStarts) (argument 0 values) (argument 1 values))
called functions.StrEnds values = option_map boolean_term (on_both (of_terms functions.StrEnds) (argument 0 values) (argument 1 values))
called functions.Contains values = option_map boolean_term (on_both (of_terms functions.Contains) (argument 0 values) (argument 1 values))
called function values = option_and_then (of_term function) (argument 0 values)
